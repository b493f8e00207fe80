pub mod Span
pub mod WhiteSpace
