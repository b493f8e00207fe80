pub mod WhiteLaws
pub mod TrimLaws
pub mod SpanLaws
