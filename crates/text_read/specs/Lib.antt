pub mod SourceText
pub mod Parts
