pub mod CharLaws
pub mod StretchLaws
