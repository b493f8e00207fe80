pub mod CharLaws
pub mod TableLaws
pub mod PlaceLaws
