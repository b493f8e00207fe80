pub mod NumberLaws
pub mod CellLaws
pub mod HeaderLaws
pub mod DigitLaws
pub mod TableLaws
