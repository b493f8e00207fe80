pub mod TestLaws
pub mod LineLaws
pub mod RowLaws
pub mod ShortLaws
