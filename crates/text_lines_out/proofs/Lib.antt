pub mod MergeLaws
pub mod LineLaws
pub mod WidthLaws
pub mod BlockLaws
pub mod TableLaws
pub mod SourceLaws
