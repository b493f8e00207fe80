pub mod ReadLaws
pub mod SymbolLaws
pub mod DebugLaws
pub mod LabelLaws
pub mod LineRowLaws
pub mod CellLaws
pub mod WrittenLaws
pub mod GroupLaws
