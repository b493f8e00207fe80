pub mod Reads
pub mod Symbols
pub mod Debug
pub mod Labels
pub mod LineRows
pub mod RowCells
