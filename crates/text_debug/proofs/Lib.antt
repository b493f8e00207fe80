pub mod RunLaws
pub mod LineTableLaws
pub mod DebugGroupLaws
