pub mod RunLaws
pub mod WalkLaws
pub mod ScanLaws
