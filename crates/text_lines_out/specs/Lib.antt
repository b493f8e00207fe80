pub mod Merge
pub mod Lines
pub mod Runs
pub mod Walk
