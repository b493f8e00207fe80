pub mod Passing
pub mod Sources
