pub mod Names
pub mod Caches
