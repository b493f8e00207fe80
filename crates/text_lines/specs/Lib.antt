pub mod Lines
pub mod Views
pub mod Groups
