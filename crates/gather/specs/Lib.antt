pub mod Window
pub mod Places
pub mod Order
pub mod Tags
pub mod Kinds
