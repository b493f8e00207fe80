pub mod Stream
pub mod Unescape
