pub mod Measured
pub mod Rooms
