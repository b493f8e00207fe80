pub mod Tariff
pub mod Worked
