pub mod TariffLaws
pub mod Worked
