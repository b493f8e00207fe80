pub mod ToBinary
