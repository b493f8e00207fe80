pub mod Linker
