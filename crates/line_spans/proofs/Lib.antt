pub mod TrimLaws
