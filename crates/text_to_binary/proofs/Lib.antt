pub mod BinaryLaws
