pub mod ScalarLaws
