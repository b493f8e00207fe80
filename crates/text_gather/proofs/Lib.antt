pub mod KeyLaws
pub mod OrderLaws
