pub mod NameLaws
pub mod CacheLaws
pub mod TableLaws
pub mod JoinLaws
