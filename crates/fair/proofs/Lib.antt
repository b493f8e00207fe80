pub mod FairLaws
pub mod NameLaws
