pub mod TextLaws
pub mod PartLaws
pub mod FileLaws
