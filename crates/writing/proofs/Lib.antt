pub mod WriteLaws
pub mod Parts
pub mod EachLaws
pub mod TextLaws
