pub mod ItemLaws
pub mod ChooseLaws
