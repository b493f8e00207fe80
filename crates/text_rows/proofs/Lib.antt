pub mod JoinLaws
pub mod TakenLaws
pub mod FileLaws
pub mod SkipLaws
pub mod StepLaws
pub mod KindLaws
