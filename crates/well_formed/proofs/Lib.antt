pub mod RunLaws
pub mod KeyLaws
pub mod StepLaws
pub mod KindLaws
pub mod WalkLaws
pub mod NumberLaws
