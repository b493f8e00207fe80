pub mod TextLaws
pub mod KindLaws
pub mod WalkLaws
pub mod MeasureLaws
