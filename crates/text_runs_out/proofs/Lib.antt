pub mod StartLaws
pub mod RunLaws
