pub mod StreamLaws
pub mod UnescapeLaws
