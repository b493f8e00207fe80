pub mod AfterLaws
pub mod ReadLaws
