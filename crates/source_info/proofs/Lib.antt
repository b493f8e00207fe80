pub mod LineLaws
pub mod RecordLaws
pub mod SourceLaws
pub mod CountLaws
