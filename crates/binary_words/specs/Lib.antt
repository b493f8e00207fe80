pub mod RecordAt
pub mod Apart
