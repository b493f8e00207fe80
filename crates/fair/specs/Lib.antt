pub mod FairRecords
