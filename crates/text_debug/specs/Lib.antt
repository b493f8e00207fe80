pub mod LineRuns
pub mod LineTable
pub mod DebugGroup
