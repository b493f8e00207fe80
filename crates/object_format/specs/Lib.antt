pub mod Forms
pub mod TripSteps
