pub mod PlacesRead
pub mod LengthLaws
pub mod ApartLaws
pub mod SourceLaws
