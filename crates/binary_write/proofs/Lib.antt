pub mod PartLaws
pub mod RoomLaws
pub mod PlaceLaws
pub mod StartLaws
pub mod FileLaws
pub mod HeaderLaws
