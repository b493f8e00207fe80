pub mod WordLaws
pub mod PutLaws
pub mod RoomLaws
