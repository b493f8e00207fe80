pub mod StreamLaws
pub mod JoinLaws
pub mod RoomLaws
pub mod FileLaws
