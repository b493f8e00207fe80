pub mod RoomLaws
pub mod FittingLaws
