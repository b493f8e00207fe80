pub mod RowLaws
pub mod CharacterLaws
pub mod RoomLaws
pub mod FrameLaws
pub mod HandedLaws
pub mod TableLaws
