pub mod PlaceLaws
pub mod KeyLaws
pub mod ObjectLaws
pub mod SortLaws
