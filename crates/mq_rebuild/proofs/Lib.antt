pub mod FrontLaws
pub mod RowLaws
pub mod ShelfLaws
pub mod ObjectLaws
pub mod BuildLaws
pub mod SeatLaws
