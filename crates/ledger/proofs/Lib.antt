pub mod Balance
pub mod Sessions
pub mod Theorems
pub mod Used
pub mod Many
pub mod RoomLaws
pub mod SendsLaws
pub mod StateLaws
