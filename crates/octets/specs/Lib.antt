pub mod Logic
pub mod Bytes
pub mod Put
pub mod Field
pub mod Moves
pub mod Turn
pub mod Lent
