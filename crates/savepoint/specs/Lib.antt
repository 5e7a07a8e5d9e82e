pub mod Saved
pub mod Calls
pub mod Ranges
pub mod Placed
pub mod Theorems
pub mod Examples
