pub mod Exact
pub mod Steps
pub mod Rows
pub mod Left
pub mod Theorems
