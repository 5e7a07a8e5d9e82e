pub mod Exact
pub mod Runs
pub mod Rows
pub mod Steps
pub mod Whole
pub mod Theorems
pub mod Examples
