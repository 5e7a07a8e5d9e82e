pub mod Room
pub mod Runs
pub mod Steps
pub mod Parts
pub mod Counting
pub mod Theorems
pub mod Examples
