pub mod Running
pub mod Theorems
