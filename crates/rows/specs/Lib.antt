pub mod State
pub mod Theorems
pub mod Examples
