pub mod Exact
pub mod Steps
pub mod Event
pub mod Filed
pub mod Theorems
