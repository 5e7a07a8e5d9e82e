pub mod Plan
pub mod Planned
pub mod Numbered
pub mod Theorems
