pub mod Pad
pub mod Request
pub mod Theorems
pub mod Examples
