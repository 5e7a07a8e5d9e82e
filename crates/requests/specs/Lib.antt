pub mod Room
pub mod Upto
pub mod Slots
pub mod Legal
pub mod Theorems
pub mod Examples
