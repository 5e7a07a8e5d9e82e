pub mod Items
pub mod SavedLaws
pub mod Ranges
pub mod Placed
pub mod Theorems
