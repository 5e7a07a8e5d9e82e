pub mod FedLaws
pub mod Theorems
