pub mod Theorems
pub mod ServingLaws
pub mod FeedFiled
pub mod Served
pub mod Witness
