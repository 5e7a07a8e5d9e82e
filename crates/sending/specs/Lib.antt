pub mod Send
pub mod SendLaws
pub mod Fds
pub mod FdsLaws
pub mod Theorems
