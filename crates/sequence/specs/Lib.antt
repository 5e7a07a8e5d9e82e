pub mod Numbering
pub mod Sending
pub mod Promises
pub mod Examples
