pub mod Requests
pub mod Replies
pub mod Promises
pub mod Examples
