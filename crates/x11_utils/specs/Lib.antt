pub mod Packet
pub mod Error
pub mod Promises
pub mod Examples
