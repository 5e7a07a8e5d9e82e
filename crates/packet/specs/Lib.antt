pub mod Packet
pub mod Class
pub mod Laws
pub mod Examples
