pub mod Table
pub mod Orders
