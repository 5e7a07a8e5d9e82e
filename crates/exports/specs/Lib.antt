pub mod Run
pub mod Refusals
pub mod Asking
pub mod Restoring
