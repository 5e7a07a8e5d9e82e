pub mod Exported
pub mod Shown
pub mod Examples
