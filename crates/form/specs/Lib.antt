pub mod Form
pub mod FormLaws
pub mod At
pub mod Examples
