pub mod FormLaws
pub mod At
