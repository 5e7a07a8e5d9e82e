pub mod ByClass
pub mod EncodingLaws
pub mod Deciding
