pub mod Headline
pub mod Completeness
