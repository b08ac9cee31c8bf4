pub mod LeadingRows
pub mod Joins
