pub mod Answers
pub mod FindsOneRow
pub mod AlwaysMeans
