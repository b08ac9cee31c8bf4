pub mod grammar
pub mod inner
pub mod Refusals
