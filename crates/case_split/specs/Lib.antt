pub mod Choices
pub mod Cases
pub mod Trees
pub mod Trails
pub mod Answers
pub mod Fitting
pub mod inner
