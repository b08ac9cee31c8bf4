pub mod Answered
pub mod Behind
pub mod Replacing
pub mod Stops
pub mod Violations
pub mod WholeSubqueries
pub mod inner
