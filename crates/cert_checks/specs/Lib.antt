pub mod Named
pub mod Checks
pub mod AcceptedLines
pub mod inner
