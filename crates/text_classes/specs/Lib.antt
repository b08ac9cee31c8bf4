pub mod Texts
pub mod Paths
pub mod Answer
pub mod inner
