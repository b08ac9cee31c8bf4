pub mod Preorder
pub mod Graph
pub mod Terms
pub mod Stops
pub mod inner
