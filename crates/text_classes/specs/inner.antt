pub mod Nodes
pub mod Forest
pub mod Fresh
