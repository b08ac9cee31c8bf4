pub mod Known
pub mod Ranks
pub mod Paths
pub mod Leaves
pub mod Reaching
pub mod Sizes
pub mod Writing
