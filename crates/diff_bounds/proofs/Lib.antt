pub mod Chains
pub mod Closing
pub mod Exclusion
pub mod Lowering
pub mod Relaxed
pub mod Marking
