pub mod Seen
pub mod Inequalities
pub mod Branches
