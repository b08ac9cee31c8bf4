pub mod Counts
pub mod ScalarWithout
