pub mod Moderate
pub mod Fronts
pub mod Sums
pub mod Growing
pub mod Numbers
pub mod Verdict
