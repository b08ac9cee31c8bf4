pub mod Placing
pub mod Fitting
