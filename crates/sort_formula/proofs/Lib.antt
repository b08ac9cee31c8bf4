pub mod Holding
pub mod Standing
pub mod Fitting
pub mod Below
pub mod LastTable
