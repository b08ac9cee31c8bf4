pub mod Variables
pub mod Nearness
pub mod Translated
