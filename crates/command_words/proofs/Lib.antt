pub mod Behind
pub mod Numerals
pub mod WordForms
pub mod Lines
pub mod Gives
pub mod Grammar
