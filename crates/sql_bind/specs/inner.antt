pub mod Found
pub mod Items
pub mod Levels
pub mod Meanings
pub mod NameTables
pub mod Passes
