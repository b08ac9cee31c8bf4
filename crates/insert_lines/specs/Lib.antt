pub mod InsertOrder
pub mod InsertText
pub mod Examples
