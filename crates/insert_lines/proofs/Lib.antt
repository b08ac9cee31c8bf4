pub mod Appends
pub mod Quotes
pub mod FirstFound
pub mod PlainWords
