pub mod FullCases
pub mod Leading
pub mod Parts
pub mod inner
