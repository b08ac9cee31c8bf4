pub mod JudgedBy
pub mod Limits
pub mod Asking
pub mod Earlier
pub mod AskingAll
pub mod Settled
pub mod inner
