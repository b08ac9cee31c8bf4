pub mod Every
pub mod ByParts
mod RowLists
mod Selected
mod Truths
mod Listed
mod Replaced
mod Decided
mod FitLayers
mod FitInside
mod FitReplaced
mod Conjuncts
mod Counts
mod RoomInside
mod Room
