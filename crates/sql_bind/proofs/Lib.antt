mod FitsAlike
mod FitsBound
mod FitsColumns
mod FitsConditions
mod FitsFlat
mod FitsForms
mod FitsItems
mod FitsKeys
mod FitsLists
mod FitsNamed
mod FitsNames
mod FitsPredicates
mod FitsRules
mod FitsTerms
mod Loops
mod Passes
mod SchemaMade
mod Tables
mod Targets
pub mod ColumnsFound
pub mod Entries
pub mod FitsQueries
pub mod FitsSchemas
pub mod LevelTables
pub mod NameTables
pub mod Parts
pub mod QueryAnswers
pub mod TreeMeanings
pub mod Values
