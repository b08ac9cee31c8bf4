pub mod Examples
pub mod SchemaExamples
pub mod FitExamples
pub mod FormulaExamples
pub mod Unasked
