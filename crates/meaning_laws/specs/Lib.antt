pub mod Connectives
pub mod SubqueryValues
pub mod SameRows
