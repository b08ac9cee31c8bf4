pub mod Examples
pub mod SameRefusal
