pub mod Wanted
pub mod Said
pub mod CommandLine
pub mod WantedOf
pub mod Worked
pub mod inner
