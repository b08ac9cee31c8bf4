pub mod System
pub mod Rings
pub mod Answer
pub mod inner
