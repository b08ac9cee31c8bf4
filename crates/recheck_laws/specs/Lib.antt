pub mod Rechecked
pub mod Unhindered
