pub mod HalfOpen
pub mod Parts
pub mod Standing
