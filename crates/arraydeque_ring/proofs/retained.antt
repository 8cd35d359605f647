pub mod First
pub mod Retaining
pub mod Writing
