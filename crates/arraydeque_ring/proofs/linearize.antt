pub mod Rotating
pub mod Underway
