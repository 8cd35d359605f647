pub mod Made
pub mod Names
pub mod Parts
pub mod Placed
pub mod Rings
pub mod Runs
pub mod Slices
