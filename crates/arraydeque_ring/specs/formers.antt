pub mod ring
pub mod slots
