mod Examples
pub mod fills
pub mod gaps
pub mod InTwo
pub mod LastPopped
pub mod linearize
pub mod Masks
pub mod loans
pub mod memory
pub mod moved
pub mod Opened
pub mod places
pub mod retained
mod Written
