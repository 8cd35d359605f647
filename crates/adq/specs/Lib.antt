pub mod Line
pub mod Run
pub mod Text
