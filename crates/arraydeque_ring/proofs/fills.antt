pub mod Copied
pub mod Displaced
pub mod Filling
pub mod FromIterator
pub mod InRows
pub mod Laying
