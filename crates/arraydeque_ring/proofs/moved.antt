pub mod Flat
pub mod Reads
pub mod Round
pub mod TwoMoves
