pub mod Crossing
pub mod Fewest
pub mod GapMoves
pub mod Gapped
pub mod Turned
