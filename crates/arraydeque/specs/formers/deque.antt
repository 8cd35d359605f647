pub mod ArrayDeque
