pub mod deque
