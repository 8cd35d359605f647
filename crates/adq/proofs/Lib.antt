pub mod Ended
pub mod FirstWord
pub mod LinesRead
pub mod ListText
pub mod Numbers
pub mod SpelledOnce
pub mod Spelling
pub mod ValuesRead
