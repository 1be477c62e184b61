pub mod Marks
pub mod Writing
pub mod Reading
pub mod Words32
pub mod Put
pub mod Answers
