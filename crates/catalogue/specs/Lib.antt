pub mod Judging
pub mod Stored
