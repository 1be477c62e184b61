pub mod WritingSteps
pub mod WriteLaws
pub mod Rooms
