-- Numbers and lines, read and written
pub mod Words32
pub mod Numbers
pub mod ReadingLaws
pub mod WritingLaws
-- What the code's loops carry
pub mod Stores
pub mod ReadingSteps
pub mod WritingSteps
pub mod Answered
pub mod Carries
-- One outcome for each contract
pub mod Once
