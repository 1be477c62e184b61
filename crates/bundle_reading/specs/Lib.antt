pub mod ReadAnswer
pub mod Answers
