pub mod WriteAnswer
