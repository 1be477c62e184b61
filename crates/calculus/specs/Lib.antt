-- In reading order. Document 01, "The question" and "Translation"; document 000, sections 2.1 and 3.
pub mod Question
pub mod Meaning
pub mod Scope
pub mod Form
pub mod Leaves
pub mod ShortRules
pub mod Translation
pub mod Claims
pub mod PaperExamples
pub mod DeskExample
