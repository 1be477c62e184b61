-- In reading order. Document 01, "What the desk holds", "The plan" and "Running"; document 000, section 2.2.
pub mod Limits
pub mod Lists
pub mod Rows
pub mod Values
pub mod Comparison
pub mod Columns
pub mod Meanings
pub mod Operations
pub mod Nodes
pub mod Machine
pub mod Plan
pub mod Legality
pub mod PlanWords
