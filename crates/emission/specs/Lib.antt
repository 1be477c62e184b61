-- A node's list, a select, an operation on two values, and what a call leaves that appends nodes
pub mod NodeLists
pub mod Selects
pub mod Joins
pub mod Written
-- The heavy operations in a plan's words
pub mod HeavyCount
