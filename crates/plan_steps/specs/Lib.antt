-- What is wanted of a condition, and the ways of a quantifier
pub mod Quantifying
-- A range's outcome, and an alpha's project
pub mod Ranges
pub mod Targets
