-- Stores, a node's list
pub mod Stores
pub mod NodeListLaws
-- What is written
pub mod WrittenLaws
-- Heavy operations
pub mod HeavyLaws
pub mod ProjectLaws
