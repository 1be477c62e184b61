-- Accepted tables
pub mod SortedTrees
pub mod KindsAlike
pub mod TreeSizes
pub mod ScopesShown
pub mod GoodForm
pub mod CleanForm
-- Faults
pub mod LowestLaws
pub mod UnboundLaws
pub mod Ordered
pub mod UnfitLaws
pub mod Accepted
pub mod FaultsDecide
