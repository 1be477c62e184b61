pub mod Searches
pub mod TreeLaws
pub mod Counts
pub mod Judgements
pub mod WalkLaws
