-- Lists in arrays, the scope
pub mod ScopeLaws
-- Atoms
pub mod AtomLaws
-- What a node reads as, the leaves
pub mod Readings
pub mod OtherNodes
pub mod LeafLaws
