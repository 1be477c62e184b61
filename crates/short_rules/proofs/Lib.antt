-- S1
-- A rule's leaves; when the rules fit, and what they list
pub mod LeafSteps
pub mod FitLaws
pub mod ListLaws
