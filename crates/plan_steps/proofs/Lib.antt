-- Targets
pub mod TargetLaws
