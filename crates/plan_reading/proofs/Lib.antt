pub mod WordLaws
pub mod ShapeLaws
pub mod OperatorLaws
pub mod DecodeLaws
pub mod ListedLaws
pub mod LegalLaws
pub mod JudgeLaws
pub mod PlanTheorem
