-- The steps of translating
pub mod RangeSteps
pub mod BindingSteps
pub mod ConditionSteps
pub mod AlphaSteps
pub mod QuantifierSteps
-- One outcome
pub mod Outcomes
