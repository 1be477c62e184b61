-- In reading order.
pub mod ListLaws
pub mod RowSteps
pub mod FillSteps
pub mod TestLaws
pub mod CopyLaws
pub mod MadeLaws
