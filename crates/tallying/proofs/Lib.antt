-- In reading order.
pub mod CountSteps
pub mod TallySteps
