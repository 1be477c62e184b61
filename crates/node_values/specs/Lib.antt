-- In reading order.
pub mod Standing
pub mod NodeRun
