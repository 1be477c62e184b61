-- In reading order.
pub mod Spans
pub mod Sieves
pub mod Bounds
