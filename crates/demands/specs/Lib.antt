-- In reading order.
pub mod Refusals
pub mod Demands
pub mod Papers
