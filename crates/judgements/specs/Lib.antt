-- In reading order.
pub mod Faults
pub mod Accepted
