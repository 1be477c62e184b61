-- In reading order.
pub mod Words
pub mod Orders
pub mod Places
pub mod Building
