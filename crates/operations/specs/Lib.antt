-- In reading order.
pub mod Lists
pub mod Aside
pub mod Tests
pub mod Passing
