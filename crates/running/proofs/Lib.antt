-- In reading order.
pub mod SizeLaws
pub mod NextLaws
pub mod RunLaws
pub mod Once
pub mod OutcomeLaws
pub mod RunBounds
