-- In reading order.
pub mod KeyLaws
pub mod TriedLaws
