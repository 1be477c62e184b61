-- In reading order.
pub mod LoadLaws
pub mod StandLaws
pub mod NodeLaws
pub mod Once
