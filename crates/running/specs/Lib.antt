-- In reading order.
pub mod RunCall
pub mod RunBounds
pub mod PlanRun
