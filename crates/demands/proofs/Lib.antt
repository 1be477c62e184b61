-- In reading order.
pub mod PlansRight
pub mod PlanWritten
pub mod AnswerLaws
pub mod Demand3
pub mod LineLaws
pub mod RoomLaws
pub mod TranslateTable
pub mod RunTable
pub mod TextTable
pub mod Demand1
pub mod Demand2
pub mod Papers
