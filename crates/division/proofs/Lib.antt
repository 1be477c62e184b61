pub mod DivisionLaws
