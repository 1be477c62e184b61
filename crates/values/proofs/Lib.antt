-- In reading order: words, the order of rows, values in words, places in a value.
pub mod WordLaws
pub mod OrderLaws
pub mod RowsLaws
pub mod StandLaws
pub mod PlaceLaws
pub mod BuildLaws
pub mod FillLaws
pub mod PutLaws
pub mod ClearLaws
pub mod MakeLaws
pub mod BoundLaws
