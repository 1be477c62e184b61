-- What the code's loops carry
pub mod ReadingSteps
pub mod BehindLines
pub mod CarriesTables
pub mod BundleLaws
-- What a caller learns
pub mod Rooms
-- One outcome for each contract
pub mod Once
