-- Reading and writing undo one another
pub mod Judgements
pub mod ReadingLaws
pub mod WritingLaws
pub mod RoundTrip
-- What a caller learns
pub mod Rooms
pub mod LineNumbers
-- The first wrong line
pub mod SameLines
pub mod Completed
pub mod FirstWrong
