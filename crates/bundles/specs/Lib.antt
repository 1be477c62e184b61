pub mod Writing
pub mod Reading
pub mod ReadCall
pub mod WriteCall
pub mod RoundTrip
pub mod FirstWrong
