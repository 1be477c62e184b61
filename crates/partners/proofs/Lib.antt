-- In reading order.
pub mod SpanLaws
pub mod SieveLaws
pub mod BoundSteps
pub mod RestLaws
