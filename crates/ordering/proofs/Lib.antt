-- In reading order.
pub mod OfferLaws
pub mod AscendLaws
