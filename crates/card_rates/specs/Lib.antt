pub mod Added
pub mod Laws
pub mod Next
pub mod RateBooks
pub mod Settled
pub mod Days
pub mod SlotLaws
pub mod Segments
