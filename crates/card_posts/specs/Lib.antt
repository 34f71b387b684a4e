pub mod Change
pub mod Corrections
pub mod Draft
pub mod Effect
pub mod Later
pub mod Order
pub mod Posted
pub mod Stored
