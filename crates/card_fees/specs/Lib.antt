pub mod Counting
pub mod Due
pub mod Laws
pub mod Limits
pub mod Asked
pub mod DueFee
pub mod DueLaws
pub mod Tallied
