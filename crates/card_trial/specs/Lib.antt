pub mod Laws
pub mod Sums
pub mod Totals
pub mod Trial
