pub mod Generator
pub mod Requests
pub mod Progress
pub mod Sums
pub mod Summary
pub mod Laws
pub mod Worked
