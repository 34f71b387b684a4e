pub mod Laws
pub mod Unmade
