pub mod Gathering
pub mod Laws
pub mod Lines
pub mod Packing
pub mod Repayable
pub mod Standing
pub mod Years
