pub mod Balances
pub mod Unposted
pub mod Holdings
pub mod Sole
pub mod AllocationLaws
pub mod Parts
pub mod Rules
