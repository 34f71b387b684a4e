pub mod Kept
pub mod Faults
pub mod Told
pub mod Closed
pub mod Calls
pub mod Connected
pub mod Waiting
pub mod Reading
