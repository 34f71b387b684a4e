pub mod Accounts
pub mod Closed
pub mod Entries
pub mod Reached
pub mod Verdicts
pub mod Works
pub mod Runs
