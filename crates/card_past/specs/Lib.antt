pub mod Pasts
pub mod Foldings
pub mod Rows
pub mod Owes
pub mod Waiting
pub mod Making
