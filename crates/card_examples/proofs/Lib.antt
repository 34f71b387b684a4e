pub mod Followed
pub mod Refused
