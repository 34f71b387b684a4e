pub mod Notices
pub mod Reasons
