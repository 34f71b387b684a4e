pub mod Forms
pub mod Fields
pub mod Words
pub mod Posts
pub mod Lines
pub mod Replies
