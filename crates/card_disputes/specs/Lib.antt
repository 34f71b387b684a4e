pub mod Dues
pub mod Ends
pub mod Histories
pub mod Increases
pub mod Notices
pub mod Waits
