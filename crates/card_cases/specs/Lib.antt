pub mod Account
pub mod Aged
pub mod Alone
