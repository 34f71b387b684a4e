mod Aged
mod Alone
mod Reached
