pub mod Texts
pub mod Statements
pub mod Order
pub mod Loading
pub mod Reading
pub mod Tells
pub mod Fit
pub mod Flushed
