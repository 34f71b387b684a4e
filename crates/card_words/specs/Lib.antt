pub mod Demonstrations
pub mod Commands
pub mod Usage
