pub mod Told
pub mod Answers
pub mod Heard
pub mod Outcomes
pub mod Exchanges
pub mod Chains
