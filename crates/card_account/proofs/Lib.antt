mod CreditLemmas
pub mod ClosedCycles
pub mod Few
pub mod Held
pub mod Judging
pub mod NamingLemmas
pub mod Runs
pub mod Telling
pub mod Told
pub mod Recorded
