pub mod AddsUp
pub mod AtClosing
pub mod Chains
pub mod Gathering
pub mod InOrder
pub mod LatestDay
pub mod LineSteps
pub mod MoveSums
mod PackingLaws
mod PackingSteps
pub mod Repayable
pub mod SeenLines
pub mod Steps
pub mod YearSteps
pub mod DayBalances
