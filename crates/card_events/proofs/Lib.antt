pub mod Texts
pub mod Counts
pub mod Dates
pub mod DateFacts
mod Examples
pub mod Months
pub mod Cycles
pub mod Answered
mod Starts
pub mod Holidays
pub mod Business
pub mod DueDays
pub mod MailDays
pub mod LaterDays
pub mod DueLaws
pub mod MailLaws
pub mod Agree
pub mod OneMore
pub mod Keys
pub mod IndexRows
