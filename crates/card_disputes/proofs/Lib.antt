mod Scans
mod DeadlineLemmas
mod EndLemmas
pub mod FirstWaiting
mod IncreaseLemmas
mod NoticeLemmas
mod ReviewLemmas
mod Sorting
mod TaskOrder
mod TaskLemmas
pub mod SameHolidays
