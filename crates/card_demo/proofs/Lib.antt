pub mod NameLemmas
pub mod DayLemmas
pub mod PieceLemmas
pub mod RunLemmas
pub mod LedgerLemmas
pub mod SumLemmas
pub mod SummaryLemmas
