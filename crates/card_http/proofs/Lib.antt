pub mod LedgerLemmas
pub mod ExchangeLemmas
