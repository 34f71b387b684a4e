mod RowText
mod EntryLemmas
mod DatedLemmas
mod RecordLemmas
mod ItemLemmas
mod HeaderLemmas
mod Repaid
