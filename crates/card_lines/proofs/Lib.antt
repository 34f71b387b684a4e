mod NumberLemmas
mod FieldLemmas
mod SpaceLemmas
pub mod TextRules
pub mod DatedLemmas
mod NameLemmas
