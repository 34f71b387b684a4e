pub mod HeadLemmas
pub mod LinkLemmas
mod NamedLemmas
mod PlaceLemmas
mod RowLemmas
mod RouteLemmas
mod TakenLemmas
pub mod SpellLemmas
