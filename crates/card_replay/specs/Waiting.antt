-- An account with rows that aren't made yet.
pub use Rattle.card_past.specs.Waiting.{StepsAreThoseOfAll, UnmadeRowsLeaveIt, given_by}
