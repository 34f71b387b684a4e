-- Statements that an account owes.
pub use Rattle.card_past.specs.Owes.{AreLate, IsBillOf, Late, bills_in, owed_as, owed_by}
unfoldable pub use Rattle.card_past.specs.Owes.{AreLater}
