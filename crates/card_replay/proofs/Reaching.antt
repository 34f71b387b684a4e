-- One step of a fold to a day.
pub use Rattle.card_past.proofs.Reaching.{one-step}
