-- What is recorded of an account up to the day last reached, and its front up to an earlier day.
pub use Rattle.card_past.specs.Pasts.{AreEnds, AreFirst, AreSame, AreWithin, IsEmpty, IsFront, PastBegins}
