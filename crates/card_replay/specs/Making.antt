-- Making the rows that aren't made, one after the other.
pub use Rattle.card_past.specs.Making.{AreToMake, AreToMakeBeside, folded_at}
