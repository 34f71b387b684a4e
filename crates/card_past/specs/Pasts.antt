-- What is recorded of an account up to the day last reached, and its front up to an earlier day.
use Rattle.std.specs.Prelude.{◌≡◌, ◌≤◌, [], length, take}
use Rattle.card_daily.specs.Stands.{Begins}
use Rattle.card_past.specs.declared.past.Ends.{Ends}
use Rattle.card_past.specs.declared.past.Past.{Past}

-- nothing is recorded
pub record IsEmpty (p : Past) : Type 0 where
  pub entries : p.track.entries.items ≡ []
  pub cycles : p.track.cycles.items ≡ []
  pub fees : p.track.fees.items ≡ []
  pub since : p.since.items ≡ []
  pub accrued : p.accrued.items ≡ []

-- the same is
pub record AreSame (p q : Past) : Type 0 where
  pub entries : q.track.entries.items ≡ p.track.entries.items
  pub cycles : q.track.cycles.items ≡ p.track.cycles.items
  pub fees : q.track.fees.items ≡ p.track.fees.items
  pub since : q.since.items ≡ p.since.items
  pub accrued : q.accrued.items ≡ p.accrued.items

-- how long the lists are
pub record AreEnds (e : Ends) (p : Past) : Type 0 where
  pub entries : e.entries ≡ length p.track.entries.items
  pub cycles : e.cycles ≡ length p.track.cycles.items
  pub fees : e.fees ≡ length p.track.fees.items
  pub since : e.cycles ≡ length p.since.items
  pub accrued : e.accrued ≡ length p.accrued.items

-- they aren't shorter
pub record AreWithin (e : Ends) (p : Past) : Type 0 where
  pub entries : e.entries ≤ length p.track.entries.items
  pub cycles : e.cycles ≤ length p.track.cycles.items
  pub fees : e.fees ≤ length p.track.fees.items
  pub since : e.cycles ≤ length p.since.items
  pub accrued : e.accrued ≤ length p.accrued.items

-- the front of each list
pub record IsFront (e : Ends) (p front : Past) : Type 0 where
  pub entries : front.track.entries.items ≡ take e.entries p.track.entries.items
  pub cycles : front.track.cycles.items ≡ take e.cycles p.track.cycles.items
  pub fees : front.track.fees.items ≡ take e.fees p.track.fees.items
  pub since : front.since.items ≡ take e.cycles p.since.items
  pub accrued : front.accrued.items ≡ take e.accrued p.accrued.items

-- before the first of each list
pub record AreFirst (e : Ends) : Type 0 where
  pub entries : e.entries ≡ 0
  pub cycles : e.cycles ≡ 0
  pub fees : e.fees ≡ 0
  pub accrued : e.accrued ≡ 0

-- each list begins with what it held
pub record PastBegins (old new : Past) : Type 0 where
  pub track : Begins old.track new.track
  pub since : take (length old.since.items) new.since.items ≡ old.since.items
  pub accrued : take (length old.accrued.items) new.accrued.items ≡ old.accrued.items
