-- Pasts that begin with another.
use Rattle.std.proofs.Common.{◌≡◌, ℕ, ◌≤◌, List, length, length-take, take, refl, sym, ap, ◌∙◌, arith, Option}
use Rattle.std.specs.Global.{Vec}
use Rattle.std.proofs.lemmas.List.{take-take}
use Rattle.card_daily.proofs.Standing.{begins-same}
use Rattle.card_daily.specs.Stands.{Begins}
use Rattle.card_daily.specs.declared.track.Track.{Track}
use Rattle.card_book.proofs.Steps.{begins-then}
use Rattle.card_past.specs.Pasts.{PastBegins}
use Rattle.card_past.specs.declared.past.Past.{Past}

pub track-begins : (t : Track) → Begins t t
track-begins t = record {
  entries = begins-same t.entries.items t.entries.items refl;
  cycles = begins-same t.cycles.items t.cycles.items refl;
  fees = begins-same t.fees.items t.fees.items refl;
}

-- a past that didn't grow
pub past-same : (p : Past) → PastBegins p p
past-same p = record { track = track-begins p.track; since = begins-same p.since.items p.since.items refl; accrued = begins-same p.accrued.items p.accrued.items refl }

-- one with the same days in a list of its own
pub grown-since : (p : Past) (since : Vec (Option ℕ)) → since.items ≡ p.since.items → PastBegins p (record { track = p.track; since = since; accrued = p.accrued })
grown-since p since e = record { track = track-begins p.track; since = begins-same p.since.items since.items e; accrued = begins-same p.accrued.items p.accrued.items refl }

-- ---- one after the other
pub list-then : {A : Type 0} (xs ys zs : List A) → take (length xs) ys ≡ xs → take (length ys) zs ≡ ys → length xs ≤ length ys → take (length xs) zs ≡ xs
list-then xs ys zs e f l = sym (take-take (length xs) (length ys) zs l) ∙ (ap (take (length xs)) f ∙ e)

pub no-longer : {A : Type 0} (old new : List A) → take (length old) new ≡ old → length old ≤ length new
no-longer old new e =
    let count = ap (λ l. length l) e in
    let long = length-take (length old) new in
    omega (arith, count, long)

pub past-then : (p q r : Past) → PastBegins p q → PastBegins q r → PastBegins p r
past-then p q r h k = record {
  track = begins-then p.track q.track r.track h.track k.track;
  since = list-then p.since.items q.since.items r.since.items h.since k.since (no-longer p.since.items q.since.items h.since);
  accrued = list-then p.accrued.items q.accrued.items r.accrued.items h.accrued k.accrued (no-longer p.accrued.items q.accrued.items h.accrued);
}

-- where the track alone grew
pub past-with : (p : Past) (t : Track) → Begins p.track t → PastBegins p (record { track = t; since = p.since; accrued = p.accrued })
past-with p t h = record { track = h; since = begins-same p.since.items p.since.items refl; accrued = begins-same p.accrued.items p.accrued.items refl }
