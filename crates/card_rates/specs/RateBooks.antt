-- What the rates of an account are read from, as clauses see it. Rates are in basis points.
use Rattle.std.specs.Prelude.{◌≡◌, ℕ, suc, Bool, List, [], ◌∷◌}
use Rattle.std.specs.List.{fold}
use Rattle.card_events.specs.History.{anchor_of, corrected, is_variable, terms_of}
use Rattle.card_events.specs.SharedRows.{IndexRow}
use Rattle.card_events.specs.declared.kept.Kept.{Kept}
use Rattle.card_model.specs.Rates.{Lowering, bears_as, capped, index_for, lowerings, own, rate_on, starts, with_penalty}
use Rattle.card_model.specs.Segments.{SegmentTerms, segments}
use Rattle.card_model.specs.declared.segment.Interval.{Interval}

-- whether the opening rates follow the index, the penalty rate of the terms, the segments but Credit and Held, all Lowers, and
-- the penalties begun, each in order
pub record Rates : Type 0 where
  pub variable : Bool
  pub penalty : ℕ
  pub segments : List SegmentTerms
  pub lowerings : List Lowering
  pub penalties : List Interval

-- those of all accepted posts, with these penalties begun. The holidays count for none of them
abbrev pub rates_of : List ℕ → List Kept → List Interval → Rates
rates_of holidays history penalties =
    record {
      variable = is_variable history;
      penalty = (terms_of history).penalty;
      segments = segments (anchor_of history) (terms_of history) (corrected (anchor_of history) holidays history);
      lowerings = lowerings (corrected (anchor_of history) holidays history);
      penalties = penalties;
    }

-- the same but for the penalties
abbrev pub with_penalties : List Interval → Rates → Rates
with_penalties penalties r =
    record { variable = r.variable; penalty = r.penalty; segments = r.segments; lowerings = r.lowerings; penalties = penalties }

-- the rate of a segment on a day, under these rows of the index
abbrev pub rate_of : List IndexRow → Rates → ℕ → SegmentTerms → ℕ
rate_of rows r day g = rate_on (index_for r.variable rows day) r.lowerings r.penalty (starts day r.penalties) r.segments day g

-- that of one that is no plan in its period: the own rate, capped by Lowers, or that of a penalty
abbrev pub lasting_rate : List IndexRow → Rates → ℕ → SegmentTerms → ℕ
lasting_rate rows r day g =
    let base = capped r.lowerings (bears_as g) day (own (index_for r.variable rows day) r.segments day g) in
    fold (with_penalty r.lowerings r.penalty (bears_as g) day) base (starts day r.penalties)

-- each segment bears its place as its number, where the first of the list has number n
unfoldable pub AreByNumber : ℕ → List SegmentTerms → Type 0
AreByNumber n [] = Unit {0}
AreByNumber n (g ∷ gs) = (g.id ≡ n) × AreByNumber (suc n) gs
