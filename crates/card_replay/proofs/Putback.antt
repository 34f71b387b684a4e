-- What stands for a past stands for one with the same lists.
use Rattle.std.proofs.Common.{◌≡◌, length, sym, ap, ◌∙◌, subst, arith, Option, Some, None}
use Rattle.card_daily.specs.Given.{Given}
use Rattle.card_daily.specs.declared.track.Track.{Track}
use Rattle.card_book.specs.Marks.{AreMarks}
use Rattle.card_book.specs.Stands.{StandsFor, Summary}
use Rattle.card_replay.specs.Pasts.{AreSame, AreWithin}
use Rattle.card_replay.specs.Replays.{HasMarks, Stands}
use Rattle.card_past.specs.declared.past.Ends.{Ends}
use Rattle.card_past.specs.declared.past.Past.{Past}

-- two tracks with the same lists
pub record HaveSame (t u : Track) : Type 0 where
  pub entries : u.entries.items ≡ t.entries.items
  pub cycles : u.cycles.items ≡ t.cycles.items
  pub fees : u.fees.items ≡ t.fees.items

stands-same : (g : Given) (b : Summary) (t u : Track) → HaveSame t u → StandsFor g b t → StandsFor g b u
stands-same g b t u e h =
    let stand = h.folded.stand in
    record {
      opened = h.opened;
      folded = record {
        stand = record {
          entries = e.entries ∙ stand.entries;
          cycles = e.cycles ∙ stand.cycles;
          fees = e.fees ∙ stand.fees;
          rates = stand.rates;
          segments = stand.segments;
          sums = stand.sums;
          rows = stand.rows;
          accruals = stand.accruals;
        };
        accrued = h.folded.accrued;
      };
      since = h.since;
      tally = h.tally;
    }

-- where there may be no Book
pub kept-same : (g : Given) (b : Option Summary) (t u : Track) → HaveSame t u → Stands g b t → Stands g b u
kept-same g None t u e h = record { entries = e.entries ∙ h.entries; cycles = e.cycles ∙ h.cycles; fees = e.fees ∙ h.fees }
kept-same g (Some b) t u e h = stands-same g b t u e h

pub marks-same : (g : Given) (p q : Past) → AreSame p q → HasMarks g p → HasMarks g q
marks-same g p q e h =
    subst (λ cycles. AreMarks g cycles q.since.items q.accrued.items) (sym e.cycles)
    (subst (λ since. AreMarks g p.track.cycles.items since q.accrued.items) (sym e.since) (subst (λ kept. AreMarks g p.track.cycles.items p.since.items kept) (sym e.accrued) h))

-- and so do the ends within it
pub within-same : (e : Ends) (p q : Past) → AreSame p q → AreWithin e p → AreWithin e q
within-same e p q s h =
    let entries = ap (λ l. length l) s.entries in
    let cycles = ap (λ l. length l) s.cycles in
    let fees = ap (λ l. length l) s.fees in
    let since = ap (λ l. length l) s.since in
    let accrued = ap (λ l. length l) s.accrued in
    record {
      entries = omega (arith, h.entries, entries);
      cycles = omega (arith, h.cycles, cycles);
      fees = omega (arith, h.fees, fees);
      since = omega (arith, h.since, since);
      accrued = omega (arith, h.accrued, accrued);
    }
