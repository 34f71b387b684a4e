-- Entries on Held are of disputes alone.
use Rattle.std.proofs.Common.{◌≡◌, ℕ, ◌+◌, ◌-◌, true, List, refl, arith}
use Rattle.std.specs.Prelude.{◌≢◌}
use Rattle.std.specs.List.{All, Contains}
use Rattle.std.proofs.lemmas.List.Elements.{All-contains_itself, All-weaker}
use Rattle.card_events.specs.History.{anchor_of}
use Rattle.card_events.specs.SharedRows.{SharedRows}
use Rattle.card_events.specs.declared.kept.Kept.{Kept}
use Rattle.card_model.specs.Books.{account_of, all_segments}
use Rattle.card_model.specs.Cycles.{IssuedRow, seen_on}
use Rattle.card_model.specs.Entries.{is_kind}
use Rattle.card_model.specs.Folds.{book}
use Rattle.card_model.specs.Segments.{SegmentTerms}
use Rattle.card_model.specs.declared.entry.EntryKind.{EntryKind}
use Rattle.card_model.specs.declared.entry.EntryKind.TheVariants as kind
use Rattle.card_rates.proofs.DayLaws.{segments_of_a_day}
use Rattle.card_book.specs.Compliance.{DisputedAmountsAreLeftAlone, LeavesHeldAlone}
use Rattle.card_book.proofs.EveryEntry.{Adds, of_every_entry, segment_at-there}

-- no segment of a day has the number of Held
abbrev IsNotHeld : ℕ → Type 0
IsNotHeld n = n ≢ 1

none-held : (history : List Kept) (issued : List IssuedRow) (shared : SharedRows) (day : ℕ)
    → All (λ (g : SegmentTerms). IsNotHeld g.id) (all_segments (account_of history) (seen_on (anchor_of history) shared history issued day))
none-held history issued shared day =
    let gs = all_segments (account_of history) (seen_on (anchor_of history) shared history issued day) in
    All-weaker (Contains gs) (λ (g : SegmentTerms). IsNotHeld g.id)
    (λ g c e. let there = segments_of_a_day.there shared.holidays history g (segments_of_a_day.stay history issued shared day g c) in let low = there.0 in omega (arith, low, e)) gs (All-contains_itself gs)

not-both : (k : EntryKind) → is_kind kind.Payment k ≡ true → is_kind kind.Hold k ≡ true → ⊥
not-both kind.Charge e f = cc
not-both kind.Credit e f = cc
not-both kind.Payment e f = cc
not-both kind.Return e f = cc
not-both kind.Refund e f = cc
not-both kind.Fee e f = cc
not-both kind.Interest e f = cc
not-both kind.Hold e f = cc

adds : (history : List Kept) (issued : List IssuedRow) (shared : SharedRows) (day : ℕ) → Adds IsNotHeld LeavesHeldAlone (account_of history) (seen_on (anchor_of history) shared history issued day)
adds history issued shared day =
    let gs = all_segments (account_of history) (seen_on (anchor_of history) shared history issued day) in
    let none = none-held history issued shared day in
    record {
      credit = λ e. omega (arith, e);
      purchase = λ e. omega (arith, e);
      each = none;
      other = λ k n s z o h e. absurd (h e);
      hold = λ n s z e. refl;
      charge = λ at n z e. absurd (segment_at-there IsNotHeld at day gs (λ i. omega (arith, i)) none e);
      used = λ n z e. absurd (omega (arith, e));
      part = λ x h pay one. not-both x.kind pay (h one);
    }

pub disputed_amounts_are_left_alone : DisputedAmountsAreLeftAlone
unfolding book
disputed_amounts_are_left_alone history issued shared day =
    of_every_entry IsNotHeld LeavesHeldAlone issued (account_of history) (seen_on (anchor_of history) shared history issued) (day + 1 - (anchor_of history).opened)
    (λ d. adds history issued shared d)
