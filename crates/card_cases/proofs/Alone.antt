-- The account of the cases with its opening alone may be folded, and its fold to 2024-03-10 takes five steps.
use Rattle.std.proofs.Common.{◌≡◌, ℕ, ◌+◌, ◌<◌, Bool, false, List, [], ◌∷◌, refl, sym, ap, ◌∙◌, subst, arith, true, Option, Some, None, inl}
use Rattle.std.proofs.lemmas.List.Elements.{All-cons, All-nil}
use Rattle.std.proofs.lemmas.List.Sorted.{IsNonDecreasingBy-short}
use Rattle.std.specs.List.{All, count_by}
use Rattle.card_events.specs.Billing.{closing}
use Rattle.card_events.specs.Dated.{is_dated_post}
use Rattle.card_events.specs.History.{adds_segment, anchor_of, corrected}
use Rattle.card_events.specs.declared.kept.Kept.{Kept}
use Rattle.card_model.specs.Accepted.{HasFewCents, HasFewFees, HasFewRates}
use Rattle.card_model.specs.Breaks.{is_break}
use Rattle.card_model.specs.Caps.{row_for}
use Rattle.card_model.specs.Cycles.{IssuedRow}
use Rattle.card_model.specs.Deadlines.{resolves}
use Rattle.card_model.specs.Everything.{everything}
use Rattle.card_model.specs.Refusals.{IsBilledLater, bills}
use Rattle.card_model.specs.Spans.{IsSpan, steps_among}
use Rattle.card_model.specs.declared.segment.Interval.{Interval}
use Rattle.card_model.proofs.Spans.{spans_are_steps}
use Rattle.card_daily.specs.Given.{AreInTurn, EndsWithAClosing, Given, IsSound, NamePayments, account_in, book_on, opened_in}
use Rattle.card_book.specs.Stands.{steps_over}
use Rattle.card_cases.specs.Account.{opening}
use Rattle.card_cases.specs.Alone.{IsAlone, alone, given_alone}

pub no-days : (days : ℕ × ℕ) (o : Option (ℕ × ℕ)) → o ≡ None → o ≡ Some days → ⊥
no-days days o e f = cc

pub no-bill : (b : Bool) → b ≡ false → b ≡ true → ⊥
no-bill b e f = cc

abbrev kept : ℕ → List ℕ → ℕ → Kept
kept n key accepted = record { number = n; key = key; accepted = accepted; post = opening }

dated : (n : ℕ) (key : List ℕ) (accepted : ℕ) → All (λ (k : Kept). is_dated_post k.post ≡ true) (alone n key accepted)
unfolding is_dated_post
dated n key accepted = All-cons (λ (k : Kept). is_dated_post k.post ≡ true) (kept n key accepted) [] refl (All-nil (λ (k : Kept). is_dated_post k.post ≡ true))

names-none : (n : ℕ) (key : List ℕ) (accepted : ℕ) → NamePayments (alone n key accepted) 1 (alone n key accepted)
unfolding NamePayments
names-none n key accepted = (tt, tt)

in-turn : (n : ℕ) (key : List ℕ) (accepted : ℕ) → AreInTurn (record { posts = alone n key accepted; issued = [] })
in-turn n key accepted =
    let k = kept n key accepted in
    let a = anchor_of (alone n key accepted) in
    record {
      accepted = IsNonDecreasingBy-short (λ (x : Kept). x.accepted) (k ∷ []) (omega arith);
      billed = All-cons (IsBilledLater a) k [] (λ cycle is. absurd (no-bill (bills cycle opening) refl is)) (All-nil (IsBilledLater a));
      issued = IsNonDecreasingBy-short (λ (r : IssuedRow). r.day) [] (omega arith);
      later = All-nil (λ (r : IssuedRow). closing a r.cycle < r.day);
    }

pub sound : (n : ℕ) (key : List ℕ) (accepted : ℕ) → IsSound (given_alone (alone n key accepted))
sound n key accepted =
    let k = kept n key accepted in
    let ks = alone n key accepted in
    record {
      accepted = record {
        count = omega arith;
        terms = record { first_close_day = omega arith; last_close_day = omega arith; floor = omega arith; pct = omega arith };
        cents = All-cons HasFewCents k [] (omega arith) (All-nil HasFewCents);
        rates = All-cons HasFewRates k [] (omega arith) (All-nil HasFewRates);
        resolved = λ m. let count : count_by (λ (x : Kept). resolves m x.post) ks ≡ 0 = refl in omega (arith, count);
        single = All-nil (λ (r : IssuedRow). row_for r.cycle [] ≡ Some r);
      };
      fees = All-nil HasFewFees;
      segments = (let count : count_by (λ (x : Kept). adds_segment x.post) ks ≡ 0 = refl in omega (arith, count));
      dated = dated n key accepted;
      opening = record { first = omega arith; last = omega arith; close_day = (omega arith, omega arith) };
      plans = All-cons (EndsWithAClosing (anchor_of ks)) k [] (λ first end e. absurd (no-days (first, end) None refl e)) (All-nil (EndsWithAClosing (anchor_of ks)));
      returns = names-none n key accepted;
      in_turn = in-turn n key accepted;
    }

pub sound-of : (history : List Kept) → IsAlone history → IsSound (given_alone history)
sound-of history h = subst (λ ks. IsSound (given_alone ks)) (sym h.is) (sound h.number h.key h.accepted)

-- ---- how many steps its fold takes
no-penalties : (n : ℕ) (key : List ℕ) (accepted : ℕ) → (book_on (given_alone (alone n key accepted)) 19792).penalties ≡ []
unfolding everything
no-penalties n key accepted = refl

abbrev pub breaks_by : Given → List Interval → ℕ → Bool
breaks_by g penalties = is_break (account_in g) (corrected (anchor_of g.history) g.shared.holidays g.history) g.issued g.shared.index penalties

abbrev steps_with : ℕ → Given → List Interval → ℕ
steps_with first g penalties = steps_among (breaks_by g penalties) first 19792

behind-opening : (n : ℕ) (key : List ℕ) (accepted : ℕ) → steps_with 19729 (given_alone (alone n key accepted)) [] ≡ 4
unfolding everything
behind-opening n key accepted = refl

opening-breaks : (n : ℕ) (key : List ℕ) (accepted : ℕ) → breaks_by (given_alone (alone n key accepted)) [] 19728 ≡ true
unfolding everything
opening-breaks n key accepted = refl

-- the opening day is a step of its own
from-opening : (n : ℕ) (key : List ℕ) (accepted : ℕ) → steps_with 19728 (given_alone (alone n key accepted)) [] ≡ 5
from-opening n key accepted =
    let breaks : ℕ → Bool = breaks_by (given_alone (alone n key accepted)) [] in
    let first : IsSpan breaks 19728 0 19792 = record { quiet = λ i l. absurd (omega (arith, l)); within = omega arith; ends = inl (opening-breaks n key accepted) } in
    spans_are_steps.one breaks 19728 0 19792 first ∙ ap (λ k. 1 + k) (behind-opening n key accepted)

five : (n : ℕ) (key : List ℕ) (accepted : ℕ) → steps_over (given_alone (alone n key accepted)) 19792 19728 ≡ 5
five n key accepted = ap (steps_with 19728 (given_alone (alone n key accepted))) (no-penalties n key accepted) ∙ from-opening n key accepted

pub four : (n : ℕ) (key : List ℕ) (accepted : ℕ) → steps_over (given_alone (alone n key accepted)) 19792 19729 ≡ 4
four n key accepted = ap (steps_with 19729 (given_alone (alone n key accepted))) (no-penalties n key accepted) ∙ behind-opening n key accepted

pub five-steps : (g : Given) (history : List Kept) → IsAlone history → g ≡ given_alone history → steps_over g 19792 19728 ≡ 5
five-steps g history h e = ap (λ x. steps_over x 19792 19728) e ∙ subst (λ ks. steps_over (given_alone ks) 19792 19728 ≡ 5) (sym h.is) (five h.number h.key h.accepted)

pub opened-alone : (g : Given) (history : List Kept) → IsAlone history → g ≡ given_alone history → opened_in g ≡ 19728
opened-alone g history h e = ap opened_in e ∙ ap (λ ks. opened_in (given_alone ks)) h.is
