-- Shared rows of later days leave what was folded.
use Rattle.std.proofs.Common.{◌≡◌, ℕ, ◌≤◌, Bool, true, false, cond, nat_le, List, [], ◌∷◌, append-nil, length, refl, sym, ap, ◌∙◌, arith, Some}
use Rattle.std.specs.Prelude.{IfSome}
use Rattle.std.specs.List.{filter}
use Rattle.std.proofs.lemmas.Bool.{leb-true, leb-false}
use Rattle.std.proofs.lemmas.List.Elements.{All-nil}
use Rattle.card_events.specs.History.{CorrectedPost, anchor_of, is_variable}
use Rattle.card_events.specs.SharedRows.{FeeRow, IndexRow, SharedRows}
use Rattle.card_events.specs.declared.kept.Kept.{Kept}
use Rattle.card_model.specs.CycleDays.{IsOpening}
use Rattle.card_model.specs.Cycles.{Cycle}
use Rattle.card_model.specs.Folds.{cycle_at}
use Rattle.card_model.specs.Laws.{HistoriesAgree}
use Rattle.card_posts.specs.Posted.{last_accepted}
use Rattle.card_book.proofs.Agreement.{later_rows_agree}
use Rattle.card_book.proofs.GoingOn.{agreement_goes_on}
use Rattle.card_book.proofs.MarksGoOn.{marks_go_on}
use Rattle.card_book.proofs.RatesGoOn.{rates_go_on}
use Rattle.card_book.specs.GoingOn.{Continues, HaveSameRates, sets_rates}
use Rattle.card_past.proofs.Through.{closed-in, continues-through, same-first, stands-on}
use Rattle.card_replay.specs.Replays.{AreLaterRows, Folding, IsEve, IsFolding, IsReplay, Replay, day_of, given_of}

-- ---- agreement up to an earlier day
module _ {A : Type 0} (day : A → ℕ) (x d : ℕ) where
  abbrev up-to : ℕ → List A → List A
  up-to n these = filter (λ a. nat_le (day a) n) these

  one-more : (a : A) (these : List A) → x ≤ d → up-to x (up-to d these) ≡ up-to x these → (s : Bool) → nat_le (day a) d ≡ s → (t : Bool) → nat_le (day a) x ≡ t
      → up-to x (cond s (a ∷ up-to d these) (up-to d these)) ≡ cond t (a ∷ up-to x these) (up-to x these)
  one-more a these l h true e true f = rw f (ap (λ u. a ∷ u) h)
  one-more a these l h true e false f = rw f h
  one-more a these l h false e true f = let low = leb-true (day a) x f in let high = leb-false (day a) d e in absurd (omega (arith, low, high, l))
  one-more a these l h false e false f = h

  pub one-filter : x ≤ d → (these : List A) → filter (λ a. nat_le (day a) x) (filter (λ a. nat_le (day a) d) these) ≡ filter (λ a. nat_le (day a) x) these
  one-filter l [] = refl
  one-filter l (a ∷ these) = one-more a these l (one-filter l these) (nat_le (day a) d) refl (nat_le (day a) x) refl

pub agree-earlier : (old new : SharedRows) (history later : List Kept) (x d : ℕ) → x ≤ d → HistoriesAgree d old new history later → HistoriesAgree x old new history later
agree-earlier old new history later x d l h = record {
  anchor = h.anchor;
  terms = h.terms;
  variable = h.variable;
  posts = sym (one-filter (λ (p : CorrectedPost). p.day) x d l _) ∙ (ap (filter (λ (p : CorrectedPost). nat_le p.day x)) h.posts ∙ one-filter (λ (p : CorrectedPost). p.day) x d l _);
  fees = sym (one-filter (λ (r : FeeRow). r.day) x d l new.fees) ∙ (ap (filter (λ (r : FeeRow). nat_le r.day x)) h.fees ∙ one-filter (λ (r : FeeRow). r.day) x d l old.fees);
  index = λ follows. sym (one-filter (λ (r : IndexRow). r.day) x d l new.index) ∙ (ap (λ is. filter (λ (r : IndexRow). nat_le r.day x) is) (h.index follows) ∙ one-filter (λ (r : IndexRow). r.day) x d l old.index);
}

-- an account that is opened has a post
pub some-posts : (history : List Kept) → IsOpening (anchor_of history) → 1 ≤ length history
some-posts [] h = let first = h.first in absurd (omega (arith, first))
some-posts (k ∷ ks) h = omega arith

-- a folding of a day up to this one
pub rows-on : (old new : SharedRows) (r : Replay) (day : ℕ) (f : Folding) → IsReplay old r → last_accepted r.lists.posts ≤ day → AreLaterRows (is_variable r.lists.posts) day old new → f.reached ≤ day → IfSome f.eve (IsEve (given_of r.lists new) f.reached f.past)
    → IsFolding (given_of r.lists old) f → IsFolding (given_of r.lists new) f
rows-on old new r day f h accepted rows within stood folding =
    let was = given_of r.lists old in
    let now = given_of r.lists new in
    let agree = later_rows_agree r.lists.posts old new day day h.timely accepted rows.holidays rows.fees rows.index in
    let there = agree-earlier old new r.lists.posts r.lists.posts f.reached day within agree in
    let continues : Continues was now (day_of f.book) = continues-through was now (day_of f.book) f.reached folding.day (agreement_goes_on was now f.reached refl there) in
    let rates : HaveSameRates was now = rates_go_on was now [] (sym (append-nil r.lists.posts)) (some-posts r.lists.posts h.sound.opening) (All-nil (λ (k : Kept). sets_rates k.post ≡ false)) in
    record {
      day = same-first now was (day_of f.book) refl ∙ folding.day;
      whole = folding.whole;
      stands = stands-on was now f.book f.past.track h.sound.opening folding.stands continues rates;
      marks = marks_go_on was now f.past.track.cycles.items f.past.since.items f.past.accrued.items
          (record {
            new = [];
            history = sym (append-nil r.lists.posts);
            anchor = refl;
            terms = refl;
            continues = λ k c at. agreement_goes_on was now c.closing refl (agree-earlier old new r.lists.posts r.lists.posts c.closing f.reached (early k c at) there);
          })
          folding.marks;
      eve = stood;
    }
  where
    early : (k : ℕ) (c : Cycle) → cycle_at k f.past.track.cycles.items ≡ Some c → c.closing ≤ f.reached
    early k c at = closed-in (given_of r.lists old) f k c folding at
