-- The steps of the account with its opening alone, as it is folded on and a charge is accepted.
use Rattle.std.proofs.Common.{◌≡◌, ℕ, ◌+◌, ◌<◌, ◌≤◌, ◌-◌, true, false, ◌||◌, nat_le, List, [], ◌∷◌, ◌++◌, refl, sym, ap, ◌∙◌, subst, arith, Some, None, Result, Ok, Err}
use Rattle.std.specs.Prelude.{OnOk}
use Rattle.std.proofs.lemmas.Bool.Decides.{nat_tests}
use Rattle.std.proofs.lemmas.List.Elements.{All-cons, All-nil}
use Rattle.std.proofs.lemmas.List.Sorted.{IsNonDecreasingBy-push, IsNonDecreasingBy-short}
use Rattle.std.specs.List.{All, count_by}
use Rattle.card_events.specs.Dated.{is_dated_post}
use Rattle.card_events.specs.History.{CorrectedPost, adds_segment, anchor_of, corrected}
use Rattle.card_events.specs.SharedRows.{SharedRows}
use Rattle.card_events.specs.declared.kept.Kept.{Kept}
use Rattle.card_events.specs.declared.post.Post.{Post}
use Rattle.card_model.specs.Accepted.{HasFewCents, HasFewFees, HasFewRates}
use Rattle.card_model.specs.Breaks.{breaks_among}
use Rattle.card_model.specs.Caps.{row_for}
use Rattle.card_model.specs.Cycles.{IssuedRow}
use Rattle.card_model.specs.Deadlines.{resolves}
use Rattle.card_model.specs.Everything.{everything}
use Rattle.card_model.specs.Machine.{accepted}
use Rattle.card_model.specs.Refusals.{IsBilledLater, Lists, bills, reason_against}
use Rattle.card_model.specs.declared.segment.Interval.{Interval}
use Rattle.card_events.specs.Billing.{closing}
use Rattle.card_events.specs.Range.{last_request_day}
use Rattle.card_posts.specs.Change.{IsFirstChange, on, up_to}
use Rattle.card_posts.specs.Posted.{last_accepted}
use Rattle.card_daily.specs.Given.{AreInTurn, EndsWithAClosing, Given, IsSound, NamePayments, book_on}
use Rattle.card_book.specs.Stands.{steps_over}
use Rattle.card_book.specs.StepCounts.{breaks_with}
use Rattle.card_replay.specs.Replays.{IsReplay, IsToday, MayReach, Replay, SameLists, given_of, opened_lists, present_of}
use Rattle.card_replay.specs.Steps.{AreFewToPrepare, IsFirstBetween, first_in_cycle, steps_to}
use Rattle.card_replay.proofs.Reaching.{one-step as one-step-alone}
use Rattle.card_cases.proofs.Alone.{breaks_by, four, no-bill, no-days, sound}
use Rattle.card_cases.specs.Account.{opening}
use Rattle.card_cases.specs.Alone.{HasOpeningAlone, alone, charge, given_alone, lists_alone, no_rows}

-- ---- on its opening day
pub opened-alone : (key : List ℕ) (day : ℕ) (p : Post) → day ≡ 19728 → p ≡ opening → HasOpeningAlone (opened_lists key day p)
opened-alone key day p first e = record { number = 1; key = key; accepted = day; early = omega (arith, first); is = ap (opened_lists key day) e }

-- it may be brought to a later day
accepted-early : (n : ℕ) (key : List ℕ) (since today : ℕ) → since ≤ 19728 → 19728 ≤ today → last_accepted (alone n key since) ≤ today
unfolding last_accepted
accepted-early n key since today early later = omega (arith, early, later)

pub may-reach : (today : ℕ) (r : Replay) → HasOpeningAlone r.lists → r.folding.reached ≤ today → 19728 ≤ today → today ≤ last_request_day → MayReach today r
may-reach today r h reached later last = record {
  opened = subst (λ (l : Lists). (anchor_of l.posts).opened ≤ today) (sym h.is) later;
  later = reached;
  accepted = subst (λ (l : Lists). last_accepted l.posts ≤ today) (sym h.is) (accepted-early h.number h.key h.accepted today h.early later);
  last = last;
}

-- when it has reached it, it is at today
pub at-today : (today day : ℕ) (shared : SharedRows) (old new : Replay) → HasOpeningAlone old.lists → day ≡ today → 19728 ≤ today → SameLists old new → IsReplay shared new → new.folding.reached ≡ day → IsToday today shared new
at-today today day shared old new h is later same replay reached = record {
  replay = replay;
  reached = reached ∙ is;
  opened = subst (λ (l : Lists). (anchor_of l.posts).opened ≤ today) (sym (same.lists ∙ h.is)) later;
}

pub is-today : {T E : Type 0} (result : Result T E) (today day : ℕ) (shared : SharedRows) (old new : Replay) → HasOpeningAlone old.lists → day ≡ today → 19728 ≤ today → SameLists old new → IsReplay shared new
    → OnOk result (new.folding.reached ≡ day) → OnOk result (IsToday today shared new)
is-today (Ok x) today day shared old new h is later same replay reached = at-today today day shared old new h is later same replay reached
is-today (Err e) today day shared old new h is later same replay reached = tt

-- what holds of what its fold is given holds of these lists
from-lists : (P : Given → Type 0) (lists : Lists) (shared : SharedRows) → HasOpeningAlone lists → shared ≡ no_rows → ((n : ℕ) (key : List ℕ) (accepted : ℕ) → P (given_alone (alone n key accepted))) → P (given_of lists shared)
from-lists P lists shared h e each = subst (λ s. P (given_of lists s)) (sym e) (subst (λ l. P (given_of l no_rows)) (sym h.is) (each h.number h.key h.accepted))

pub sound-alone : (lists : Lists) (shared : SharedRows) → HasOpeningAlone lists → shared ≡ no_rows → IsSound (given_of lists shared)
sound-alone lists shared h e = from-lists IsSound lists shared h e sound

-- from the day before on
pub one-step-first : (shared : SharedRows) (r : Replay) (day : ℕ) → day ≡ 19728 → r.folding.reached + 1 ≡ 19728 → steps_to day shared r ≡ 1
one-step-first shared r day is before =
    let g = given_of r.lists shared in
    ap (λ d. steps_over g d (r.folding.reached + 1)) is ∙ (ap (steps_over g 19728) before ∙ one-step-alone g 19728)

-- ---- on later days
on-day : (to reached count : ℕ) (shared : SharedRows) (r : Replay) → HasOpeningAlone r.lists → shared ≡ no_rows → r.folding.reached ≡ reached
    → ((n : ℕ) (key : List ℕ) (accepted : ℕ) → steps_over (given_alone (alone n key accepted)) to (reached + 1) ≡ count) → steps_to to shared r ≡ count
on-day to reached count shared r h e day each =
    ap (λ d. steps_over (given_of r.lists shared) to (d + 1)) day ∙ from-lists (λ g. steps_over g to (reached + 1) ≡ count) r.lists shared h e each

pub four-steps : (shared : SharedRows) (r : Replay) → HasOpeningAlone r.lists → shared ≡ no_rows → r.folding.reached ≡ 19728 → steps_to 19792 shared r ≡ 4
four-steps shared r h e day = on-day 19792 19728 4 shared r h e day four

pub one-step : (shared : SharedRows) (r : Replay) → HasOpeningAlone r.lists → shared ≡ no_rows → r.folding.reached ≡ 19792 → steps_to 19793 shared r ≡ 1
one-step shared r h e day = on-day 19793 19792 1 shared r h e day (λ n key accepted. one-step-alone (given_alone (alone n key accepted)) 19793)

pub no-step : (shared : SharedRows) (r : Replay) → HasOpeningAlone r.lists → shared ≡ no_rows → r.folding.reached ≡ 19793 → steps_to 19793 shared r ≡ 0
no-step shared r h e day = on-day 19793 19793 0 shared r h e day (λ n key accepted. refl)

-- ---- the charge
-- what holds of the account and the charge holds of these values
with-charge : (P : ℕ → SharedRows → Lists → Post → Type 0) (today : ℕ) (shared : SharedRows) (lists : Lists) (p : Post) → today ≡ 19794 → shared ≡ no_rows → HasOpeningAlone lists → p ≡ charge
    → ((n : ℕ) (key : List ℕ) (accepted : ℕ) → accepted ≤ 19728 → P 19794 no_rows (lists_alone n key accepted) charge) → P today shared lists p
with-charge P today shared lists p day rows h post each =
    subst (λ d. P d shared lists p) (sym day) (subst (λ s. P 19794 s lists p) (sym rows) (subst (λ l. P 19794 no_rows l p) (sym h.is) (subst (P 19794 no_rows (lists_alone h.number h.key h.accepted)) (sym post) (each h.number h.key h.accepted h.early))))

pub charge-dated : (p : Post) → p ≡ charge → is_dated_post p ≡ true
unfolding is_dated_post
charge-dated p e = subst (λ q. is_dated_post q ≡ true) (sym e) refl

none : (n : ℕ) (key : List ℕ) (accepted : ℕ) → reason_against (present_of 19794 no_rows (lists_alone n key accepted)) charge ≡ None
unfolding everything
none n key accepted = refl

pub no-reason : (today : ℕ) (shared : SharedRows) (lists : Lists) (p : Post) → today ≡ 19794 → shared ≡ no_rows → HasOpeningAlone lists → p ≡ charge → reason_against (present_of today shared lists) p ≡ None
no-reason today shared lists p day rows h post = with-charge (λ t s l q. reason_against (present_of t s l) q ≡ None) today shared lists p day rows h post (λ n key since early. none n key since)

abbrev charged : ℕ → List ℕ → ℕ → List ℕ → List Kept
charged n key accepted name = alone n key accepted ++ record { number = 2; key = name; accepted = 19794; post = charge } ∷ []

abbrev given_charged : ℕ → List ℕ → ℕ → List ℕ → Given
given_charged n key accepted name = given_alone (charged n key accepted name)

with-it : (n : ℕ) (key : List ℕ) (since : ℕ) (name : List ℕ) → accepted (present_of 19794 no_rows (lists_alone n key since)) name charge ≡ record { posts = charged n key since name; issued = [] }
unfolding accepted
with-it n key since name = refl

both : (P : Kept → Type 0) (a b : Kept) → P a → P b → All P (a ∷ b ∷ [])
both P a b p q = All-cons P a (b ∷ []) p (All-cons P b [] q (All-nil P))

abbrev kept : ℕ → List ℕ → ℕ → Post → Kept
kept n key accepted p = record { number = n; key = key; accepted = accepted; post = p }

dated-both : (n : ℕ) (key : List ℕ) (accepted : ℕ) (name : List ℕ) → All (λ (k : Kept). is_dated_post k.post ≡ true) (charged n key accepted name)
unfolding is_dated_post
dated-both n key accepted name = both (λ (k : Kept). is_dated_post k.post ≡ true) (kept n key accepted opening) (kept 2 name 19794 charge) refl refl

names-none : (n : ℕ) (key : List ℕ) (accepted : ℕ) (name : List ℕ) → NamePayments (charged n key accepted name) 1 (charged n key accepted name)
unfolding NamePayments
names-none n key accepted name = (tt, (tt, tt))

in-turn : (n : ℕ) (key : List ℕ) (accepted : ℕ) (name : List ℕ) → accepted ≤ 19728 → AreInTurn (record { posts = charged n key accepted name; issued = [] })
in-turn n key accepted name early =
    let a = kept n key accepted opening in
    let b = kept 2 name 19794 charge in
    let anchor = anchor_of (charged n key accepted name) in
    record {
      accepted = IsNonDecreasingBy-push (λ (x : Kept). x.accepted) (a ∷ []) b (IsNonDecreasingBy-short (λ (x : Kept). x.accepted) (a ∷ []) (omega arith)) (λ d some. omega (arith, early));
      billed = both (IsBilledLater anchor) a b (λ cycle is. absurd (no-bill (bills cycle opening) refl is)) (λ cycle is. absurd (no-bill (bills cycle charge) refl is));
      issued = IsNonDecreasingBy-short (λ (r : IssuedRow). r.day) [] (omega arith);
      later = All-nil (λ (r : IssuedRow). closing anchor r.cycle < r.day);
    }

sound-both : (n : ℕ) (key : List ℕ) (accepted : ℕ) (name : List ℕ) → accepted ≤ 19728 → IsSound (given_charged n key accepted name)
sound-both n key accepted name early =
    let a = kept n key accepted opening in
    let b = kept 2 name 19794 charge in
    let ks = charged n key accepted name in
    record {
      accepted = record {
        count = omega arith;
        terms = record { first_close_day = omega arith; last_close_day = omega arith; floor = omega arith; pct = omega arith };
        cents = both HasFewCents a b (omega arith) (omega arith);
        rates = both HasFewRates a b (omega arith) (omega arith);
        resolved = λ m. let count : count_by (λ (x : Kept). resolves m x.post) ks ≡ 0 = refl in omega (arith, count);
        single = All-nil (λ (r : IssuedRow). row_for r.cycle [] ≡ Some r);
      };
      fees = All-nil HasFewFees;
      segments = (let count : count_by (λ (x : Kept). adds_segment x.post) ks ≡ 0 = refl in omega (arith, count));
      dated = dated-both n key accepted name;
      opening = record { first = omega arith; last = omega arith; close_day = (omega arith, omega arith) };
      plans = both (EndsWithAClosing (anchor_of ks)) a b (λ first end e. absurd (no-days (first, end) None refl e)) (λ first end e. absurd (no-days (first, end) None refl e));
      returns = names-none n key accepted name;
      in_turn = in-turn n key accepted name early;
    }

pub sound-with : (today : ℕ) (shared : SharedRows) (lists : Lists) (name : List ℕ) (p : Post) → today ≡ 19794 → shared ≡ no_rows → HasOpeningAlone lists → p ≡ charge
    → IsSound (given_of (accepted (present_of today shared lists) name p) shared)
sound-with today shared lists name p day rows h post =
    with-charge (λ t s l q. IsSound (given_of (accepted (present_of t s l) name q) s)) today shared lists p day rows h post
    (λ n key since early. subst (λ l. IsSound (given_of l no_rows)) (sym (with-it n key since name)) (sound-both n key since name early))

-- the corrected list first differs on its day
abbrev corrected_alone : ℕ → List ℕ → ℕ → List CorrectedPost
corrected_alone n key accepted = corrected (anchor_of (alone n key accepted)) [] (alone n key accepted)

abbrev corrected_both : ℕ → List ℕ → ℕ → List ℕ → List CorrectedPost
corrected_both n key accepted name = corrected (anchor_of (charged n key accepted name)) [] (charged n key accepted name)

none-before : (n : ℕ) (key : List ℕ) (accepted : ℕ) (name : List ℕ) (day : ℕ) → nat_le 19794 day ≡ false → up_to day (corrected_both n key accepted name) ≡ up_to day (corrected_alone n key accepted)
unfolding everything
none-before n key accepted name day e = rw e refl

differs : (n : ℕ) (key : List ℕ) (accepted : ℕ) (name : List ℕ) → on 19794 (corrected_both n key accepted name) ≡ on 19794 (corrected_alone n key accepted) → ⊥
unfolding everything
differs n key accepted name e = cc

first-changed : (n : ℕ) (key : List ℕ) (accepted : ℕ) (name : List ℕ) → IsFirstChange 19794 (corrected_alone n key accepted) (corrected_both n key accepted name)
first-changed n key accepted name =
    record {
      before = λ day l. none-before n key accepted name day (let late : nat_le 19794 day ≡ false = grind (arith, nat_tests) in late);
      differs = differs n key accepted name;
    }

-- the break days of its cycle up to today, by the penalties before it and after it, of which there are none
abbrev breaks_beside : ℕ → List ℕ → ℕ → List ℕ → List Interval → List Interval → ℕ
breaks_beside n key accepted name before after =
    let first = first_in_cycle (anchor_of (alone n key accepted)) 19794 in
    breaks_among (λ day. breaks_by (given_alone (alone n key accepted)) before day || breaks_by (given_charged n key accepted name) after day) first (19794 + 1 - first)

none-before-it : (n : ℕ) (key : List ℕ) (accepted : ℕ) → (book_on (given_alone (alone n key accepted)) 19794).penalties ≡ []
unfolding everything
none-before-it n key accepted = refl

none-after-it : (n : ℕ) (key : List ℕ) (accepted : ℕ) (name : List ℕ) → (book_on (given_charged n key accepted name) 19794).penalties ≡ []
unfolding everything
none-after-it n key accepted name = refl

one-beside : (n : ℕ) (key : List ℕ) (accepted : ℕ) (name : List ℕ) → breaks_beside n key accepted name [] [] ≡ 1
unfolding everything
one-beside n key accepted name = refl

one-break : (n : ℕ) (key : List ℕ) (accepted : ℕ) (name : List ℕ) → breaks_with (given_alone (alone n key accepted)) (given_charged n key accepted name) (first_in_cycle (anchor_of (alone n key accepted)) 19794) 19794 ≡ 1
one-break n key accepted name =
    ap (λ p. breaks_beside n key accepted name p (book_on (given_charged n key accepted name) 19794).penalties) (none-before-it n key accepted)
    ∙ (ap (breaks_beside n key accepted name []) (none-after-it n key accepted name) ∙ one-beside n key accepted name)

three : (n : ℕ) (key : List ℕ) (since : ℕ) (name : List ℕ) (before after : ℕ) → AreFewToPrepare 19794 no_rows (lists_alone n key since) 19793 name charge before after → after ≤ before + 3
three n key since name before after few =
    let few' = subst (λ l. (from : ℕ) → IsFirstBetween no_rows (lists_alone n key since) l from
    → after ≤ before + steps_over (given_alone (alone n key since)) 19794 19794 + (breaks_with (given_alone (alone n key since)) (given_of l no_rows) (first_in_cycle (anchor_of (alone n key since)) from) 19794 + 1)) (with-it n key since name) few in
    let most = few' 19794 (first-changed n key since name) in
    let one = one-break n key since name in
    let reach = one-step-alone (given_alone (alone n key since)) 19794 in
    omega (arith, most, one, reach)

pub three-steps : (today : ℕ) (shared : SharedRows) (lists : Lists) (reached : ℕ) (name : List ℕ) (p : Post) (before after : ℕ) → today ≡ 19794 → shared ≡ no_rows → HasOpeningAlone lists → reached ≡ 19793 → p ≡ charge
    → AreFewToPrepare today shared lists reached name p before after → after ≤ before + 3
three-steps today shared lists reached name p before after day rows h last post few =
    with-charge (λ t s l q. AreFewToPrepare t s l 19793 name q before after → after ≤ before + 3) today shared lists p day rows h post (λ n key since early. three n key since name before after)
    (subst (λ d. AreFewToPrepare today shared lists d name p before after) last few)
