-- What a post comes to, for an account that is there and for one that isn't.
use Rattle.std.proofs.Common.{◌≡◌, ℕ, Bool, true, false, List, [], ◌∷◌, length, Option, Some, None, refl, ap, ◌∙◌}
use Rattle.std.specs.Prelude.{if◌then◌else◌, nat_le}
use Rattle.card_events.specs.Keys.{with_key}
use Rattle.card_events.specs.SharedRows.{SharedRows, shared_rows}
use Rattle.card_events.specs.declared.post.Post.{Post}
use Rattle.card_events.specs.declared.reply.Refusal.{Refusal}
use Rattle.card_events.specs.declared.reply.Refusal.TheVariants as refusal
use Rattle.card_model.specs.Machine.{State, Outcome, Refuses, Repeats, Accepts, lists_of, outcome, outcome_in, at_key, judged, accepted, kept_as, is_repeat_of, opened}
use Rattle.card_model.specs.Refusals.{Lists, Present, bad_terms, day_ahead, first_reason, no_index, reason_against, reason_to_open, where_true}
use Rattle.card_model.specs.Work.{present_in}
use Rattle.card_events.specs.History.{at_number, is_open}
use Rattle.card_account.specs.Verdicts.{verdict_of}
use Rattle.card_account.specs.declared.verdict.Verdict.TheVariants as verdict

pub known_outcome : (s : State) (name key : List ℕ) (p : Post) (lists : Lists) → lists_of name s.accounts ≡ Some lists
    → outcome_in s name key p ≡ at_key (present_in s lists) key p (with_key key lists.posts)
unfolding outcome
known_outcome s name key p lists is = ap (outcome s.today s.shared (length s.accounts) key p) is

-- ---- accounts that aren't there
-- the reason against an opening, by the rows that a state has
abbrev pub opening_reason : State → Post → Option Refusal
opening_reason s p = reason_to_open s.today (length s.accounts) (shared_rows s.shared) p

-- it reads the index alone of the shared rows
pub reason_under : (today accounts : ℕ) (a b : SharedRows) (p : Post) → a.index ≡ b.index → reason_to_open today accounts a p ≡ reason_to_open today accounts b p
unfolding reason_to_open
reason_under today accounts a b p same =
    ap (λ rows. first_reason (bad_terms p ∷ day_ahead today p ∷ no_index rows p ∷ where_true (nat_le 1000000 accounts) refusal.LedgerFull ∷ [])) same

pub open_refused : (s : State) (name key : List ℕ) (p : Post) (r : Refusal) → lists_of name s.accounts ≡ None → is_open p ≡ true → opening_reason s p ≡ Some r → outcome_in s name key p ≡ Refuses r
unfolding outcome
open_refused s name key p r absent opens is =
    ap (outcome s.today s.shared (length s.accounts) key p) absent
    ∙ ap (λ (b : Bool). if b then opened key s.today p (opening_reason s p) else Refuses refusal.UnknownAccount) opens ∙ ap (opened key s.today p) is

pub open_accepted : (s : State) (name key : List ℕ) (p : Post) → lists_of name s.accounts ≡ None → is_open p ≡ true → opening_reason s p ≡ None
    → outcome_in s name key p ≡ Accepts (record { posts = kept_as 1 key s.today p ∷ []; issued = [] })
unfolding outcome
open_accepted s name key p absent opens is =
    ap (outcome s.today s.shared (length s.accounts) key p) absent
    ∙ ap (λ (b : Bool). if b then opened key s.today p (opening_reason s p) else Refuses refusal.UnknownAccount) opens ∙ ap (opened key s.today p) is

pub unknown_refused : (s : State) (name key : List ℕ) (p : Post) → lists_of name s.accounts ≡ None → is_open p ≡ false
    → outcome_in s name key p ≡ Refuses refusal.UnknownAccount
unfolding outcome
unknown_refused s name key p absent other =
    ap (outcome s.today s.shared (length s.accounts) key p) absent
    ∙ ap (λ (b : Bool). if b then opened key s.today p (opening_reason s p) else Refuses refusal.UnknownAccount) other

-- ---- accounts that are there
new_by_reason : (now : Present) (key : List ℕ) (p : Post) (r : Option Refusal) → verdict.New ≡ verdict_of (judged now key p r) → judged now key p r ≡ Accepts (accepted now key p)
new_by_reason now key p None is = refl
new_by_reason now key p (Some r) is = absurd (cc)

new_by_open : (now : Present) (key : List ℕ) (p : Post) (b : Bool) (o : Outcome) → (verdict.New ≡ verdict_of o → o ≡ Accepts (accepted now key p))
    → verdict.New ≡ verdict_of (if b then Refuses refusal.AccountExists else o) → (if b then Refuses refusal.AccountExists else o) ≡ Accepts (accepted now key p)
new_by_open now key p true o rest is = absurd (cc)
new_by_open now key p false o rest is = rest is

old_by_repeat : (n : ℕ) (b : Bool) (o : Outcome) → verdict.New ≡ verdict_of (if b then Repeats n else Refuses (refusal.KeyReused n)) → (if b then Repeats n else Refuses (refusal.KeyReused n)) ≡ o
old_by_repeat n true o is = absurd (cc)
old_by_repeat n false o is = absurd (cc)

pub new_at_key : (now : Present) (key : List ℕ) (p : Post) (k : Option ℕ) → verdict.New ≡ verdict_of (at_key now key p k) → at_key now key p k ≡ Accepts (accepted now key p)
new_at_key now key p None is = new_by_open now key p (is_open p) (judged now key p (reason_against now p)) (new_by_reason now key p (reason_against now p)) is
new_at_key now key p (Some n) is = old_by_repeat n (is_repeat_of p (at_number n now.lists.posts)) (Accepts (accepted now key p)) is

-- and nothing is against it
none_by_reason : (now : Present) (key : List ℕ) (p : Post) (r : Option Refusal) → verdict.New ≡ verdict_of (judged now key p r) → r ≡ None
none_by_reason now key p None is = refl
none_by_reason now key p (Some r) is = absurd (cc)

none_by_open : (now : Present) (key : List ℕ) (p : Post) (b : Bool) → verdict.New ≡ verdict_of (if b then Refuses refusal.AccountExists else judged now key p (reason_against now p)) → reason_against now p ≡ None
none_by_open now key p true is = absurd (cc)
none_by_open now key p false is = none_by_reason now key p (reason_against now p) is

none_by_repeat : (n : ℕ) (b : Bool) (o : Option Refusal) → verdict.New ≡ verdict_of (if b then Repeats n else Refuses (refusal.KeyReused n)) → o ≡ None
none_by_repeat n true o is = absurd (cc)
none_by_repeat n false o is = absurd (cc)

pub none_against : (now : Present) (key : List ℕ) (p : Post) (k : Option ℕ) → verdict.New ≡ verdict_of (at_key now key p k) → reason_against now p ≡ None
none_against now key p None is = none_by_open now key p (is_open p) is
none_against now key p (Some n) is = none_by_repeat n (is_repeat_of p (at_number n now.lists.posts)) (reason_against now p) is

-- ---- what is accepted has a new key and is no Open
old_accepts : (n : ℕ) (b : Bool) (l : Lists) → (if b then Repeats n else Refuses (refusal.KeyReused n)) ≡ Accepts l → ⊥
old_accepts n true l is = cc
old_accepts n false l is = cc

closed_by : (b : Bool) (o : Outcome) (l : Lists) → (if b then Refuses refusal.AccountExists else o) ≡ Accepts l → b ≡ false
closed_by true o l is = absurd (cc)
closed_by false o l is = refl

pub fresh_of : (now : Present) (key : List ℕ) (p : Post) (k : Option ℕ) (l : Lists) → at_key now key p k ≡ Accepts l → k ≡ None
fresh_of now key p None l is = refl
fresh_of now key p (Some n) l is = absurd (old_accepts n (is_repeat_of p (at_number n now.lists.posts)) l is)

pub closed_of : (now : Present) (key : List ℕ) (p : Post) (k : Option ℕ) (l : Lists) → at_key now key p k ≡ Accepts l → is_open p ≡ false
closed_of now key p None l is = closed_by (is_open p) (judged now key p (reason_against now p)) l is
closed_of now key p (Some n) l is = absurd (old_accepts n (is_repeat_of p (at_number n now.lists.posts)) l is)
