-- Debits less credits of a list of entries.
use Rattle.std.proofs.Common.{◌≡◌, ℕ, zero, suc, ◌+◌, Bool, true, false, cond, ◌&&◌, leb, List, [], ◌∷◌, refl, ap, ◌∙◌, arith, ℤ, pos, negsuc, ◌+ℤ◌, neg_ℤ}
use Rattle.std.specs.List.{All, sum_by}
use Rattle.std.proofs.lemmas.Int.{ints}
use Rattle.std.proofs.lemmas.List.Elements.{All-head, All-tail}
use Rattle.std.proofs.lemmas.List.Sums.{sum_by-cons}
use Rattle.card_events.specs.Range.{first_calendar_day}
use Rattle.card_model.specs.Entries.{at_least_zero, is_kind, owed, sum_of}
use Rattle.card_model.specs.declared.entry.Entry.{Entry}
use Rattle.card_model.specs.declared.entry.EntryKind.{EntryKind}
use Rattle.card_model.specs.declared.entry.EntryKind.TheVariants as kind
use Rattle.card_trial.specs.Sums.{all_kinds, amount_of, is_between, sum_between}
use Rattle.card_trial.specs.declared.side.Side.{Side}
use Rattle.card_trial.specs.declared.side.Side.TheVariants as side
use Rattle.card_trial.proofs.Ranges.{sum_by-nothing, sum_by-parts}

-- the entries of all kinds and all days up to one
unfoldable pub sum_up_to : Side → ℕ → List Entry → ℕ
sum_up_to s day es = sum_by (λ k. sum_between s first_calendar_day day k es) all_kinds

-- what an entry that passes comes to on a side
abbrev pub part : Side → (Entry → Bool) → Entry → ℕ
part s p e = cond (p e) (amount_of s e) 0

-- one entry more
entry-signed : (z : ℤ) (d c : ℕ) (s : ℤ) → pos d ≡ s +ℤ pos c → pos (at_least_zero z + d) ≡ z +ℤ s +ℤ pos (at_least_zero (neg_ℤ z) + c)
entry-signed (pos zero) d c s h = omega (arith, ints)
entry-signed (pos (suc n)) d c s h = omega (arith, ints)
entry-signed (negsuc n) d c s h = omega (arith, ints)

none-signed : (d c : ℕ) (s : ℤ) → pos d ≡ s +ℤ pos c → pos (0 + d) ≡ pos 0 +ℤ s +ℤ pos (0 + c)
none-signed d c s h = omega (arith, ints)

-- debits are what is owed by those entries, and credits
pub signed : (p : Entry → Bool) (es : List Entry) → pos (sum_by (part side.Debits p) es) ≡ sum_of p es +ℤ pos (sum_by (part side.Credits p) es)
signed p [] = refl
signed p (e ∷ es) =
    rw (sum_by-cons (part side.Debits p) e es, sum_by-cons (part side.Credits p) e es) (by (p e) (signed p es))
  where
    by : (b : Bool) → pos (sum_by (part side.Debits p) es) ≡ sum_of p es +ℤ pos (sum_by (part side.Credits p) es)
        → pos (cond b (amount_of side.Debits e) 0 + sum_by (part side.Debits p) es) ≡ cond b e.cents (pos 0) +ℤ sum_of p es +ℤ pos (cond b (amount_of side.Credits e) 0 + sum_by (part side.Credits p) es)
    by true h = entry-signed e.cents (sum_by (part side.Debits p) es) (sum_by (part side.Credits p) es) (sum_of p es) h
    by false h = none-signed (sum_by (part side.Debits p) es) (sum_by (part side.Credits p) es) (sum_of p es) h

-- ---- all kinds
-- of days from the first of the calendar to one
abbrev pub by_day : ℕ → Entry → Bool
by_day day e = leb first_calendar_day e.day && leb e.day day

one-kind : (b c : Bool) (k : EntryKind) (n : ℕ) → sum_by (λ j. cond (b && c && is_kind k j) n 0) all_kinds ≡ cond (b && c) n 0
one-kind true true kind.Charge n = omega arith
one-kind true true kind.Credit n = omega arith
one-kind true true kind.Payment n = omega arith
one-kind true true kind.Return n = omega arith
one-kind true true kind.Refund n = omega arith
one-kind true true kind.Fee n = omega arith
one-kind true true kind.Interest n = omega arith
one-kind true true kind.Hold n = omega arith
one-kind true false k n = refl
one-kind false c k n = refl

between-none : (s : Side) (day : ℕ) (k : EntryKind) → sum_between s first_calendar_day day k [] ≡ 0
unfolding sum_between
between-none s day k = refl

kind-cons : (s : Side) (day : ℕ) (k : EntryKind) (e : Entry) (es : List Entry) → sum_between s first_calendar_day day k (e ∷ es) ≡ cond (is_between first_calendar_day day k e) (amount_of s e) 0 + sum_between s first_calendar_day day k es
unfolding sum_between
kind-cons s day k e es = sum_by-cons (λ (f : Entry). cond (is_between first_calendar_day day k f) (amount_of s f) 0) e es

pub kinds-together : (s : Side) (day : ℕ) (es : List Entry) → sum_up_to s day es ≡ sum_by (part s (by_day day)) es
unfolding sum_up_to
kinds-together s day [] = by s
  where
    by : (t : Side) → sum_by (λ k. sum_between t first_calendar_day day k []) all_kinds ≡ 0
    by t = sum_by-nothing (λ k. sum_between t first_calendar_day day k []) (λ k. between-none t day k) all_kinds
kinds-together s day (e ∷ es) =
    let rest : sum_by (λ k. sum_between s first_calendar_day day k es) all_kinds ≡ sum_by (part s (by_day day)) es = kinds-together s day es in
    let one : sum_by (λ k. cond (is_between first_calendar_day day k e) (amount_of s e) 0) all_kinds ≡ part s (by_day day) e = one-kind (leb first_calendar_day e.day) (leb e.day day) e.kind (amount_of s e) in
    sum_by-parts (λ k. sum_between s first_calendar_day day k (e ∷ es)) (λ k. cond (is_between first_calendar_day day k e) (amount_of s e) 0) (λ k. sum_between s first_calendar_day day k es) (λ k. kind-cons s day k e es) all_kinds
    ∙ (rw (sum_by-cons (part s (by_day day)) e es) (omega arith))

-- ---- parts of a list
pub sum-all : (p : Entry → Bool) (es : List Entry) → All (λ e. p e ≡ true) es → sum_of p es ≡ owed es
sum-all p [] a = refl
sum-all p (e ∷ es) a =
    let here : p e ≡ true = All-head (λ (f : Entry). p f ≡ true) e es a in
    rw here (ap (λ z. e.cents +ℤ z) (sum-all p es (All-tail (λ (f : Entry). p f ≡ true) e es a)))

pub sum-none : (p : Entry → Bool) (es : List Entry) → All (λ e. p e ≡ false) es → sum_of p es ≡ pos 0
sum-none p [] a = refl
sum-none p (e ∷ es) a =
    let here : p e ≡ false = All-head (λ (f : Entry). p f ≡ false) e es a in
    let rest : sum_of p es ≡ pos 0 = sum-none p es (All-tail (λ (f : Entry). p f ≡ false) e es a) in
    rw here (omega (arith, ints))

pub sum-alike : (p q : Entry → Bool) (es : List Entry) → All (λ e. p e ≡ q e) es → sum_of p es ≡ sum_of q es
sum-alike p q [] a = refl
sum-alike p q (e ∷ es) a =
    let here : p e ≡ q e = All-head (λ (f : Entry). p f ≡ q f) e es a in
    rw here (ap (λ z. cond (q e) e.cents (pos 0) +ℤ z) (sum-alike p q es (All-tail (λ (f : Entry). p f ≡ q f) e es a)))
