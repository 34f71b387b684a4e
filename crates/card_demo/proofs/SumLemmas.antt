-- Sums of entries, one entry after the other.
use Rattle.std.proofs.Common.{◌≡◌, ℕ, suc, ◌+◌, ◌^◌, ◌<◌, ◌≤◌, Bool, true, cond, List, [], ◌∷◌, ◌++◌, length, take, refl, sym, ap, ◌∙◌, arith, append_assoc, append-nil, get_or, Option, Some, None, ℤ, pos, negsuc, ◌+ℤ◌, w64, FitsSigned}
use Rattle.std.proofs.lemmas.Int.{ints, fits_signed_from_abs}
use Rattle.std.proofs.lemmas.List.{take_more}
use Rattle.card_demo.specs.Requests.{account}
use Rattle.card_demo.specs.Summary.{all_entries, entries_in}
use Rattle.card_demo.specs.Sums.{AreWithin, entries_seen, totals, with_entries, with_entry}
use Rattle.card_demo.specs.declared.totals.Totals.{Totals}
use Rattle.card_desk.specs.Views.{listed, seen}
use Rattle.card_desk.specs.declared.view.Ask.TheVariants as ask
use Rattle.card_model.proofs.Posted.{sum_of-append}
use Rattle.card_model.specs.Entries.{is_kind, sum_of}
use Rattle.card_model.specs.Machine.{State, lists_of}
use Rattle.card_model.specs.Refusals.{Lists}
use Rattle.card_model.specs.declared.entry.Entry.{Entry}
use Rattle.card_model.specs.declared.entry.EntryKind.TheVariants as kind
use Rattle.card_segments.proofs.SumsBack.{cents-within}
use Rattle.card_segments.specs.Balances.{IsWithin}
use mir.Syntax.{w128}

-- ---- with more entries
with-append : (xs ys : List Entry) (t : Totals) → with_entries (xs ++ ys) t ≡ with_entries ys (with_entries xs t)
unfolding with_entries
with-append [] ys t = refl
with-append (e ∷ xs) ys t = with-append xs ys (with_entry e t)

pub with-none : (es : List Entry) (t : Totals) → t ≡ with_entries (take 0 es) t
unfolding with_entries
with-none es t = refl

pub with-more : (es : List Entry) (i : ℕ) (e : Entry) (t u : Totals) → i < length es → e ≡ get_or es i e → u ≡ with_entries (take i es) t → with_entry e u ≡ with_entries (take (i + 1) es) t
unfolding with_entries
with-more es i e t u low here is =
    ap (with_entry e) is
    ∙ (ap (λ (x : Entry). with_entry x (with_entries (take i es) t)) here
    ∙ sym (ap (λ (l : List Entry). with_entries l t) (take_more es i e low) ∙ with-append (take i es) (get_or es i e ∷ []) t))

-- ---- they are the sums over all
abbrev pub totals_of : ℤ → ℤ → ℤ → Totals
totals_of owed interest fees = record { owed = owed; interest = interest; fees = fees }

pub same_totals : (a b c x y z : ℤ) → a ≡ x → b ≡ y → c ≡ z → totals_of a b c ≡ totals_of x y z
same_totals a b c x y z p q r = rw (p, q, r) refl

sum-more : (p : Entry → Bool) (xs : List Entry) (e : Entry) → sum_of p xs +ℤ cond (p e) e.cents (pos 0) ≡ sum_of p (xs ++ e ∷ [])
sum-more p xs e = sym (sum_of-append p xs (e ∷ []) ∙ ap (λ (z : ℤ). sum_of p xs +ℤ z) (plus-zero (cond (p e) e.cents (pos 0))))
  where
    plus-zero : (z : ℤ) → z +ℤ pos 0 ≡ z
    plus-zero z = omega (arith, ints)

totals-one : (xs : List Entry) (e : Entry) → with_entry e (totals xs) ≡ totals (xs ++ e ∷ [])
unfolding totals
totals-one xs e =
    same_totals _ _ _ _ _ _ (sum-more (λ (x : Entry). true) xs e) (sum-more (λ (x : Entry). is_kind kind.Interest x.kind) xs e) (sum-more (λ (x : Entry). is_kind kind.Fee x.kind) xs e)

pub totals-with : (xs es : List Entry) → with_entries es (totals xs) ≡ totals (xs ++ es)
unfolding with_entries
totals-with xs [] = ap totals (sym (append-nil xs))
totals-with xs (e ∷ es) = ap (with_entries es) (totals-one xs e) ∙ (totals-with (xs ++ e ∷ []) es ∙ ap totals (append_assoc xs (e ∷ []) es))

-- ---- accounts
-- the answer lists the entries of the account
lists_seen : (s : State) (lists : Option Lists) → entries_seen (listed s lists) ≡ entries_in s lists
lists_seen s None = refl
lists_seen s (Some lists) = refl

pub account_seen : (s : State) (name : List ℕ) → entries_seen (seen s (ask.Entries name)) ≡ entries_in s (lists_of name s.accounts)
unfolding seen
account_seen s name = lists_seen s (lists_of name s.accounts)

pub accounts_none : (s : State) → totals [] ≡ totals (all_entries s 0)
unfolding all_entries
accounts_none s = refl

accounts_more : (s : State) (i : ℕ) → all_entries s (i + 1) ≡ all_entries s i ++ entries_in s (lists_of (account (i + 1)) s.accounts)
unfolding all_entries
accounts_more s i = let on : i + 1 ≡ suc i = omega arith in ap (all_entries s) on

pub account_added : (s : State) (i : ℕ) (t u : Totals) → t ≡ totals (all_entries s i) → u ≡ with_entries (entries_in s (lists_of (account (i + 1)) s.accounts)) t → u ≡ totals (all_entries s (i + 1))
account_added s i t u before now =
    let more = entries_in s (lists_of (account (i + 1)) s.accounts) in
    now ∙ (ap (with_entries more) before ∙ (totals-with (all_entries s i) more ∙ ap totals (sym (accounts_more s i))))

-- ---- how large sums are
pub sum-within : (m k : ℕ) (y z : ℤ) → IsWithin m y → IsWithin k z → IsWithin (m + k) (y +ℤ z)
sum-within m k y z h g = (let a = h.0 in let b = g.0 in omega (arith, ints), let a = h.1 in let b = g.1 in omega (arith, ints))

-- a number of 128 bits
pub fits-wide : (n : ℕ) (z : ℤ) → n < 2 ^ 127 → IsWithin n z → FitsSigned w128 z
fits-wide n (pos k) low within = fits_signed_from_abs w128 (pos k) (omega (arith, ints, within.1))
fits-wide n (negsuc k) low within = fits_signed_from_abs w128 (negsuc k) (omega (arith, ints, within.0))

wider-one : (m n : ℕ) (z : ℤ) → m ≤ n → IsWithin m z → IsWithin n z
wider-one m n z more within = (let a = within.0 in omega (arith, ints, a), let b = within.1 in omega (arith, ints, b))

pub wider : (m n : ℕ) (t : Totals) → m ≤ n → AreWithin m t → AreWithin n t
wider m n t more within =
    record { owed = wider-one m n t.owed more within.owed; interest = wider-one m n t.interest more within.interest; fees = wider-one m n t.fees more within.fees }

pub none-within : (n : ℕ) → AreWithin n (totals [])
unfolding totals
none-within n = record { owed = zero-within; interest = zero-within; fees = zero-within }
  where
    zero-within : IsWithin n (pos 0)
    zero-within = (omega (arith, ints), omega (arith, ints))
