-- A balance less its entries, one entry after the other.
use Rattle.std.proofs.Common.{◌≡◌, ℕ, ◌+◌, ◌*◌, ◌^◌, ◌<◌, List, [], ◌∷◌, length, take, get_or, sym, ap, ◌∙◌, arith, ℤ, pos, negsuc, ◌+ℤ◌, ◌-ℤ◌, w64, FitsSigned, eqb, eq-eqb}
use Rattle.std.specs.Prelude.{neg_ℤ}
use Rattle.std.proofs.lemmas.Int.{fits_signed_from_abs, ints}
use Rattle.std.proofs.lemmas.List.{take_more}
use Rattle.card_model.specs.Entries.{balance}
use Rattle.card_model.specs.declared.entry.Entry.{Entry}
use Rattle.card_model.proofs.Posted.{sum_of-append}
use Rattle.card_segments.specs.Balances.{IsWithin, largest_balance}
use mir.Syntax.{w128}

-- ---- one entry
pub moved-here : (e : Entry) (id : ℕ) → e.segment ≡ id → e.cents ≡ balance id (e ∷ [])
moved-here e id s = rw (eq-eqb e.segment id s) (omega (arith, ints))

-- ---- one entry more
balance-more : (id : ℕ) (es : List Entry) (i : ℕ) (e : Entry) → i < length es → e ≡ get_or es i e → balance id (take (i + 1) es) ≡ balance id (take i es) +ℤ balance id (e ∷ [])
balance-more id es i e l is =
    ap (λ (x : List Entry). balance id x) (take_more es i e l)
    ∙ (sum_of-append (λ (x : Entry). eqb x.segment id) (take i es) (get_or es i e ∷ [])
    ∙ ap (λ (x : Entry). balance id (take i es) +ℤ balance id (x ∷ [])) (sym is))

pub sum-more : (a : ℤ) (id : ℕ) (es : List Entry) (i : ℕ) (e : Entry) (s m d : ℤ) → i < length es → e ≡ get_or es i e → s ≡ a +ℤ neg_ℤ (balance id (take i es)) → m ≡ balance id (e ∷ [])
    → d ≡ s -ℤ m → d ≡ a +ℤ neg_ℤ (balance id (take (i + 1) es))
sum-more a id es i e s m d l is p q r =
    joins a (balance id (take i es)) (balance id (e ∷ [])) s m d (balance id (take (i + 1) es)) p q r (balance-more id es i e l is)
  where
    joins : (a b c s m d t : ℤ) → s ≡ a +ℤ neg_ℤ b → m ≡ c → d ≡ s -ℤ m → t ≡ b +ℤ c → d ≡ a +ℤ neg_ℤ t
    joins a b c s m d t p q r u = omega (arith, ints, p, q, r, u)

-- ---- how large it is on the way
pub cents-within : (z : ℤ) → FitsSigned w64 z → IsWithin (2 ^ 63) z
cents-within (pos n) fits = (omega (arith, ints), omega (arith, ints, fits.sfits))
cents-within (negsuc n) fits = (omega (arith, ints, fits.sfits), omega (arith, ints))

-- each entry moves it by at most 2^63 cents
pub within-more : (i : ℕ) (s m n d : ℤ) → IsWithin (largest_balance + i * 2 ^ 63) s → FitsSigned w64 n → m ≡ n → d ≡ s -ℤ m → IsWithin (largest_balance + (i + 1) * 2 ^ 63) d
within-more i s m n d h fits p q =
    let few = cents-within n fits in
    (omega (arith, ints, h.0, few.1, p, q), omega (arith, ints, h.1, few.0, p, q))

-- there are fewer than 2^63 entries
pub fits-wide : (i : ℕ) (d : ℤ) → i < 2 ^ 63 → IsWithin (largest_balance + (i + 1) * 2 ^ 63) d → FitsSigned w128 d
fits-wide i (pos k) low h = fits_signed_from_abs w128 (pos k) (omega (arith, ints, h.1))
fits-wide i (negsuc k) low h = fits_signed_from_abs w128 (negsuc k) (omega (arith, ints, h.0))
