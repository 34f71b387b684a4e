-- The posts that are left to be brought up to what counts, one after the other.
use Rattle.std.proofs.Common.{◌≡◌, ℕ, suc, ◌-◌, ◌<◌, ◌≤◌, ◌⊎◌, inl, inr, List, [], ◌∷◌, take, length, get_or, set, sym, ap, ◌∙◌, subst, arith}
use Rattle.std.specs.List.{All}
use Rattle.std.proofs.lemmas.Bool.{cases_eq}
use Rattle.std.proofs.lemmas.List.{get_or-set_other, get_or-set_same, get_or-take, get_or_default, length-set, length-take-le, same_lists}
use Rattle.std.proofs.lemmas.List.Elements.{All-head, All-tail}
use Rattle.card_posts.specs.Change.{AgreeBut, IsApart, IsFrom, IsMoved, after_one, first_change, following}
use Rattle.card_posts.specs.declared.effect.Effect.{Effect}

-- numbers that ascend from one on lie apart from those below it
pub from-apart : (low n : ℕ) (ws : List ℕ) → IsFrom low ws → n < low → IsApart n ws
from-apart low n [] f l = tt
from-apart low n (w ∷ ws) f l = ((λ e. omega (arith, e, f.0, l)), from-apart (suc w) n ws f.1 (omega (arith, f.0, l)))

pub from-lower : (low high : ℕ) (ws : List ℕ) → low ≤ high → IsFrom high ws → IsFrom low ws
from-lower low high [] l f = tt
from-lower low high (w ∷ ws) l f = (omega (arith, l, f.0), f.1)

-- what stands before the first that is left is up to it
pub left-front : (w : ℕ) (ws : List ℕ) (es fs : List Effect) (d : Effect) → AgreeBut (w ∷ ws) es fs → take (w - 1) es ≡ take (w - 1) fs
left-front w ws es fs d h =
    let within : w ≤ length es = All-head (λ n. n ≤ length es) w ws h.within in
    let long : length (take (w - 1) es) ≡ w - 1 = length-take-le (w - 1) es (omega (arith, within)) in
    let longer : length (take (w - 1) fs) ≡ w - 1 = length-take-le (w - 1) fs (omega (arith, within, h.long)) in
    same_lists (take (w - 1) es) (take (w - 1) fs) (long ∙ sym longer)
    (λ i x l. let low : i < w - 1 = omega (arith, l, long) in
    get_or-take (w - 1) es i x low ∙ (h.same i x ((λ e. omega (arith, e, low)), from-apart (suc w) (suc i) ws h.from.1 (omega (arith, low))) ∙ sym (get_or-take (w - 1) fs i x low)))

-- once it is brought up the others are left
pub left-next : (w : ℕ) (ws : List ℕ) (es fs : List Effect) (now : Effect) → AgreeBut (w ∷ ws) es fs → now ≡ get_or fs (w - 1) now → AgreeBut ws (set es (w - 1) now) fs
left-next w ws es fs now h is = record {
  from = from-lower 1 (suc w) ws (omega arith) h.from.1;
  within = subst (λ m. All (λ n. n ≤ m) ws) (sym long) (All-tail (λ n. n ≤ length es) w ws h.within);
  long = h.long ∙ sym long;
  same = λ i d a. by i d a (cases_eq i (w - 1)) (cases_eq w (suc i));
}
  where
    long : length (set es (w - 1) now) ≡ length es
    long = length-set es (w - 1) now

    within : w ≤ length es
    within = All-head (λ n. n ≤ length es) w ws h.within

    by : (i : ℕ) (d : Effect) → IsApart (suc i) ws → (i ≡ w - 1) ⊎ (i ≡ w - 1 → ⊥) → (w ≡ suc i) ⊎ (w ≡ suc i → ⊥) → get_or (set es (w - 1) now) i d ≡ get_or fs i d
    by i d a (inr n) (inr m) = get_or-set_other es (w - 1) i now d n ∙ h.same i d (m, a)
    by i d a (inr n) (inl e) = absurd (n (omega (arith, e)))
    by i d a (inl e) m =
        let some : w - 1 < length es = omega (arith, within, h.from.0) in
        subst (λ j. get_or (set es (w - 1) now) j d ≡ get_or fs j d) (sym e) (get_or-set_same es (w - 1) now d some ∙ (is ∙ get_or_default fs (w - 1) now d (omega (arith, some, h.long))))

-- where none is left all is up to it
pub left-none : (es fs : List Effect) → AgreeBut [] es fs → es ≡ fs
left-none es fs h = same_lists es fs (sym h.long) (λ i d l. h.same i d tt)

-- ---- one that is brought up to what counts
pub left-length : (old mid : List Effect) (i : ℕ) (now : Effect) → mid ≡ set old i now → length mid ≡ length old
left-length old mid i now made = ap length made ∙ length-set old i now

-- the others are left
pub left-on : (w : ℕ) (ws : List ℕ) (old all mid : List Effect) (now : Effect) (m : ℕ) → AgreeBut (w ∷ ws) old (take m all) → length old ≡ m → now ≡ get_or all (w - 1) now → mid ≡ set old (w - 1) now → AgreeBut ws mid (take m all)
left-on w ws old all mid now m h long is made =
    let low : w - 1 < m = omega (arith, long, h.from.0, All-head (λ n. n ≤ length old) w ws h.within) in
    subst (λ u. AgreeBut ws u (take m all)) (sym made) (left-next w ws old (take m all) now h (is ∙ sym (get_or-take m all (w - 1) now low)))

-- ---- the post that is corrected was brought up to what counts
now-is : (old all : List Effect) (n : ℕ) (before now : Effect) → n ≤ length old → 0 < n → ((d : Effect) → now ≡ get_or all (n - 1) d) → now ≡ get_or (take (length old) all) (n - 1) before
now-is old all n before now l z is = is before ∙ sym (get_or-take (length old) all (n - 1) before (omega (arith, l, z)))

-- those that follow it are left
pub left-with : (old all mid : List Effect) (n : ℕ) (ws numbers : List ℕ) (before now : Effect) → IsMoved n ws old (take (length old) all) → 0 < n → before ≡ get_or old (n - 1) before
    → ((d : Effect) → now ≡ get_or all (n - 1) d) → mid ≡ set old (n - 1) now → numbers ≡ following before now ws → AgreeBut numbers mid (take (length mid) all)
left-with old all mid n ws numbers before now moved z was is made are =
    let new : List Effect = take (length old) all in
    let there : now ≡ get_or new (n - 1) before = now-is old all n before now moved.within z is in
    let long : length mid ≡ length old = left-length old mid (n - 1) now made in
    let same : numbers ≡ following (get_or old (n - 1) before) (get_or new (n - 1) before) ws =
    are ∙ (ap (λ e. following e now ws) was ∙ ap (λ e. following (get_or old (n - 1) before) e ws) there) in
    subst (λ m. AgreeBut numbers mid (take m all)) (sym long)
    (subst (λ u. AgreeBut u mid new) (sym same) (subst (λ u. AgreeBut (following (get_or old (n - 1) before) (get_or new (n - 1) before) ws) u new) (sym (made ∙ ap (set old (n - 1)) there)) (moved.others before z)))

-- and the first day is told by that one
pub left-first : (last result : ℕ) (old all new : List Effect) (n : ℕ) (ws : List ℕ) (before now : Effect) → IsMoved n ws old (take (length old) all) → 0 < n → before ≡ get_or old (n - 1) before
    → ((d : Effect) → now ≡ get_or all (n - 1) d) → new ≡ take (length old) all → result ≡ after_one last before now → result ≡ first_change last old new
left-first last result old all new n ws before now moved z was is new_is told =
    told ∙ (ap (λ e. after_one last e now) was ∙ (ap (after_one last (get_or old (n - 1) before)) (now-is old all n before now moved.within z is)
    ∙ (sym (moved.first last before z) ∙ ap (first_change last old) (sym new_is))))
