-- What deferred plans have accrued at closings, segment by segment.
use Rattle.std.proofs.Common.{◌≡◌, ℕ, suc, ◌+◌, ◌-◌, ◌<◌, ◌≤◌, Bool, true, false, cond, List, [], ◌∷◌, ◌++◌, length, map, take, drop, get_or, refl, sym, ap, ◌∙◌, subst, arith, Option, Some, None, append_assoc}
use Rattle.std.specs.Prelude.{◌==◌, ◌&&◌, is_some, option_to_list}
use Rattle.std.specs.List.{filter, find, range_with_len}
use Rattle.std.specs.Option.{option_map_or, option_or}
use Rattle.std.proofs.lemmas.List.{drop_more, map-append, take-append-drop, take-take, take_more}
use Rattle.std.proofs.lemmas.List.Elements.{filter-append}
use Rattle.std.proofs.lemmas.List.Folds.{find-append}
use Rattle.std.proofs.lemmas.List.FromFn.{map-range_with_len_more}
use Rattle.card_closing.specs.Accruals.{Accrued, nothing_accrued}
use Rattle.card_model.specs.Rates.{accrual_rate}
use Rattle.card_model.specs.Segments.{SegmentTerms}
use Rattle.card_rates.specs.RateBooks.{AreByNumber}
use Rattle.card_daily.proofs.Standing.{begins-with}
use Rattle.card_book.specs.Marks.{accrued_at, accruing_of}
use Rattle.card_book.specs.declared.marks.Accruing.{Accruing}

-- ---- of one segment
abbrev accruing : ℕ → ℕ → Accrued → Accruing
accruing cycle segment accrual = record { cycle = cycle; segment = segment; accrual = accrual }

abbrev accrues_on : ℕ → SegmentTerms → Bool
accrues_on day t = is_some (accrual_rate day t)

pub kept-some : (cycle day id : ℕ) (accruals : List Accrued) (t : SegmentTerms) (o : Option ℕ) (rate : ℕ) (x : Accrued) → t.id ≡ id → o ≡ accrual_rate day t → o ≡ Some rate → x ≡ get_or accruals (id - 2) nothing_accrued
    → accruing cycle id x ∷ [] ≡ map (accruing_of cycle accruals) (filter (accrues_on day) (t ∷ []))
kept-some cycle day id accruals t o rate x number e f h =
    let accrues : accrues_on day t ≡ true = ap is_some (sym e ∙ f) in
    let same : accruing cycle id x ∷ [] ≡ accruing cycle t.id (get_or accruals (t.id - 2) nothing_accrued) ∷ [] =
    ap (λ s. accruing cycle s x ∷ []) (sym number) ∙ ap (λ a. accruing cycle t.id a ∷ []) (h ∙ ap (λ n. get_or accruals (n - 2) nothing_accrued) (sym number)) in
    subst (λ b. accruing cycle id x ∷ [] ≡ map (accruing_of cycle accruals) (cond b (t ∷ []) [])) (sym accrues) same

pub kept-none : (cycle day : ℕ) (accruals : List Accrued) (t : SegmentTerms) (o : Option ℕ) → o ≡ accrual_rate day t → o ≡ None → [] ≡ map (accruing_of cycle accruals) (filter (accrues_on day) (t ∷ []))
kept-none cycle day accruals t o e f =
    let none : accrues_on day t ≡ false = ap is_some (sym e ∙ f) in
    subst (λ b. [] ≡ map (accruing_of cycle accruals) (cond b (t ∷ []) [])) (sym none) refl

-- ---- of all segments
abbrev kept_of : ℕ → ℕ → List Accrued → List SegmentTerms → List Accruing
kept_of cycle day accruals ts = map (accruing_of cycle accruals) (filter (accrues_on day) ts)

kept-append : (cycle day : ℕ) (accruals : List Accrued) (xs ys : List SegmentTerms) → kept_of cycle day accruals (xs ++ ys) ≡ kept_of cycle day accruals xs ++ kept_of cycle day accruals ys
kept-append cycle day accruals xs ys =
    ap (map (accruing_of cycle accruals)) (filter-append (accrues_on day) xs ys) ∙ map-append (accruing_of cycle accruals) (filter (accrues_on day) xs) (filter (accrues_on day) ys)

-- with one segment more
pub kept-next : (cycle day : ℕ) (accruals : List Accrued) (ts : List SegmentTerms) (i : ℕ) (d : SegmentTerms) (old now new : List Accruing) (o : Option Accruing) → i < length ts
    → now ≡ old ++ kept_of cycle day accruals (take i ts) → option_to_list o ≡ kept_of cycle day accruals (get_or ts i d ∷ []) → new ≡ now ++ option_to_list o
    → new ≡ old ++ kept_of cycle day accruals (take (i + 1) ts)
kept-next cycle day accruals ts i d old now new o l e h k =
    let front = kept_of cycle day accruals (take i ts) in
    let one = kept_of cycle day accruals (get_or ts i d ∷ []) in
    let all : kept_of cycle day accruals (take (i + 1) ts) ≡ front ++ one = ap (kept_of cycle day accruals) (take_more ts i d l) ∙ kept-append cycle day accruals (take i ts) (get_or ts i d ∷ []) in
    k ∙ (ap (λ (u : List Accruing). u ++ option_to_list o) e ∙ (ap (λ (u : List Accruing). (old ++ front) ++ u) h ∙ (append_assoc old front one ∙ ap (λ (u : List Accruing). old ++ u) (sym all))))

-- a list that begins with one that began with another
pub begins-still : (old rest now new : List Accruing) → now ≡ old ++ rest → take (length now) new ≡ now → take (length old) new ≡ old
begins-still old rest now new e h =
    let first = begins-with old now rest e in
    let long : length old ≤ length now = few old rest now e in
    sym (take-take (length old) (length now) new long) ∙ (ap (take (length old)) h ∙ first)
  where
    few : (old rest now : List Accruing) → now ≡ old ++ rest → length old ≤ length now
    few old rest now e = subst (λ (u : List Accruing). length old ≤ length u) (sym e) (short old rest)
      where
        short : (xs ys : List Accruing) → length xs ≤ length (xs ++ ys)
        short [] ys = omega arith
        short (x ∷ xs) ys = let l = short xs ys in omega (arith, l)

-- ---- what was kept of one
pub found-here : (p : Accruing → Bool) (xs : List Accruing) (i : ℕ) (x : Accruing) → i < length xs → x ≡ get_or xs i x → find p (take i xs) ≡ None → p x ≡ true → find p xs ≡ Some x
found-here p xs i x l e h t =
    ap (find p) (sym (take-append-drop i xs))
    ∙ (find-append p (take i xs) (drop i xs)
    ∙ (ap (λ (o : Option Accruing). option_or o (find p (drop i xs))) h
    ∙ (ap (find p) (drop_more xs i x l)
    ∙ subst (λ (y : Accruing). find p (y ∷ drop (i + 1) xs) ≡ Some x) e (subst (λ b. cond b (Some x) (find p (drop (i + 1) xs)) ≡ Some x) (sym t) refl))))

pub passed-here : (p : Accruing → Bool) (xs : List Accruing) (i : ℕ) (x : Accruing) → i < length xs → x ≡ get_or xs i x → find p (take i xs) ≡ None → p x ≡ false → find p (take (i + 1) xs) ≡ None
passed-here p xs i x l e h t =
    ap (find p) (take_more xs i x l)
    ∙ (find-append p (take i xs) (get_or xs i x ∷ [])
    ∙ (ap (λ (o : Option Accruing). option_or o (find p (get_or xs i x ∷ []))) h
    ∙ subst (λ (y : Accruing). find p (y ∷ []) ≡ None) e (subst (λ b. cond b (Some x) None ≡ None) (sym t) refl)))

abbrev pub is_kept_of : ℕ → ℕ → Accruing → Bool
is_kept_of cycle segment a = (a.cycle == cycle) && (a.segment == segment)

pub accrued-found : (cycle segment : ℕ) (xs : List Accruing) (x : Accruing) → find (is_kept_of cycle segment) xs ≡ Some x → x.accrual ≡ accrued_at cycle xs segment
unfolding accrued_at
accrued-found cycle segment xs x e = ap (λ (o : Option Accruing). option_map_or (λ (a : Accruing). a.accrual) o nothing_accrued) (sym e)

pub accrued-none : (cycle segment : ℕ) (xs : List Accruing) → find (is_kept_of cycle segment) xs ≡ None → nothing_accrued ≡ accrued_at cycle xs segment
unfolding accrued_at
accrued-none cycle segment xs e = ap (λ (o : Option Accruing). option_map_or (λ (a : Accruing). a.accrual) o nothing_accrued) (sym e)

-- ---- of segments by number
pub accrued-next : (cycle : ℕ) (kept : List Accruing) (id : ℕ) (x : Accrued) (old new : List Accrued) → old ≡ map (accrued_at cycle kept) (range_with_len 2 id) → x ≡ accrued_at cycle kept (id + 2) → new ≡ old ++ x ∷ []
    → new ≡ map (accrued_at cycle kept) (range_with_len 2 (id + 1))
accrued-next cycle kept id x old new h e k =
    k ∙ (ap (λ (u : List Accrued). u ++ x ∷ []) h
    ∙ (ap (λ (y : Accrued). map (accrued_at cycle kept) (range_with_len 2 id) ++ y ∷ []) e ∙ sym (map-range_with_len_more (accrued_at cycle kept) 2 id (id + 2) (omega arith))))

by-number : (f : ℕ → Accrued) (m : ℕ) (ts : List SegmentTerms) → AreByNumber m ts → map f (range_with_len m (length ts)) ≡ map (λ (t : SegmentTerms). f t.id) ts
unfolding AreByNumber
by-number f m [] h = refl
by-number f m (t ∷ ts) (e, h) =
    let next : m + 1 ≡ suc m = omega arith in
    ap (λ s. f s ∷ map f (range_with_len (m + 1) (length ts))) (sym e)
    ∙ (ap (λ s. f t.id ∷ map f (range_with_len s (length ts))) next ∙ ap (λ (u : List Accrued). f t.id ∷ u) (by-number f (suc m) ts h))

pub accrued-all : (cycle : ℕ) (kept : List Accruing) (ts : List SegmentTerms) (n : ℕ) (xs : List Accrued) → xs ≡ map (accrued_at cycle kept) (range_with_len 2 n) → length ts ≡ n → AreByNumber 2 ts
    → xs ≡ map (λ (t : SegmentTerms). accrued_at cycle kept t.id) ts
accrued-all cycle kept ts n xs h e numbered =
    h ∙ (ap (λ k. map (accrued_at cycle kept) (range_with_len 2 k)) (sym e) ∙ by-number (accrued_at cycle kept) 2 ts numbered)
