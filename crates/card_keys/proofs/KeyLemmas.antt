-- An index of posts by their keys: the last post with a hash, and for each post the one before it.
use Rattle.std.proofs.Common.{◌≡◌, ℕ, zero, suc, ◌+◌, ◌-◌, ◌<◌, ◌≤◌, Bool, true, false, cond, nat_eq, List, [], ◌∷◌, ◌++◌, take, length, get_or, set, Option, Some, None, refl, sym, ap, ◌∙◌, subst, arith}
use Rattle.std.specs.Option.{option_or}
use Rattle.std.specs.Prelude.{slice_get}
use Rattle.std.specs.Str.{bytes_eq}
use Rattle.std.proofs.lemmas.Bool.Decides.{nat_tests}
use Rattle.std.proofs.lemmas.Grind.{get_or-set_at}
use Rattle.std.proofs.lemmas.List.{append-nil, append_assoc, get_or-set_other, length-set, length-take, take_all, take_more}
use Rattle.card_events.specs.Keys.{key_from, with_key}
use Rattle.card_events.specs.declared.kept.Kept.{Kept}
use Rattle.card_events.specs.declared.post.Post.TheVariants as post
use Rattle.card_events.proofs.Keys.{keys-more, same_bytes}
use Rattle.card_keys.specs.Buckets.{Enters, Indexed, IsIndex, IsWalked, Leaves, earlier_from, found_at, key_in, key_of, last_in, bucket}

none-last : {X : Type 0} (o : Option X) → o ≡ option_or o None
none-last None = refl
none-last (Some x) = refl

-- ---- one more post
some-number : (x y : ℕ) → x ≡ y + 1 → nat_eq x 0 ≡ false
some-number x y e = grind (arith, nat_tests)

pub hashed-more : (hs : List ℕ → ℕ) (hash n : ℕ) (h : List Kept) (k : Kept) → last_in hs hash (n + 1) (h ++ k ∷ []) ≡ cond (nat_eq (hs k.key) hash) ((n + 1) + length h) (last_in hs hash (n + 1) h)
unfolding last_in
hashed-more hs hash n [] k = let z : n + 1 ≡ (n + 1) + 0 = omega arith in ap (λ m. cond (nat_eq (hs k.key) hash) m 0) z
hashed-more hs hash n (j ∷ h) k = at (nat_eq (hs k.key) hash) (hashed-more hs hash (n + 1) h k)
  where
    own : ℕ
    own = cond (nat_eq (hs j.key) hash) (n + 1) 0

    at : (t : Bool) → last_in hs hash ((n + 1) + 1) (h ++ k ∷ []) ≡ cond t (((n + 1) + 1) + length h) (last_in hs hash ((n + 1) + 1) h)
        → cond (nat_eq (last_in hs hash ((n + 1) + 1) (h ++ k ∷ [])) 0) own (last_in hs hash ((n + 1) + 1) (h ++ k ∷ [])) ≡ cond t ((n + 1) + suc (length h)) (cond (nat_eq (last_in hs hash ((n + 1) + 1) h) 0) own (last_in hs hash ((n + 1) + 1) h))
    at true e =
        let some : nat_eq (last_in hs hash ((n + 1) + 1) (h ++ k ∷ [])) 0 ≡ false = some-number (last_in hs hash ((n + 1) + 1) (h ++ k ∷ [])) ((n + 1) + length h) (omega (arith, e)) in
        rw some (omega (arith, e))
    at false e = ap (λ m. cond (nat_eq m 0) own m) e

pub earlier-more : (hs : List ℕ → ℕ) (before ks : List Kept) (k : Kept) → earlier_from hs before (ks ++ k ∷ []) ≡ earlier_from hs before ks ++ last_in hs (hs k.key) 1 (before ++ ks) ∷ []
unfolding earlier_from
earlier-more hs before [] k = ap (λ (b : List Kept). last_in hs (hs k.key) 1 b ∷ []) (sym (append-nil before))
earlier-more hs before (j ∷ ks) k =
    ap (λ (xs : List ℕ). last_in hs (hs j.key) 1 before ∷ xs) (earlier-more hs (before ++ j ∷ []) ks k ∙ ap (λ (b : List Kept). earlier_from hs (before ++ j ∷ []) ks ++ last_in hs (hs k.key) 1 b ∷ []) (append_assoc before (j ∷ []) ks))

pub earlier-length : (hs : List ℕ → ℕ) (before ks : List Kept) → length (earlier_from hs before ks) ≡ length ks
unfolding earlier_from
earlier-length hs before [] = refl
earlier-length hs before (k ∷ ks) = ap suc (earlier-length hs (before ++ k ∷ []) ks)

pub earlier-at : (hs : List ℕ → ℕ) (before ks : List Kept) (j d : ℕ) (k : Kept) → j < length ks → get_or (earlier_from hs before ks) j d ≡ last_in hs (hs (get_or ks j k).key) 1 (before ++ take j ks)
unfolding earlier_from
earlier-at hs before [] j d k l = absurd (omega (arith, l))
earlier-at hs before (x ∷ ks) zero d k l = ap (last_in hs (hs x.key) 1) (sym (append-nil before))
earlier-at hs before (x ∷ ks) (suc j) d k l =
    earlier-at hs (before ++ x ∷ []) ks j d k (omega (arith, l)) ∙ ap (last_in hs (hs (get_or ks j k).key) 1) (append_assoc before (x ∷ []) (take j ks))

same-bucket : (b q : ℕ) → nat_eq b q ≡ true → q ≡ b
same-bucket b q e = grind (arith, nat_tests)

other-bucket : (b q : ℕ) → nat_eq b q ≡ false → q ≡ b → ⊥
other-bucket b q e f = grind (arith, nat_tests)

-- the index after one more post
pub entered : (h : List Kept) (k : Kept) (b number : ℕ) (old new : Indexed) → b ≡ bucket (length old.heads) k.key → b < length old.heads → number ≡ length h + 1 → IsIndex h old → Enters b number old new → IsIndex (h ++ k ∷ []) new
entered h k b number old new is low at i e = record {
  size = i.size;
  some = i.some;
  long = ap (λ (xs : List ℕ). length xs) e.heads ∙ length-set old.heads b number ∙ i.long;
  last = λ q d l. ap (λ (xs : List ℕ). get_or xs q d) e.heads ∙ by q d l (nat_eq b q) refl ∙ sym (hashed-more (bucket i.size) q 0 h k);
  earlier = e.earlier 0 ∙ ap (λ (xs : List ℕ). xs ++ get_or old.heads b 0 ∷ []) i.earlier ∙ ap (λ m. earlier_from (bucket i.size) [] h ++ m ∷ []) (i.last b 0 (omega (arith, low, i.long)) ∙ ap (λ x. last_in (bucket i.size) x 1 h) own) ∙ sym (earlier-more (bucket i.size) [] h k);
}
  where
    own : b ≡ bucket i.size k.key
    own = is ∙ ap (λ m. bucket m k.key) i.long

    first : number ≡ (0 + 1) + length h
    first = omega (arith, at)

    by : (q d : ℕ) → q < i.size → (t : Bool) → nat_eq b q ≡ t → get_or (set old.heads b number) q d ≡ cond (nat_eq (bucket i.size k.key) q) ((0 + 1) + length h) (last_in (bucket i.size) q 1 h)
    by q d l true e = get_or-set_at old.heads b q number d (same-bucket b q e) low ∙ first ∙ ap (λ t. cond t ((0 + 1) + length h) (last_in (bucket i.size) q 1 h)) (sym e ∙ ap (λ x. nat_eq x q) own)
    by q d l false e = get_or-set_other old.heads b q number d (other-bucket b q e) ∙ i.last q d l ∙ ap (λ t. cond t ((0 + 1) + length h) (last_in (bucket i.size) q 1 h)) (sym e ∙ ap (λ x. nat_eq x q) own)

-- the list of an index ends with the post before the last one
pub split : (h : List Kept) (k : Kept) (b : ℕ) (old : Indexed) → b ≡ bucket (length old.heads) k.key → (i : IsIndex (h ++ k ∷ []) old) → old.earlier ≡ earlier_from (bucket i.size) [] h ++ last_in (bucket i.size) b 1 h ∷ []
split h k b old is i = i.earlier ∙ earlier-more (bucket i.size) [] h k ∙ ap (λ x. earlier_from (bucket i.size) [] h ++ last_in (bucket i.size) x 1 h ∷ []) (sym (is ∙ ap (λ m. bucket m k.key) i.long))

-- .. and after the last one was taken out
pub left : (h : List Kept) (k : Kept) (b : ℕ) (old new : Indexed) → b ≡ bucket (length old.heads) k.key → b < length old.heads → IsIndex (h ++ k ∷ []) old → Leaves b old new → IsIndex h new
left h k b old new is low i l = record {
  size = i.size;
  some = i.some;
  long = ap (λ (xs : List ℕ). length xs) heads ∙ length-set old.heads b (last_in (bucket i.size) b 1 h) ∙ i.long;
  last = λ q d m. ap (λ (xs : List ℕ). get_or xs q d) heads ∙ by q d m (nat_eq b q) refl;
  earlier = l.earlier (earlier_from (bucket i.size) [] h) (last_in (bucket i.size) b 1 h) (split h k b old is i);
}
  where
    own : b ≡ bucket i.size k.key
    own = is ∙ ap (λ m. bucket m k.key) i.long

    heads : new.heads ≡ set old.heads b (last_in (bucket i.size) b 1 h)
    heads = l.heads (earlier_from (bucket i.size) [] h) (last_in (bucket i.size) b 1 h) (split h k b old is i)

    by : (q d : ℕ) → q < i.size → (t : Bool) → nat_eq b q ≡ t → get_or (set old.heads b (last_in (bucket i.size) b 1 h)) q d ≡ last_in (bucket i.size) q 1 h
    by q d m true e = get_or-set_at old.heads b q (last_in (bucket i.size) b 1 h) d (same-bucket b q e) low ∙ ap (λ x. last_in (bucket i.size) x 1 h) (sym (same-bucket b q e))
    by q d m false e =
        let other : nat_eq (bucket i.size k.key) q ≡ false = ap (λ x. nat_eq x q) (sym own) ∙ e in
        get_or-set_other old.heads b q (last_in (bucket i.size) b 1 h) d (other-bucket b q e) ∙ i.last q d m ∙ hashed-more (bucket i.size) q 0 h k ∙ ap (λ t. cond t ((0 + 1) + length h) (last_in (bucket i.size) q 1 h)) other

-- ---- the search
abbrev none : Kept
none = record { number = 0; key = []; accepted = 0; post = post.Penalty }

got : (h : List Kept) (m : ℕ) (d : Kept) → m < length h → slice_get h m ≡ Some (get_or h m d)
got [] m d l = absurd (omega (arith, l))
got (k ∷ h) zero d l = refl
got (k ∷ h) (suc m) d l = got h m d (omega (arith, l))

pub key-at : (h : List Kept) (m : ℕ) (d : Kept) → m < length h → key_of h (suc m) ≡ (get_or h m d).key
key-at h m d l = ap key_in (got h m d l)

-- keys in other buckets are others
unlike : (hs : List ℕ → ℕ) (x y : List ℕ) → (hs x ≡ hs y → ⊥) → bytes_eq x y ≡ false
unlike hs x y apart = at (bytes_eq x y) refl
  where
    at : (b : Bool) → bytes_eq x y ≡ b → b ≡ false
    at true e = absurd (apart (ap hs (same_bytes x y e)))
    at false e = refl

-- of the first m posts the last one with the hash is n
pub record IsLast (hs : List ℕ → ℕ) (hash : ℕ) (h : List Kept) (m n : ℕ) : Type 0 where
  pub within : n ≤ m
  pub own : 0 < n → hs (key_of h n) ≡ hash
  pub finds : (key : List ℕ) → hs key ≡ hash → with_key key (take m h) ≡ with_key key (take n h)

keys-step : (key : List ℕ) (h : List Kept) (m : ℕ) (d : Kept) → m < length h → with_key key (take (suc m) h) ≡ option_or (with_key key (take m h)) (cond (bytes_eq (get_or h m d).key key) (Some (suc m)) None)
keys-step key h m d l =
    let next : suc m ≡ m + 1 = omega arith in
    let long : length (take m h) ≡ m = length-take m h ∙ omega (arith, l) in
    let number : 1 + length (take m h) ≡ suc m = omega (arith, long) in
    ap (λ j. with_key key (take j h)) next ∙ ap (with_key key) (take_more h m d l) ∙ keys-more key 1 (take m h) (get_or h m d)
    ∙ ap (λ j. option_or (with_key key (take m h)) (cond (bytes_eq (get_or h m d).key key) (Some j) None)) number

last-step : (hs : List ℕ → ℕ) (hash : ℕ) (h : List Kept) (m : ℕ) (d : Kept) → m < length h → last_in hs hash 1 (take (suc m) h) ≡ cond (nat_eq (hs (get_or h m d).key) hash) (suc m) (last_in hs hash 1 (take m h))
last-step hs hash h m d l =
    let next : suc m ≡ m + 1 = omega arith in
    let long : length (take m h) ≡ m = length-take m h ∙ omega (arith, l) in
    let number : (0 + 1) + length (take m h) ≡ suc m = omega (arith, long) in
    ap (λ j. last_in hs hash 1 (take j h)) next ∙ ap (last_in hs hash 1) (take_more h m d l) ∙ hashed-more hs hash 0 (take m h) (get_or h m d)
    ∙ ap (λ j. cond (nat_eq (hs (get_or h m d).key) hash) j (last_in hs hash 1 (take m h))) number

pub last-of : (hs : List ℕ → ℕ) (hash : ℕ) (h : List Kept) (m : ℕ) → m ≤ length h → IsLast hs hash h m (last_in hs hash 1 (take m h))
unfolding last_in
last-of hs hash h zero l = record { within = omega arith; own = λ p. absurd (omega (arith, p)); finds = λ key e. refl }
last-of hs hash h (suc m) l = subst (λ n. IsLast hs hash h (suc m) n) (sym (last-step hs hash h m none (omega (arith, l)))) (at (nat_eq (hs (get_or h m none).key) hash) refl (last-of hs hash h m (omega (arith, l))))
  where
    inside : m < length h
    inside = omega (arith, l)

    same : nat_eq (hs (get_or h m none).key) hash ≡ true → hs (get_or h m none).key ≡ hash
    same e = grind (arith, nat_tests)

    apart : nat_eq (hs (get_or h m none).key) hash ≡ false → hs (get_or h m none).key ≡ hash → ⊥
    apart e f = grind (arith, nat_tests)

    at : (t : Bool) → nat_eq (hs (get_or h m none).key) hash ≡ t → IsLast hs hash h m (last_in hs hash 1 (take m h)) → IsLast hs hash h (suc m) (cond t (suc m) (last_in hs hash 1 (take m h)))
    at true e r = record { within = omega arith; own = λ p. ap hs (key-at h m none inside) ∙ same e; finds = λ key f. refl }
    at false e r = record {
      within = omega (arith, r.within);
      own = r.own;
      finds = λ key f.
          let other : bytes_eq (get_or h m none).key key ≡ false = unlike hs (get_or h m none).key key (λ g. apart e (g ∙ f)) in
          keys-step key h m none inside ∙ ap (λ t. option_or (with_key key (take m h)) (cond t (Some (suc m)) None)) other ∙ sym (none-last (with_key key (take m h))) ∙ r.finds key f;
    }

-- an index by the number of its buckets
abbrev pub own : Indexed → List ℕ → ℕ
own i = bucket (length i.heads)

last-own : (h : List Kept) (i : Indexed) → IsIndex h i → (b d : ℕ) → b < length i.heads → get_or i.heads b d ≡ last_in (own i) b 1 h
last-own h i is = subst (λ m. (b d : ℕ) → b < m → get_or i.heads b d ≡ last_in (bucket m) b 1 h) (sym is.long) is.last

earlier-own : (h : List Kept) (i : Indexed) → IsIndex h i → i.earlier ≡ earlier_from (own i) [] h
earlier-own h i is = subst (λ m. i.earlier ≡ earlier_from (bucket m) [] h) (sym is.long) is.earlier

-- where the search begins
pub walk-starts : (h : List Kept) (i : Indexed) (key : List ℕ) (n b : ℕ) → IsIndex h i → b ≡ own i key → b < length i.heads → n ≡ get_or i.heads b 0 → IsWalked (own i) h key n × (option_or (with_key key (take n h)) None ≡ with_key key h)
walk-starts h i key n b is here low e =
    let whole : take (length h) h ≡ h = take_all (length h) h (omega arith) in
    let at : n ≡ last_in (own i) (own i key) 1 (take (length h) h) = e ∙ last-own h i is b 0 low ∙ ap (λ x. last_in (own i) x 1 h) here ∙ ap (last_in (own i) (own i key) 1) (sym whole) in
    let last : IsLast (own i) (own i key) h (length h) n = subst (λ m. IsLast (own i) (own i key) h (length h) m) (sym at) (last-of (own i) (own i key) h (length h) (omega arith)) in
    (record { within = last.within; own = last.own }, sym (none-last (with_key key (take n h))) ∙ sym (last.finds key refl) ∙ ap (with_key key) whole)

joined : {X : Type 0} (a b : Option X) (t : Bool) (x : X) → option_or (option_or a (cond t (Some x) None)) b ≡ option_or a (cond t (Some x) b)
joined None b true x = refl
joined None b false x = refl
joined (Some y) b t x = refl

-- one post further down
pub walk-on : (h : List Kept) (i : Indexed) (key : List ℕ) (n m : ℕ) (found : Option ℕ) → IsIndex h i → 0 < n → IsWalked (own i) h key n → m ≡ get_or i.earlier (n - 1) 0 → option_or (with_key key (take n h)) found ≡ with_key key h
    → IsWalked (own i) h key m × (option_or (with_key key (take m h)) (found_at h n key found) ≡ with_key key h) × (m < n)
walk-on h i key zero m found is low w e f = absurd (omega (arith, low))
walk-on h i key (suc n) m found is low w e f =
    let inside : n < length h = omega (arith, w.within) in
    let here : suc n - 1 ≡ n = omega arith in
    let named : key_of h (suc n) ≡ (get_or h n none).key = key-at h n none inside in
    let bucketed : own i (get_or h n none).key ≡ own i key = ap (own i) (sym named) ∙ w.own low in
    let at : m ≡ last_in (own i) (own i key) 1 (take n h) = e ∙ ap (λ j. get_or i.earlier j 0) here ∙ ap (λ (xs : List ℕ). get_or xs n 0) (earlier-own h i is) ∙ earlier-at (own i) [] h n 0 none inside ∙ ap (λ x. last_in (own i) x 1 (take n h)) bucketed in
    let last : IsLast (own i) (own i key) h n m = subst (λ j. IsLast (own i) (own i key) h n j) (sym at) (last-of (own i) (own i key) h n (omega (arith, inside))) in
    let less : m < suc n = omega (arith, last.within) in (
      record { within = omega (arith, last.within, inside); own = last.own },
      ap (λ o. option_or o (found_at h (suc n) key found)) (sym (last.finds key refl))
          ∙ ap (λ (b : List ℕ). option_or (with_key key (take n h)) (cond (bytes_eq b key) (Some (suc n)) found)) named
          ∙ sym (joined (with_key key (take n h)) found (bytes_eq (get_or h n none).key key) (suc n))
          ∙ ap (λ o. option_or o found) (sym (keys-step key h n none inside)) ∙ f,
      less,
    )

-- where the search ends
pub walk-ends : (h : List Kept) (key : List ℕ) (n : ℕ) (found : Option ℕ) → n ≡ 0 → option_or (with_key key (take n h)) found ≡ with_key key h → found ≡ with_key key h
unfolding key_from
walk-ends h key zero found z e = e
walk-ends h key (suc n) found z e = absurd (omega (arith, z))
