-- What a whole fold moves.
use Rattle.std.proofs.Common.{◌≡◌, ℕ, zero, suc, ◌+◌, ◌-◌, ◌*◌, ◌<◌, ◌≤◌, Bool, true, false, cond, List, [], ◌∷◌, refl, ap, arith, ℤ, pos, Option, Some, None, eqb, ltb, leb, length, get_or, ◌⊎◌, inl, inr}
use Rattle.std.specs.Prelude.{◌≤ℤ◌, neg_ℤ}
use Rattle.std.specs.List.{filter, All, Contains}
use Rattle.std.proofs.lemmas.Int.{ints}
use Rattle.std.proofs.lemmas.Bool.{eqb-true, ne_eqb, eq-eqb, cases_lt}
use Rattle.std.proofs.lemmas.Bool.Decides.{nat_tests}
use Rattle.std.proofs.lemmas.List.Elements.{All-nil, All-cons, All-head, All-tail, All-weaker, All-filter, All-contains, All-contains_itself, filter_passes}
use Rattle.std.specs.Option.{option_or}
use Rattle.card_bounds.specs.Bounds.{BalancesSmall, IsLimited, most_moved, moved}
use Rattle.card_events.specs.declared.anchor.Anchor.{Anchor}
use Rattle.card_events.specs.History.{CorrectedPost, amend_of, amended_cents, anchor_of, cents_of, confirmed, corrected, corrected_from, corrected_post, folded, is_folded, last_amend, next_segment}
use Rattle.card_events.specs.SharedRows.{FeeRow, SharedRows}
use Rattle.card_events.specs.declared.kept.Kept.{Kept}
use Rattle.card_events.specs.declared.post.Post.{Post}
use Rattle.card_model.specs.Accepted.{HasFewCents, HasFewFees, posted_cents}
use Rattle.card_model.specs.Books.{Account, Book, account_of, present_cycle}
use Rattle.card_model.specs.Caps.{row_for}
use Rattle.card_model.specs.Cycles.{IssuedRow, posts_on, seen_on}
use Rattle.card_model.specs.Entries.{balance}
use Rattle.card_model.specs.Folds.{book, book_after, day_after}
use Rattle.card_model.specs.Machine.{opened}
use Rattle.card_model.specs.Rates.{own}
use Rattle.card_model.specs.declared.entry.Entry.{Entry}
use Rattle.card_events.specs.declared.post.Post.TheVariants as post
use Rattle.card_bounds.proofs.Bounded.{book-bounded}
use Rattle.card_model.proofs.PartsSum.{rises-filter, slots-rise}
use Rattle.card_bounds.proofs.Owned.{paid_by, held_by, Clean}
use Rattle.card_bounds.proofs.Steps.{Limits, Owned}
use Rattle.card_bounds.proofs.Totals.{Numbers, numbers-filter, slots-number, only-one, day-run, clean-still}

-- the posts folded by days before one
abbrev pub folded_by : ℕ → List CorrectedPost → ℕ
folded_by d ss = length (filter (λ s. ltb s.day d) ss)

abbrev on_day : ℕ → List CorrectedPost → List CorrectedPost
on_day d ss = filter (λ s. eqb s.day d) (filter (λ s. leb s.day d) ss)

apart : (x d : ℕ) → d ≤ x → (x ≡ d → ⊥) → d < x
apart x d l n = by (cases_lt d x)
  where
    by : (d < x) ⊎ (x ≤ d) → d < x
    by (inl h) = h
    by (inr h) = absurd (n (omega arith))

-- one more slot, by where its day lies
earlier-slot : (d : ℕ) (s : CorrectedPost) (ss : List CorrectedPost) → s.day < d → folded_by (suc d) ss ≡ folded_by d ss + length (on_day d ss) → folded_by (suc d) (s ∷ ss) ≡ folded_by d (s ∷ ss) + length (on_day d (s ∷ ss))
earlier-slot d s ss l h =
    let a : ltb s.day (suc d) ≡ true = grind (arith, nat_tests) in
    let b : ltb s.day d ≡ true = grind (arith, nat_tests) in
    let c : leb s.day d ≡ true = grind (arith, nat_tests) in
    let e : eqb s.day d ≡ false = ne_eqb s.day d (λ q. omega arith) in
    rw (a, b, c, e) (omega arith)

same-slot : (d : ℕ) (s : CorrectedPost) (ss : List CorrectedPost) → s.day ≡ d → folded_by (suc d) ss ≡ folded_by d ss + length (on_day d ss) → folded_by (suc d) (s ∷ ss) ≡ folded_by d (s ∷ ss) + length (on_day d (s ∷ ss))
same-slot d s ss q h =
    let a : ltb s.day (suc d) ≡ true = grind (arith, nat_tests) in
    let b : ltb s.day d ≡ false = grind (arith, nat_tests) in
    let c : leb s.day d ≡ true = grind (arith, nat_tests) in
    let e : eqb s.day d ≡ true = eq-eqb s.day d q in
    rw (a, b, c, e) (omega arith)

later-slot : (d : ℕ) (s : CorrectedPost) (ss : List CorrectedPost) → d < s.day → folded_by (suc d) ss ≡ folded_by d ss + length (on_day d ss) → folded_by (suc d) (s ∷ ss) ≡ folded_by d (s ∷ ss) + length (on_day d (s ∷ ss))
later-slot d s ss l h =
    let a : ltb s.day (suc d) ≡ false = grind (arith, nat_tests) in
    let b : ltb s.day d ≡ false = grind (arith, nat_tests) in
    let c : leb s.day d ≡ false = grind (arith, nat_tests) in
    rw (a, b, c) h

count-day : (d : ℕ) (ss : List CorrectedPost) → folded_by (suc d) ss ≡ folded_by d ss + length (on_day d ss)
count-day d [] = omega arith
count-day d (s ∷ ss) = by (cases_lt s.day d) (cases_lt d s.day) (count-day d ss)
  where
    by : (s.day < d) ⊎ (d ≤ s.day) → (d < s.day) ⊎ (s.day ≤ d) → folded_by (suc d) ss ≡ folded_by d ss + length (on_day d ss) → folded_by (suc d) (s ∷ ss) ≡ folded_by d (s ∷ ss) + length (on_day d (s ∷ ss))
    by (inl l) u h = earlier-slot d s ss l h
    by (inr l) (inl u) h = later-slot d s ss u h
    by (inr l) (inr u) h = same-slot d s ss (omega arith) h

-- ---- what holds after so many days
pub record Folded (opened n : ℕ) (ss : List CorrectedPost) (es : List Entry) : Type 0 where
  pub moves : moved es ≤ folded_by (opened + n) ss * 2000100000 + n * 100000
  pub owned : Owned es
  pub clean : (m : ℕ) → All (λ (t : CorrectedPost). t.number ≡ m → opened + n ≤ t.day) ss → Clean m es

folded-nil : (opened : ℕ) (ss : List CorrectedPost) → Folded opened 0 ss []
unfolding moved paid_by held_by
folded-nil opened ss = record {
  moves = omega arith;
  owned = record { paid = λ n. omega arith; held = λ n. omega (arith, ints) };
  clean = λ m h. record { paid = refl; held = refl };
}

pub limits-on : (a : Anchor) (shared : SharedRows) (history : List Kept) (issued : List IssuedRow) (d : ℕ) → All (λ (s : CorrectedPost). s.cents ≤ 1000000000) (folded a shared.holidays history) → All HasFewFees shared.fees
    → Limits (seen_on a shared history issued d)
limits-on a shared history issued d c f = record {
  ids = rises-filter (λ s. leb s.day d) 5 (folded a shared.holidays history) (rises-filter (λ s. is_folded s.post) 5 (corrected a shared.holidays history) (slots-rise a shared.holidays history 1 5 history));
  cents = All-filter (λ (s : CorrectedPost). leb s.day d) (λ (s : CorrectedPost). s.cents ≤ 1000000000) (folded a shared.holidays history) c;
  fees = All-filter (λ (r : FeeRow). leb r.day d) HasFewFees shared.fees f;
}

-- one day more
next-folded : (issued : Option IssuedRow) (acc : Account) (a : Anchor) (shared : SharedRows) (history : List Kept) (rows : List IssuedRow) (opened n : ℕ) (b : Book)
    → All (λ (s : CorrectedPost). s.cents ≤ 1000000000) (folded a shared.holidays history) → All HasFewFees shared.fees → Folded opened n (folded a shared.holidays history) b.entries
    → Folded opened (suc n) (folded a shared.holidays history) (day_after issued acc (seen_on a shared history rows (opened + n)) b).entries
next-folded issued acc a shared history rows opened n b c f h =
    let ss = folded a shared.holidays history in
    let d = opened + n in
    let seen = seen_on a shared history rows d in
    let numbers : Numbers 1 ss = numbers-filter (λ s. is_folded s.post) 1 (corrected a shared.holidays history) (slots-number a shared.holidays history 1 5 history) in
    let here : Numbers 1 (posts_on seen) = numbers-filter (λ s. eqb s.day d) 1 seen.posts (numbers-filter (λ s. leb s.day d) 1 ss numbers) in
    let among : All (Contains ss) (posts_on seen) = All-filter (λ (s : CorrectedPost). eqb s.day d) (Contains ss) seen.posts (All-filter (λ (s : CorrectedPost). leb s.day d) (Contains ss) ss (All-contains_itself ss)) in
    let today : All (λ (s : CorrectedPost). eqb s.day d ≡ true) (posts_on seen) = filter_passes (λ (s : CorrectedPost). eqb s.day d) seen.posts in
    let clean : All (λ (t : CorrectedPost). Clean t.number b.entries) (posts_on seen) = λ k e l.
    let t = get_or (posts_on seen) k e in
    let day : t.day ≡ d = eqb-true t.day d (today k e l) in
    let alone = only-one 1 ss t numbers (among k e l) in
    h.clean t.number (λ i x w q. let same = ap (λ (u : CorrectedPost). u.day) (alone i x w q) in omega arith) in
    let run = day-run issued acc seen 1 b (limits-on a shared history rows d c f) here clean h.owned in
    let shift : opened + suc n ≡ suc d = omega arith in
    record {
      moves = rw (shift, count-day d ss) (sums (moved b.entries) _ (folded_by d ss) (length (posts_on seen)) n h.moves run.moves);
      owned = run.owned;
      clean = λ m later.
          let before = h.clean m (All-weaker (λ (t : CorrectedPost). t.number ≡ m → opened + suc n ≤ t.day) (λ (t : CorrectedPost). t.number ≡ m → opened + n ≤ t.day) (λ t g q. let w = g q in omega arith) ss later) in
          let none : All (λ (t : CorrectedPost). eqb t.number m ≡ false) (posts_on seen) = λ k e l.
          let t = get_or (posts_on seen) k e in
          let day : t.day ≡ d = eqb-true t.day d (today k e l) in
          let after = All-contains (λ (t : CorrectedPost). t.number ≡ m → opened + suc n ≤ t.day) ss t later (among k e l) in
          ne_eqb t.number m (λ q. let w = after q in omega arith) in
          clean-still m b.entries _ (run.other m none) before;
    }
  where
    sums : (x y p q n : ℕ) → x ≤ p * 2000100000 + n * 100000 → y ≤ x + q * 2000100000 + 100000 → y ≤ (p + q) * 2000100000 + suc n * 100000
    sums x y p q n a b = omega arith

pub fold-folded : (rows : List IssuedRow) (acc : Account) (a : Anchor) (shared : SharedRows) (history : List Kept) (issued : List IssuedRow) (n : ℕ)
    → All (λ (s : CorrectedPost). s.cents ≤ 1000000000) (folded a shared.holidays history) → All HasFewFees shared.fees
    → Folded acc.anchor.opened n (folded a shared.holidays history) (book_after rows acc (seen_on a shared history issued) n).entries
unfolding book_after
fold-folded rows acc a shared history issued zero c f = folded-nil acc.anchor.opened (folded a shared.holidays history)
fold-folded rows acc a shared history issued (suc n) c f =
    let b = book_after rows acc (seen_on a shared history issued) n in
    next-folded (row_for (present_cycle b) rows) acc a shared history issued acc.anchor.opened n b c f (fold-folded rows acc a shared history issued n c f)

-- ---- sizes
pub filter-shorter : {X : Type 0} (p : X → Bool) (xs : List X) → length (filter p xs) ≤ length xs
filter-shorter p [] = omega arith
filter-shorter p (x ∷ xs) = by (p x) (filter-shorter p xs)
  where
    by : (t : Bool) → length (filter p xs) ≤ length xs → length (cond t (x ∷ filter p xs) (filter p xs)) ≤ suc (length xs)
    by true h = omega arith
    by false h = omega arith

pub slots-length : (a : Anchor) (holidays : List ℕ) (history : List Kept) (n id : ℕ) (ks : List Kept) → length (corrected_from a holidays history n id ks) ≡ length ks
unfolding corrected_from
slots-length a holidays history n id [] = refl
slots-length a holidays history n id (k ∷ ks) = ap suc (slots-length a holidays history (suc n) (next_segment id k.post) ks)

moved-small : (m p q r l n k : ℕ) → m ≤ p * 2000100000 + n * 100000 → p ≤ q → q ≤ r → r ≡ l → l ≤ k → n ≤ 40000 → m ≤ most_moved k
moved-small m p q r l n k a b c e d f = omega arith

-- ---- corrected cents
abbrev IsFew : Option (ℕ × ℕ) → Type 0
IsFew None = Unit {0}
IsFew (Some x) = x.1 ≤ 1000000000

amend-few : (n : ℕ) (p : Post) → posted_cents p ≤ 1000000000 → IsFew (amend_of n p)
amend-few n (post.Amend t d c) h = by (eqb t n)
  where
    by : (u : Bool) → IsFew (cond u (Some (d, c)) None)
    by true = h
    by false = tt
amend-few n (post.Open d t) h = tt
amend-few n (post.OpenVariable d t) h = tt
amend-few n (post.Charge d p c) h = tt
amend-few n (post.Credit d p c) h = tt
amend-few n (post.Payment d m y c) h = tt
amend-few n (post.Return d t) h = tt
amend-few n (post.Plan d g r f a) h = tt
amend-few n (post.Notice d c r f) h = tt
amend-few n (post.Lower d c r) h = tt
amend-few n post.Penalty h = tt
amend-few n (post.Review d f) h = tt
amend-few n (post.Dispute d t c) h = tt
amend-few n (post.Ack d t) h = tt
amend-few n (post.Resolve d t c) h = tt
amend-few n (post.AskRefund d) h = tt
amend-few n (post.Refund c) h = tt
amend-few n (post.Bill c) h = tt

either-few : (a b : Option (ℕ × ℕ)) → IsFew a → IsFew b → IsFew (option_or a b)
either-few None b g h = h
either-few (Some x) b g h = g

last_amend-few : (n : ℕ) (history : List Kept) → All HasFewCents history → IsFew (last_amend n history)
unfolding last_amend
last_amend-few n [] h = tt
last_amend-few n (k ∷ ks) h = either-few (last_amend n ks) (amend_of n k.post) (last_amend-few n ks (All-tail HasFewCents k ks h)) (amend-few n k.post (All-head HasFewCents k ks h))

amended-few : (o : Option (ℕ × ℕ)) (own : ℕ) → IsFew o → own ≤ 1000000000 → amended_cents o own ≤ 1000000000
amended-few None own g h = h
amended-few (Some x) own g h = g

less-few : (x y : ℕ) → x ≤ 1000000000 → x - y ≤ 1000000000
less-few x y h = omega arith

cents-few : (history : List Kept) (n : ℕ) (p : Post) → All HasFewCents history → posted_cents p ≤ 1000000000 → cents_of history n p ≤ 1000000000
unfolding cents_of
cents-few history n (post.Charge d q c) g h = less-few _ (confirmed n history) (amended-few (last_amend n history) c (last_amend-few n history g) h)
cents-few history n (post.Credit d q c) g h = amended-few (last_amend n history) c (last_amend-few n history g) h
cents-few history n (post.Payment d m y c) g h = amended-few (last_amend n history) c (last_amend-few n history g) h
cents-few history n (post.Dispute d t c) g h = h
cents-few history n (post.Resolve d t c) g h = h
cents-few history n (post.Refund c) g h = h
cents-few history n (post.Amend t d c) g h = h
cents-few history n (post.Open d t) g h = h
cents-few history n (post.OpenVariable d t) g h = h
cents-few history n (post.Return d t) g h = h
cents-few history n (post.Plan d k r f a) g h = h
cents-few history n (post.Notice d c r f) g h = h
cents-few history n (post.Lower d c r) g h = h
cents-few history n post.Penalty g h = h
cents-few history n (post.Review d f) g h = h
cents-few history n (post.Ack d t) g h = h
cents-few history n (post.AskRefund d) g h = h
cents-few history n (post.Bill c) g h = h

corrected-few : (a : Anchor) (holidays : List ℕ) (history : List Kept) (n id : ℕ) (ks : List Kept) → All HasFewCents history → All HasFewCents ks → All (λ (s : CorrectedPost). s.cents ≤ 1000000000) (corrected_from a holidays history n id ks)
unfolding corrected_from corrected_post
corrected-few a holidays history n id [] g h = All-nil (λ (s : CorrectedPost). s.cents ≤ 1000000000)
corrected-few a holidays history n id (k ∷ ks) g h =
    All-cons (λ (s : CorrectedPost). s.cents ≤ 1000000000) _ _ (cents-few history n k.post g (All-head HasFewCents k ks h)) (corrected-few a holidays history (suc n) (next_segment id k.post) ks g (All-tail HasFewCents k ks h))

-- corrected cents are within the range of posted ones
pub folded-few : (a : Anchor) (holidays : List ℕ) (history : List Kept) → All HasFewCents history → All (λ (s : CorrectedPost). s.cents ≤ 1000000000) (folded a holidays history)
folded-few a holidays history h = All-filter (λ (s : CorrectedPost). is_folded s.post) (λ (s : CorrectedPost). s.cents ≤ 1000000000) (corrected a holidays history) (corrected-few a holidays history 1 5 history h h)

pub moved_of-small : (posts : ℕ) (history : List Kept) (issued : List IssuedRow) (shared : SharedRows) (n day : ℕ) → IsLimited posts history shared day → n ≤ 40000
    → moved (book_after issued (account_of history) (seen_on (anchor_of history) shared history issued) n).entries ≤ most_moved posts
moved_of-small posts history issued shared n day l few =
    let a = anchor_of history in
    let ss = folded a shared.holidays history in
    let run = fold-folded issued (account_of history) a shared history issued n (folded-few a shared.holidays history l.cents) l.fees in
    moved-small _ (folded_by (a.opened + n) ss) (length ss) (length (corrected a shared.holidays history)) (length history) n posts run.moves
    (filter-shorter (λ (t : CorrectedPost). ltb t.day (a.opened + n)) ss) (filter-shorter (λ (t : CorrectedPost). is_folded t.post) (corrected a shared.holidays history)) (slots-length a shared.holidays history 1 5 history) l.count few

pub small-high : (z : ℤ) (m posts : ℕ) → z ≤ℤ pos (10000000000000 + m) → m ≤ most_moved posts → posts ≤ 200000 → z ≤ℤ pos 999999999999999
small-high z m posts h l k = omega (arith, ints)

pub small-low : (z : ℤ) (m posts : ℕ) → neg_ℤ (pos m) ≤ℤ z → m ≤ most_moved posts → posts ≤ 200000 → neg_ℤ (pos 999999999999999) ≤ℤ z
small-low z m posts h l k = omega (arith, ints)

pub balances_small : BalancesSmall
unfolding book
balances_small posts history issued shared day l k s =
    let a = anchor_of history in
    let n = day + 1 - a.opened in
    let es = (book_after issued (account_of history) (seen_on a shared history issued) n).entries in
    let small = moved_of-small posts history issued shared n day l (omega (arith, l.days)) in
    let bounds = book-bounded issued (account_of history) (seen_on a shared history issued) n s in
    (small-low (balance s es) (moved es) posts bounds.low small k, small-high (balance s es) (moved es) posts bounds.high small k)
