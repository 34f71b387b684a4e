-- The segments that later posts add, behind those that are there: nothing is owed on them and nothing has accrued.
use Rattle.std.proofs.Common.{◌≡◌, ℕ, suc, ◌+◌, ◌*◌, ◌<◌, ◌≤◌, false, List, [], ◌∷◌, ◌++◌, length, map, refl, sym, ap, ◌∙◌, subst, arith, Option, Some, None, eqb, append_assoc}
use Rattle.std.specs.List.{All, Contains, cons_option, sum_by}
use Rattle.std.proofs.lemmas.Bool.{ne_eqb}
use Rattle.std.proofs.lemmas.List.Elements.{All-cons, All-contains, All-nil, All-weaker}
use Rattle.card_bounds.proofs.OnSegments.{entries_have_segments}
use Rattle.card_bounds.specs.Places.{numbers_of}
use Rattle.std.proofs.lemmas.List.Sums.{sum_by-cons}
use Rattle.card_events.specs.declared.anchor.Anchor.{Anchor}
use Rattle.card_events.specs.History.{anchor_of, corrected, next_segment, terms_of}
use Rattle.card_events.specs.declared.kept.Kept.{Kept}
use Rattle.card_events.specs.declared.post.Terms.{Terms}
use Rattle.card_closing.proofs.Cases.{without_entries}
use Rattle.card_model.specs.Books.{Book}
use Rattle.card_model.specs.Cycles.{Seen}
use Rattle.card_model.specs.Interest.{accrual, days_from, row}
use Rattle.card_model.specs.Segments.{SegmentTerms, opening_vintages, segment_of, segments}
use Rattle.card_model.specs.declared.entry.Entry.{Entry}
use Rattle.card_model.proofs.Grows.{Extends}
use Rattle.card_rates.specs.Added.{added_from}
use Rattle.card_rates.specs.RateBooks.{AreByNumber}
use Rattle.card_rates.proofs.Added.{all-by-number, segments-are}
use Rattle.card_events.specs.Money.{daily}
use Rattle.card_rates.specs.Laws.{segments_on}
use Rattle.card_rates.proofs.DayLaws.{segments_of_a_day}
use Rattle.card_daily.specs.Given.{Given, book_on}
use Rattle.card_book.specs.Marks.{rated_in}

-- ---- the list
cons-append : {A : Type 0} (o : Option A) (xs ys : List A) → cons_option o (xs ++ ys) ≡ cons_option o xs ++ ys
cons-append None xs ys = refl
cons-append (Some x) xs ys = refl

added-append : (n s : ℕ) (xs ys : List Kept) → Extends (added_from n s xs) (added_from n s (xs ++ ys))
unfolding added_from
added-append n s [] ys = record { rest = added_from n s ys; is = refl }
added-append n s (k ∷ xs) ys =
    let r = added-append (suc n) (next_segment s k.post) xs ys in
    let o : Option SegmentTerms = segment_of s n k.post in
    record { rest = r.rest; is = ap (cons_option o) r.is ∙ cons-append o (added_from (suc n) (next_segment s k.post) xs) r.rest }

segments-with : (a : Anchor) (u : Terms) (xs ys : List ℕ) (old new : List Kept) → Extends (segments a u (corrected a xs old)) (segments a u (corrected a ys (old ++ new)))
segments-with a u xs ys old new =
    let r = added-append 1 5 old new in
    let first = opening_vintages a.opened u in
    record {
      rest = r.rest;
      is = segments-are a u ys (old ++ new)
          ∙ (ap (λ l. first ++ l) r.is ∙ (sym (append_assoc first (added_from 1 5 old) r.rest) ∙ ap (λ l. l ++ r.rest) (sym (segments-are a u xs old))));
    }

segments-by : (a b : Anchor) (u v : Terms) (xs ys : List ℕ) (old new all : List Kept) → a ≡ b → u ≡ v → all ≡ old ++ new → Extends (segments b v (corrected b xs old)) (segments a u (corrected a ys all))
segments-by a b u v xs ys old new all e f h = rw (e, f, h) (segments-with b v xs ys old new)

-- the segments of an account with more posts
pub rated-grow : (old g : Given) (new : List Kept) → anchor_of g.history ≡ anchor_of old.history → terms_of g.history ≡ terms_of old.history → g.history ≡ old.history ++ new → Extends (rated_in old) (rated_in g)
rated-grow old g new e f h =
    segments-by (anchor_of g.history) (anchor_of old.history) (terms_of g.history) (terms_of old.history) old.shared.holidays g.shared.holidays old.history new g.history e f h

-- ---- a segment without entries
no-times : (n : ℕ) → 0 * n ≡ 0
no-times n = omega arith

sum-none : (f : ℕ → ℕ) (days : List ℕ) → ((day : ℕ) → f day ≡ 0) → sum_by f days ≡ 0
sum-none f [] h = refl
sum-none f (d ∷ ds) h = sum_by-cons f d ds ∙ (ap (λ n. n + sum_by f ds) (h d) ∙ ap (λ n. 0 + n) (sum-none f ds h))

pub accrues-none : (seen : Seen) (b : Book) (t : SegmentTerms) → All (λ e. eqb e.segment t.id ≡ false) b.entries → accrual seen b t ≡ 0
unfolding accrual
accrues-none seen b t h =
    sum-none (λ day. row b.entries t.id day * daily t.rate) (days_from seen t.begins) (λ day. ap (λ n. n * daily t.rate) (without_entries b.entries t.id day h) ∙ no-times (daily t.rate))

-- entries on the first n segments are on no later one
pub none-on : (n s : ℕ) (entries : List Entry) → n ≤ s → All (λ e. e.segment < n) entries → All (λ e. eqb e.segment s ≡ false) entries
none-on n s entries l h = All-weaker (λ (e : Entry). e.segment < n) (λ (e : Entry). eqb e.segment s ≡ false) (λ e less. ne_eqb e.segment s (λ same. omega (arith, less, same, l))) entries h

-- each segment has its place as its number
pub rated-numbered : (g : Given) → AreByNumber 2 (rated_in g)
rated-numbered g =
    subst (AreByNumber 2) (sym (segments-are (anchor_of g.history) (terms_of g.history) g.shared.holidays g.history)) (all-by-number (anchor_of g.history).opened (terms_of g.history) g.history)

-- ---- where entries lie
ids-all : (P : ℕ → Type 0) (ts : List SegmentTerms) → ((t : SegmentTerms) → Contains ts t → P t.id) → All P (map (λ (t : SegmentTerms). t.id) ts)
ids-all P [] h = All-nil P
ids-all P (t ∷ ts) h = All-cons P t.id (map (λ (x : SegmentTerms). x.id) ts) (h t (0, omega arith, refl)) (ids-all P ts (λ x c. h x (suc c.0, let l = c.1 in omega arith, c.2)))

-- the entries of a book lie on the segments of the account
pub known-on : (g : Given) (day : ℕ) → All (λ e. e.segment < length (rated_in g) + 2) (book_on g day).entries
known-on g day =
    let n = length (rated_in g) + 2 in
    let there = segments_on g.history g.issued g.shared day in
    let ids = ids-all (λ s. s < n) there (λ t c. (segments_of_a_day.there g.shared.holidays g.history t (segments_of_a_day.stay g.history g.issued g.shared day t c)).1) in
    let one = All-cons (λ s. s < n) 1 (map (λ (x : SegmentTerms). x.id) there) (omega arith) ids in
    let all = All-cons (λ s. s < n) 0 (1 ∷ map (λ (x : SegmentTerms). x.id) there) (omega arith) one in
    All-weaker (λ (e : Entry). Contains (numbers_of there) e.segment) (λ (e : Entry). e.segment < n) (λ e c. All-contains (λ s. s < n) (numbers_of there) e.segment all c) (book_on g day).entries
    (entries_have_segments.days g.history g.issued g.shared day day (omega arith))
