-- The marks of closings before a change, over what is given after it.
use Rattle.std.proofs.Common.{◌≡◌, ℕ, zero, suc, ◌+◌, ◌-◌, ◌<◌, ◌≤◌, ◌⊎◌, inl, inr, false, true, List, [], ◌∷◌, length, length-append, map, refl, sym, ap, ◌∙◌, subst, arith, Option, Some, None, get_or}
use Rattle.std.specs.Prelude.{◌==◌, ◌&&◌}
use Rattle.std.specs.List.{All, Contains, find}
use Rattle.std.specs.Option.{option_map_or}
use Rattle.std.proofs.lemmas.Bool.{and_right, cases_lt, ne_eqb}
use Rattle.std.proofs.lemmas.List.{get_or-map}
use Rattle.std.proofs.lemmas.List.Elements.{All-cons, All-head, All-nil, All-tail, All-weaker}
use Rattle.card_closing.specs.Accruals.{Accrued, nothing_accrued}
use Rattle.card_model.specs.Books.{Book}
use Rattle.card_model.specs.Cycles.{Cycle}
use Rattle.card_model.specs.Deadlines.{credit_since}
use Rattle.card_model.specs.Interest.{accrual}
use Rattle.card_model.specs.Segments.{SegmentTerms, is_over, is_sort}
use Rattle.card_model.specs.declared.segment.Sort.TheVariants as sort
use Rattle.card_rates.specs.RateBooks.{AreByNumber}
use Rattle.card_rates.proofs.ByNumber.{at-place, number-above, number-below}
use Rattle.card_daily.specs.Given.{Given, book_on, opened_in, seen_in}
use Rattle.card_book.proofs.GoingOn.{accrual-seen, same-opened}
use Rattle.card_book.proofs.NewSegments.{accrues-none, known-on, none-on, rated-grow, rated-numbered}
use Rattle.card_book.proofs.Renewing.{among-first}
use Rattle.card_book.specs.GoingOn.{Continues}
use Rattle.card_book.specs.Marks.{ClosedBefore, IsMark, MarksGoOn, accrued_at, rated_in}
use Rattle.card_book.specs.declared.marks.Accruing.{Accruing}

-- ---- lists by segment
-- what is kept of a segment stands at its place
pub placed : (f : SegmentTerms → Accrued) (ts : List SegmentTerms) (t : SegmentTerms) → AreByNumber 2 ts → Contains ts t → get_or (map f ts) (t.id - 2) nothing_accrued ≡ f t
placed f ts t numbered there =
    let low = number-above 2 ts t numbered there in
    let high = number-below 2 ts t numbered there in
    get_or-map f ts (t.id - 2) t nothing_accrued (omega (arith, low, high)) ∙ ap f (at-place 2 ts t t numbered there)

all-of : (P : Accrued → Type 0) (f : SegmentTerms → Accrued) (ts : List SegmentTerms) → ((t : SegmentTerms) → Contains ts t → P (f t)) → All P (map f ts)
all-of P f [] h = All-nil P
all-of P f (t ∷ ts) h = All-cons P (f t) (map f ts) (h t (0, omega arith, refl)) (all-of P f ts (λ s c. h s (suc c.0, let l = c.1 in omega arith, c.2)))

one-of : (P : Accrued → Type 0) (f : SegmentTerms → Accrued) (ts : List SegmentTerms) (t : SegmentTerms) → All P (map f ts) → Contains ts t → P (f t)
one-of P f [] t h (k, l, e) = absurd (omega (arith, l))
one-of P f (x ∷ xs) t h (zero, l, e) = subst (λ y. P (f y)) e (All-head P (f x) (map f xs) h)
one-of P f (x ∷ xs) t h (suc k, l, e) = one-of P f xs t (All-tail P (f x) (map f xs) h) (k, omega (arith, l), e)

-- nothing is kept of a segment behind all of which something is
none-found : (cycle segment : ℕ) (kept : List Accruing) → All (λ (a : Accruing). a.segment < segment) kept → find (λ (a : Accruing). (a.cycle == cycle) && (a.segment == segment)) kept ≡ None
none-found cycle segment [] h = refl
none-found cycle segment (a ∷ kept) h =
    let less = All-head (λ (x : Accruing). x.segment < segment) a kept h in
    let other = ne_eqb a.segment segment (λ e. omega (arith, less, e)) in
    let here : (a.cycle == cycle) && (a.segment == segment) ≡ false = and_right (a.cycle == cycle) (a.segment == segment) other in
    rw here (none-found cycle segment kept (All-tail (λ (x : Accruing). x.segment < segment) a kept h))

nothing-at : (cycle segment : ℕ) (kept : List Accruing) → All (λ (a : Accruing). a.segment < segment) kept → accrued_at cycle kept segment ≡ nothing_accrued
unfolding accrued_at
nothing-at cycle segment kept h = ap (λ o. option_map_or (λ (a : Accruing). a.accrual) o nothing_accrued) (none-found cycle segment kept h)

-- ---- a mark
record Keeps (old g : Given) (k : ℕ) (c : Cycle) (kept : List Accruing) (t : SegmentTerms) : Type 0 where
  pub sum : is_sort sort.Deferred t.sort ≡ true → is_over t.ends c.closing ≡ false → (accrued_at k kept t.id).sum ≡ accrual (seen_in g c.closing) (book_on g c.closing) t
  pub days : (accrued_at k kept t.id).days ≤ c.closing + 1 - opened_in g

keeps : (old g : Given) (k : ℕ) (c : Cycle) (s : Option ℕ) (kept : List Accruing) (cycles : List Cycle) (b : ClosedBefore old g cycles) → Continues old g (Some c.closing)
    → All (λ (a : Accruing). a.segment < length (rated_in old) + 2) kept → IsMark old k c s kept
    → (t : SegmentTerms) → Contains (rated_in g) t → Keeps old g k c kept t
keeps old g k c s kept cycles b continues there mark t is = by (cases_lt t.id (length (rated_in old) + 2))
  where
    books : book_on g c.closing ≡ book_on old c.closing
    books = continues.books c.closing c.closing refl (omega arith)

    opened : opened_in g ≡ opened_in old
    opened = same-opened old g (Some c.closing) continues

    by : (t.id < length (rated_in old) + 2) ⊎ (length (rated_in old) + 2 ≤ t.id) → Keeps old g k c kept t
    by (inl less) =
        let grown = rated-grow old g b.new continues.anchor continues.terms b.history in
        let first = among-first (rated_in old) grown.rest t (subst (AreByNumber 2) grown.is (rated-numbered g)) (subst (λ (ts : List SegmentTerms). Contains ts t) grown.is is) less in
        record {
          sum = λ kind open'.
              ap (λ (a : Accrued). a.sum) (sym (placed (λ (x : SegmentTerms). accrued_at k kept x.id) (rated_in old) t (rated-numbered old) first))
              ∙ (mark.accrued.sums t first kind open'
              ∙ (accrual-seen (seen_in old c.closing) (seen_in g c.closing) (book_on old c.closing) t refl ∙ ap (λ (x : Book). accrual (seen_in g c.closing) x t) (sym books)));
          days = subst (λ o. (accrued_at k kept t.id).days ≤ c.closing + 1 - o) (sym opened)
              (one-of (λ (a : Accrued). a.days ≤ c.closing + 1 - opened_in old) (λ (x : SegmentTerms). accrued_at k kept x.id) (rated_in old) t mark.accrued.days first);
        }
    by (inr late) =
        let nothing = nothing-at k t.id kept (All-weaker (λ (a : Accruing). a.segment < length (rated_in old) + 2) (λ (a : Accruing). a.segment < t.id) (λ a l. omega (arith, l, late)) kept there) in
        record {
          sum = λ kind open'.
              ap (λ (a : Accrued). a.sum) nothing
              ∙ sym (ap (λ (x : Book). accrual (seen_in g c.closing) x t) books ∙ accrues-none (seen_in g c.closing) (book_on old c.closing) t (none-on (length (rated_in old) + 2) t.id (book_on old c.closing).entries late (known-on old c.closing)));
          days = rw nothing (omega arith);
        }

mark-on : (old g : Given) (k : ℕ) (c : Cycle) (s : Option ℕ) (kept : List Accruing) (cycles : List Cycle) (b : ClosedBefore old g cycles) → Continues old g (Some c.closing)
    → All (λ (a : Accruing). a.segment < length (rated_in old) + 2) kept → IsMark old k c s kept → IsMark g k c s kept
mark-on old g k c s kept cycles b continues there mark =
    let each = keeps old g k c s kept cycles b continues there mark in
    let f : SegmentTerms → Accrued = λ (x : SegmentTerms). accrued_at k kept x.id in
    record {
      since = mark.since
          ∙ (ap (λ (x : Book). credit_since x.entries (opened_in old) c.closing) (sym (continues.books c.closing c.closing refl (omega arith)))
          ∙ ap (λ o. credit_since (book_on g c.closing).entries o c.closing) (sym (same-opened old g (Some c.closing) continues)));
      accrued = record {
        sums = λ t is kind open'. ap (λ (a : Accrued). a.sum) (placed f (rated_in g) t (rated-numbered g) is) ∙ (each t is).sum kind open';
        days = all-of (λ (a : Accrued). a.days ≤ c.closing + 1 - opened_in g) f (rated_in g) (λ t is. (each t is).days);
      };
    }

pub marks_go_on : MarksGoOn
marks_go_on old g cycles since kept b h = record {
  count = h.count;
  each = λ k c s at got. mark-on old g k c s kept cycles b (b.continues k c at) h.there (h.each k c s at got);
  closed = h.closed;
  ordered = h.ordered;
  there = All-weaker (λ (a : Accruing). a.segment < length (rated_in old) + 2) (λ (a : Accruing). a.segment < length (rated_in g) + 2) (λ a l. let long = more in omega (arith, l, long)) kept h.there;
}
  where
    more : length (rated_in old) ≤ length (rated_in g)
    more =
        let grown = rated-grow old g b.new b.anchor b.terms b.history in
        let long = ap (λ (ts : List SegmentTerms). length ts) grown.is ∙ length-append (rated_in old) grown.rest in
        omega (arith, long)
