-- A Book at a closing, with the segments and rates of all posts that were added since.
use Rattle.std.proofs.Common.{◌≡◌, ℕ, zero, suc, ◌+◌, ◌-◌, ◌<◌, ◌≤◌, ◌⊎◌, inl, inr, true, false, List, [], ◌∷◌, ◌++◌, length, length-append, replicate, refl, sym, ap, ◌∙◌, subst, arith, Some, get_or, append_assoc, append-nil, ℤ, pos}
use Rattle.std.specs.List.{All, Contains}
use Rattle.std.proofs.lemmas.Bool.{cases_lt}
use Rattle.std.proofs.lemmas.List.{get_or-append_right, get_or_append_left, length-replicate}
use Rattle.std.proofs.lemmas.List.Elements.{All-append, All-cons, All-nil}
use Rattle.card_events.specs.declared.anchor.Anchor.{Anchor}
use Rattle.card_closing.specs.Accruals.{Accrued, nothing_accrued}
use Rattle.card_model.specs.Books.{Book}
use Rattle.card_model.specs.Deadlines.{credit_since}
use Rattle.card_model.specs.Entries.{AreBalances}
use Rattle.card_model.specs.Interest.{accrual}
use Rattle.card_model.specs.Segments.{SegmentTerms, is_over, is_sort}
use Rattle.card_model.specs.declared.segment.Sort.TheVariants as sort
use Rattle.card_model.specs.declared.entry.Entry.{Entry}
use Rattle.card_rates.specs.RateBooks.{AreByNumber, Rates, rates_of}
use Rattle.card_rates.proofs.ByNumber.{at-place, number-above}
use Rattle.card_segments.proofs.Sums.{sums-segment}
use Rattle.card_daily.specs.Given.{Given, book_on, opened_in, seen_in}
use Rattle.card_daily.specs.Stands.{AreBefore, HaveAccrued, before}
use Rattle.card_daily.specs.declared.track.Track.{Track}
use Rattle.card_dayend.proofs.Each.{same-map}
use Rattle.card_dayend.proofs.NextDay.{first-next}
use Rattle.card_book.proofs.Days.{after-is}
use Rattle.card_book.proofs.GoingOn.{accrual-seen, same-opened, tally-on}
use Rattle.card_book.proofs.NewSegments.{accrues-none, known-on, none-on, rated-grow, rated-numbered}
use Rattle.card_book.proofs.Rewound.{rows-none}
use Rattle.card_book.specs.Marks.{rated_in}
use Rattle.card_book.specs.Renewed.{HasNewPosts, IsRenewed, RenewedBooksStand}
use Rattle.card_book.specs.Stands.{HasTally, Summary, day_to_fold, since_through}

-- balances with nothing owed on more segments
more-nothing : (n : ℕ) (bs : List ℤ) → bs ++ replicate (suc n) (pos 0) ≡ (bs ++ pos 0 ∷ []) ++ replicate n (pos 0)
more-nothing n bs = sym (append_assoc bs (pos 0 ∷ []) (replicate n (pos 0)))

pub sums-more : (es : List Entry) (n : ℕ) (bs : List ℤ) → AreBalances es bs → AreBalances es (bs ++ replicate n (pos 0))
sums-more es zero bs h = subst (AreBalances es) (sym (append-nil bs)) h
sums-more es (suc n) bs h = subst (AreBalances es) (sym (more-nothing n bs)) (sums-more es n (bs ++ pos 0 ∷ []) (sums-segment es bs h))

nothing-more : (limit n : ℕ) → All (λ (a : Accrued). a.days ≤ limit) (replicate n nothing_accrued)
nothing-more limit zero = All-nil (λ (a : Accrued). a.days ≤ limit)
nothing-more limit (suc n) = All-cons (λ (a : Accrued). a.days ≤ limit) nothing_accrued (replicate n nothing_accrued) (omega arith) (nothing-more limit n)

-- what has accrued on a segment, by the list with nothing on more segments
at-more : (xs : List Accrued) (n i : ℕ) → length xs ≤ i → get_or (xs ++ replicate n nothing_accrued) i nothing_accrued ≡ nothing_accrued
at-more xs n i l = get_or-append_right xs (replicate n nothing_accrued) (length xs) i nothing_accrued refl l ∙ any n (i - length xs)
  where
    any : (n i : ℕ) → get_or (replicate n nothing_accrued) i nothing_accrued ≡ nothing_accrued
    any zero i = refl
    any (suc n) zero = refl
    any (suc n) (suc i) = any n i

-- a segment of a longer list that is among the first of it
pub among-first : (xs rest : List SegmentTerms) (t : SegmentTerms) → AreByNumber 2 (xs ++ rest) → Contains (xs ++ rest) t → t.id < length xs + 2 → Contains xs t
among-first xs rest t numbered there less =
    let low = number-above 2 (xs ++ rest) t numbered there in
    let here : t.id - 2 < length xs = omega (arith, low, less) in
    (t.id - 2, here, sym (get_or_append_left xs rest t (t.id - 2) here) ∙ at-place 2 (xs ++ rest) t t numbered there)

-- ---- the Book
same-before : (old g : Given) (day : ℕ) (b : Summary) (t : Track) → HasNewPosts old g day b t → before g (day + 1) ≡ before old (day + 1)
same-before old g day b t h = after-is g day ∙ (h.continues.books day day refl (omega arith) ∙ sym (after-is old day))

-- what has accrued, of the first segments and of new ones
record Accrues (g : Given) (day : ℕ) (t : SegmentTerms) (xs : List Accrued) : Type 0 where
  pub is : (get_or xs (t.id - 2) nothing_accrued).sum ≡ accrual (seen_in g day) (before g (day + 1)) t

accrues : (old g : Given) (day : ℕ) (b renewed : Summary) (t : Track) (h : HasNewPosts old g day b t) → IsRenewed g day b renewed → (x : SegmentTerms) → Contains (rated_in g) x
    → is_sort sort.Deferred x.sort ≡ true → is_over x.ends day ≡ false → Accrues g day x renewed.state.accruals.items
accrues old g day b renewed t h r x there kind open' = by (cases_lt x.id (length (rated_in old) + 2))
  where
    same : before g (day + 1) ≡ before old (day + 1)
    same = same-before old g day b t h

    more : ℕ
    more = length renewed.state.rates.segments - length b.state.accruals.items

    rated : b.state.rates.segments ≡ rated_in old
    rated = ap (λ (q : Rates). q.segments) h.stands.folded.stand.rates

    count : length b.state.accruals.items ≡ length (rated_in old)
    count = h.stands.folded.stand.accruals ∙ ap (λ (ts : List SegmentTerms). length ts) rated

    low : 2 ≤ x.id
    low = number-above 2 (rated_in g) x (rated-numbered g) there

    list : renewed.state.accruals.items ≡ b.state.accruals.items ++ replicate more nothing_accrued
    list = r.accruals

    folded-day : day_to_fold old b.day - 1 ≡ day
    folded-day = ap (λ o. day_to_fold old o - 1) h.day ∙ back
      where
        back : day + 1 - 1 ≡ day
        back = omega arith

    by : (x.id < length (rated_in old) + 2) ⊎ (length (rated_in old) + 2 ≤ x.id) → Accrues g day x renewed.state.accruals.items
    by (inl less) =
        let grown = rated-grow old g h.new h.continues.anchor h.continues.terms h.history in
        let first = among-first (rated_in old) grown.rest x (subst (AreByNumber 2) grown.is (rated-numbered g)) (subst (λ (ts : List SegmentTerms). Contains ts x) grown.is there) less in
        let place : x.id - 2 < length b.state.accruals.items = omega (arith, low, less, count) in
        let sums = h.stands.folded.accrued.sums x (subst (λ (ts : List SegmentTerms). Contains ts x) (sym rated) first) kind (subst (λ d. is_over x.ends d ≡ false) (sym folded-day) open') in
        record {
          is = ap (λ (l : List Accrued). (get_or l (x.id - 2) nothing_accrued).sum) list
              ∙ (ap (λ (a : Accrued). a.sum) (get_or_append_left b.state.accruals.items (replicate more nothing_accrued) nothing_accrued (x.id - 2) place)
              ∙ (sums
              ∙ (ap (λ d. accrual (seen_in old d) (before old (day_to_fold old b.day)) x) folded-day
              ∙ (ap (λ o. accrual (seen_in old day) (before old (day_to_fold old o)) x) h.day
              ∙ (accrual-seen (seen_in old day) (seen_in g day) (before old (day + 1)) x refl ∙ ap (λ (c : Book). accrual (seen_in g day) c x) (sym same))))));
        }
    by (inr late) =
        let behind : length b.state.accruals.items ≤ x.id - 2 = omega (arith, late, count) in
        let on = subst (λ (c : Book). All (λ (e : Entry). e.segment < length (rated_in old) + 2) c.entries) (sym (same ∙ after-is old day)) (known-on old day) in
        record {
          is = ap (λ (l : List Accrued). (get_or l (x.id - 2) nothing_accrued).sum) list
              ∙ (ap (λ (a : Accrued). a.sum) (at-more b.state.accruals.items more (x.id - 2) behind)
              ∙ sym (accrues-none (seen_in g day) (before g (day + 1)) x (none-on (length (rated_in old) + 2) x.id (before g (day + 1)).entries late on)));
        }

pub renewed_books_stand : RenewedBooksStand
renewed_books_stand old g day b renewed t h r =
    let same = same-before old g day b t h in
    let dated : renewed.day ≡ Some day = r.day ∙ h.day in
    let opened = same-opened old g (Some day) h.continues in
    let low = h.stands.opened day h.day in
    let first = first-next g day (omega (arith, opened, low)) (h.closing ∙ ap (λ (a : Anchor). a.close_day) (sym h.continues.anchor)) in
    let rated : renewed.state.rates.segments ≡ rated_in g = ap (λ (q : Rates). q.segments) r.rates in
    let there : day_to_fold old b.day ≡ day + 1 = ap (day_to_fold old) h.day in
    let now : day_to_fold g renewed.day ≡ day + 1 = ap (day_to_fold g) dated in
    let stand = h.stands.folded.stand in
    let books : before old (day_to_fold old b.day) ≡ before g (day + 1) = ap (before old) there ∙ sym same in
    let back : day + 1 - 1 ≡ day = omega arith in
    record {
      opened = λ d e. below d (sym dated ∙ e) (omega (arith, opened, low));
      folded = subst (λ d. AreBefore g d renewed.state t) (sym now)
          (record {
            stand = record {
              entries = stand.entries ∙ ap (λ (x : Book). x.entries) books;
              cycles = stand.cycles ∙ ap (λ (x : Book). x.cycles) books;
              fees = stand.fees ∙ ap (λ (x : Book). x.fees) books;
              rates = r.rates ∙ ap (rates_of g.shared.holidays g.history) (ap (λ (q : Rates). q.penalties) stand.rates ∙ ap (λ (x : Book). x.penalties) books);
              segments = r.segments;
              sums = subst (AreBalances (before g (day + 1)).entries) (sym r.balances) (sums-more (before g (day + 1)).entries (length renewed.state.segments.segments - length b.state.segments.balances) b.state.segments.balances (subst (λ (x : Book). AreBalances x.entries b.state.segments.balances) books stand.sums));
              rows = r.rows ∙ same-map _ _ renewed.state.rates.segments (λ x w. sym (rows-none g day x first));
              accruals = ap (λ (l : List Accrued). length l) r.accruals ∙ (length-append b.state.accruals.items (replicate (length renewed.state.rates.segments - length b.state.accruals.items) nothing_accrued) ∙ counted);
            };
            accrued = subst (λ d. HaveAccrued g d (before g (day + 1)) renewed.state.rates.segments renewed.state.accruals.items) (sym back)
                (record {
                  sums = λ x w kind open'. (accrues old g day b renewed t h r x (subst (λ (ts : List SegmentTerms). Contains ts x) rated w) kind open').is;
                  days = subst (λ l. All (λ (a : Accrued). a.days ≤ day + 1 - opened_in g) l) (sym r.accruals)
                      (All-append (λ (a : Accrued). a.days ≤ day + 1 - opened_in g) b.state.accruals.items (replicate (length renewed.state.rates.segments - length b.state.accruals.items) nothing_accrued) old-days
                      (nothing-more (day + 1 - opened_in g) (length renewed.state.rates.segments - length b.state.accruals.items)));
                });
          });
      since = r.since ∙ (h.stands.since ∙ (ap (since_through old) h.day ∙ (since-same ∙ ap (since_through g) (sym dated))));
      tally = subst (λ o. HasTally g o renewed.tally) (sym dated)
          (subst (λ x. HasTally g (Some day) x) (sym r.tally) (tally-on old g (Some day) b.tally h.continues (subst (λ o. HasTally old o b.tally) h.day h.stands.tally)));
    }
  where
    below : (d : ℕ) → Some day ≡ Some d → opened_in g ≤ day → opened_in g ≤ d
    below d e l = let is : day ≡ d = cc in omega (arith, is, l)

    counted : length b.state.accruals.items + length (replicate (length renewed.state.rates.segments - length b.state.accruals.items) nothing_accrued) ≡ length renewed.state.rates.segments
    counted =
        let grown = rated-grow old g h.new h.continues.anchor h.continues.terms h.history in
        let long = ap (λ (ts : List SegmentTerms). length ts) grown.is ∙ length-append (rated_in old) grown.rest in
        let now = ap (λ (q : Rates). length q.segments) r.rates in
        let then = h.stands.folded.stand.accruals ∙ ap (λ (q : Rates). length q.segments) h.stands.folded.stand.rates in
        let many = length-replicate (length renewed.state.rates.segments - length b.state.accruals.items) nothing_accrued in
        omega (arith, long, now, then, many)

    old-days : All (λ (a : Accrued). a.days ≤ day + 1 - opened_in g) b.state.accruals.items
    old-days =
        let opened = same-opened old g (Some day) h.continues in
        let limit : day_to_fold old b.day - 1 + 1 - opened_in old ≡ day + 1 - opened_in g = ap (λ o. day_to_fold old o - 1 + 1 - opened_in old) h.day ∙ one opened in
        subst (λ n. All (λ (a : Accrued). a.days ≤ n) b.state.accruals.items) limit h.stands.folded.accrued.days
      where
        one : opened_in g ≡ opened_in old → day + 1 - 1 + 1 - opened_in old ≡ day + 1 - opened_in g
        one e = omega (arith, e)

    since-same : since_through old (Some day) ≡ since_through g (Some day)
    since-same =
        ap (λ (x : Book). credit_since x.entries (opened_in old) day) (sym (h.continues.books day day refl (omega arith)))
        ∙ ap (λ o. credit_since (book_on g day).entries o day) (sym (same-opened old g (Some day) h.continues))
