-- The segment of a charge is one that is there.
use Rattle.std.proofs.Common.{◌≡◌, ℕ, ◌<◌, ◌≤◌, ◌&&◌, eqb, leb, List, [], map, drop, length, refl, sym, ap, ◌∙◌, subst, arith, Option, Some, None}
use Rattle.std.specs.Prelude.{option_map}
use Rattle.std.specs.List.{All, Contains}
use Rattle.std.proofs.lemmas.List.Elements.{All-contains_itself, All-weaker}
use Rattle.card_effects.proofs.DayLaws.{books_of_a_day}
use Rattle.card_effects.proofs.Places.{find-all, how-many, last-all}
use Rattle.card_effects.specs.Standing.{AreRated}
use Rattle.card_events.specs.History.{CorrectedPost}
use Rattle.card_events.specs.SharedRows.{SharedRows}
use Rattle.card_events.specs.declared.kept.Kept.{Kept}
use Rattle.card_events.specs.declared.post.Place.{Place}
use Rattle.card_events.specs.declared.post.Place.TheVariants as place
use Rattle.card_model.specs.Cycles.{IssuedRow}
use Rattle.card_model.specs.Effects.{charge_segment, corrected_cents, disputed_charge, place_charged, place_segment}
use Rattle.card_model.specs.Segments.{SegmentTerms, is_plan, is_sort, kept_segment, segment_at}
use Rattle.card_model.specs.declared.segment.Segment.{Segment}
use Rattle.card_model.specs.declared.segment.Sort.TheVariants as sort
use Rattle.card_rates.proofs.DayLaws.{segments_of_a_day}
use Rattle.card_rates.specs.Laws.{segments_on}
use Rattle.card_rates.specs.RateBooks.{AreByNumber, Rates, rates_of}
use Rattle.card_rates.specs.Days.{day_post}
use Rattle.card_rates.specs.declared.day.DayPost.{DayPost}
use Rattle.card_effects.specs.Accounts.{AreOf}
use Rattle.card_effects.specs.Seen.{cents_of, charge_named, segment_of}

-- ---- what holds of 2 and of each segment's number
place-all : (N : ℕ → Type 0) → N 2 → (pl : Place) (day : ℕ) (gs : List SegmentTerms) → All (λ (g : SegmentTerms). N g.id) gs → N (segment_at pl day gs)
place-all N two place.Purchase day gs h = last-all N two (λ g. is_sort sort.Purchase g.sort && leb g.begins day) gs h
place-all N two place.Cash day gs h = last-all N two (λ g. is_sort sort.Cash g.sort && leb g.begins day) gs h
place-all N two place.Transfer day gs h = last-all N two (λ g. is_sort sort.Transfer g.sort && leb g.begins day) gs h
place-all N two (place.Plan n) day gs h = find-all N two (λ g. eqb g.post n && is_plan g) gs h

places-all : (N : ℕ → Type 0) → N 2 → (o : Option Place) (day : ℕ) (gs : List SegmentTerms) → All (λ (g : SegmentTerms). N g.id) gs → N (place_segment day gs o)
places-all N two None day gs h = two
places-all N two (Some pl) day gs h = place-all N two pl day gs h

pub charge-all : (N : ℕ → Type 0) → N 2 → (o : Option CorrectedPost) (gs : List SegmentTerms) → All (λ (g : SegmentTerms). N g.id) gs → N (charge_segment gs o)
charge-all N two None gs h = two
charge-all N two (Some p) gs h = places-all N two (place_charged p.post) p.day gs h

seen-all : (N : ℕ → Type 0) → N 2 → (o : Option DayPost) (gs : List SegmentTerms) → All (λ (g : SegmentTerms). N g.id) gs → N (segment_of gs o)
seen-all N two None gs h = two
seen-all N two (Some p) gs h = places-all N two (place_charged p.post) p.slot.day gs h

-- ---- of a charge that is seen
pub segment-is : (gs : List SegmentTerms) (o : Option CorrectedPost) → segment_of gs (option_map day_post o) ≡ charge_segment gs o
segment-is gs None = refl
segment-is gs (Some p) = refl

pub cents-are : (o : Option CorrectedPost) → cents_of (option_map day_post o) ≡ corrected_cents o
cents-are None = refl
cents-are (Some p) = refl

pub named-is : (o : Option CorrectedPost) → charge_named (option_map day_post o) ≡ disputed_charge o
named-is None = refl
named-is (Some p) = refl

-- ---- segments of an account
abbrev no_rows : SharedRows
no_rows = record { holidays = []; fees = []; index = [] }

pub of-rated : (history : List Kept) (kept : List Segment) (rated : Rates) → AreOf history kept rated → AreRated kept rated
of-rated history kept rated h =
    let one = books_of_a_day.rated [] history [] in
    record {
      kept = ap (drop 2) (h.segments []) ∙ (one.kept ∙ ap (map kept_segment) (sym (h.rates [])));
      numbers = subst (AreByNumber 2) (sym (h.rates [])) one.numbers;
    }

abbrev IsThere : ℕ → ℕ → Type 0
IsThere most n = (2 ≤ n) × (n < most)

pub segment-there : (history : List Kept) (kept : List Segment) (rated : Rates) (today most r : ℕ) (o : Option DayPost) → AreOf history kept rated → length kept ≡ most → 5 ≤ most
    → ((issued : List IssuedRow) (shared : SharedRows) → r ≡ segment_of (segments_on history issued shared today) o) → (2 ≤ r) × (r < most)
segment-there history kept rated today most r o h many five is =
    let all = (rates_of [] history []).segments in
    let n = how-many kept all (ap (drop 2) (h.segments []) ∙ (books_of_a_day.rated [] history []).kept) in
    subst (IsThere most) (sym (is [] no_rows))
    (seen-all (IsThere most) (omega arith, omega (arith, five)) o (segments_on history [] no_rows today)
    (All-weaker (Contains (segments_on history [] no_rows today)) (λ (g : SegmentTerms). IsThere most g.id)
    (λ g c. let b = segments_of_a_day.there [] history g (segments_of_a_day.stay history [] no_rows today g c) in
    (b.0, let high = b.1 in omega (arith, high, n, many, five)))
    (segments_on history [] no_rows today) (All-contains_itself (segments_on history [] no_rows today))))
