-- The segments of a day are those of all posts that are there.
use Rattle.std.proofs.Common.{◌≡◌, ℕ, ◌+◌, ◌≤◌, Bool, true, false, cond, List, [], ◌∷◌, refl, sym, ap, ◌∙◌, subst, leb, arith, Option, Some, None}
use Rattle.std.specs.List.{cons_option, filter, filter_map}
use Rattle.std.proofs.lemmas.Bool.{false≢true}
use Rattle.std.proofs.lemmas.Bool.Decides.{nat_tests}
use Rattle.std.proofs.lemmas.List.Elements.{All-head, All-tail}
use Rattle.card_events.specs.declared.anchor.Anchor.{Anchor}
use Rattle.card_events.specs.History.{CorrectedPost, anchor_of, corrected, is_folded, terms_of}
use Rattle.card_events.specs.declared.post.Category.{Category}
use Rattle.card_events.specs.declared.post.Category.TheVariants as category
use Rattle.card_events.specs.declared.post.PlanKind.{PlanKind}
use Rattle.card_events.specs.declared.post.PlanKind.TheVariants as plan
use Rattle.card_events.specs.declared.post.Post.{Post}
use Rattle.card_events.specs.declared.post.Post.TheVariants as post
use Rattle.card_events.specs.declared.post.Terms.{Terms}
use Rattle.card_model.specs.Rates.{rate_on, starts}
use Rattle.card_model.specs.Segments.{SegmentTerms, opening_vintage, segment_of, segments, sort_of_category, sort_of_plan}
use Rattle.card_model.specs.declared.segment.Sort.TheVariants as sort
use Rattle.card_rates.specs.RateBooks.{AreByNumber, rates_of}
use Rattle.card_rates.proofs.Added.{all-by-number, segments-are}
use Rattle.card_rates.proofs.DayLaws.{index-seen, rates_any}
use Rattle.card_rates.proofs.LaterPosts.{AreDated, corrected-dated, own_day}
use Rattle.card_effects.specs.Laws.{BooksOfADay, BooksStand, SegmentsAreRated, SegmentsAreThose}
use Rattle.card_effects.specs.Standing.{is_added}

abbrev added : CorrectedPost → Option SegmentTerms
added p = segment_of p.segment p.number p.post

-- what a post adds is folded, and is there from the post's day on
abbrev IsFrom : ℕ → ℕ → Post → SegmentTerms → Type 0
IsFrom day on p g = (is_folded p ≡ true) × (leb on day ≡ is_added day g)

plan-from : (day d i n rate end after : ℕ) (k : PlanKind) → leb d day ≡ is_added day (record { id = i; sort = sort_of_plan k; post = n; begins = d; ends = Some end; rate = rate; effective = d; after = after })
plan-from day d i n rate end after plan.Promo = refl
plan-from day d i n rate end after plan.Deferred = refl

notice-from : (day d i n rate effective : ℕ) (c : Category) → leb d day ≡ is_added day (record { id = i; sort = sort_of_category c; post = n; begins = d + 15; ends = None; rate = rate; effective = effective; after = 0 })
notice-from day d i n rate effective category.Purchase = shifted d day
  where
    shifted : (d e : ℕ) → leb d e ≡ leb (d + 15) (e + 15)
    shifted d e = grind (arith, nat_tests)
notice-from day d i n rate effective category.Cash = shifted d day
  where
    shifted : (d e : ℕ) → leb d e ≡ leb (d + 15) (e + 15)
    shifted d e = grind (arith, nat_tests)
notice-from day d i n rate effective category.Transfer = shifted d day
  where
    shifted : (d e : ℕ) → leb d e ≡ leb (d + 15) (e + 15)
    shifted d e = grind (arith, nat_tests)

some-same : {A : Type 0} (x y : A) → Some x ≡ Some y → x ≡ y
some-same x y e = cc

from-post : (day i n on : ℕ) (p : Post) (g : SegmentTerms) → segment_of i n p ≡ Some g → own_day p on → IsFrom day on p g
from-post day i n on (post.Plan d k rate end after) g e o =
    let same = some-same _ g e in
    (refl, ap (λ (x : ℕ). leb x day) (sym o) ∙ (plan-from day d i n rate end after k ∙ ap (is_added day) same))
from-post day i n on (post.Notice d c rate effective) g e o =
    let same = some-same _ g e in
    (refl, ap (λ (x : ℕ). leb x day) (sym o) ∙ (notice-from day d i n rate effective c ∙ ap (is_added day) same))
from-post day i n on (post.Open _ _) g e o = cc
from-post day i n on (post.OpenVariable _ _) g e o = cc
from-post day i n on (post.Charge _ _ _) g e o = cc
from-post day i n on (post.Credit _ _ _) g e o = cc
from-post day i n on (post.Payment _ _ _ _) g e o = cc
from-post day i n on (post.Return _ _) g e o = cc
from-post day i n on (post.Lower _ _ _) g e o = cc
from-post day i n on post.Penalty g e o = cc
from-post day i n on (post.Review _ _) g e o = cc
from-post day i n on (post.Dispute _ _ _) g e o = cc
from-post day i n on (post.Ack _ _) g e o = cc
from-post day i n on (post.Resolve _ _ _) g e o = cc
from-post day i n on (post.AskRefund _) g e o = cc
from-post day i n on (post.Refund _) g e o = cc
from-post day i n on (post.Amend _ _ _) g e o = cc
from-post day i n on (post.Bill _) g e o = cc

abbrev Dated : CorrectedPost → Type 0
Dated s = own_day s.post s.day

added-of-day : (day : ℕ) (ps : List CorrectedPost) → AreDated ps
    → filter_map added (filter (λ p. leb p.day day) (filter (λ p. is_folded p.post) ps)) ≡ filter (is_added day) (filter_map added ps)
added-of-day day [] d = refl
added-of-day day (p ∷ ps) d =
    by (is_folded p.post) (leb p.day day) (added p) refl refl refl (λ g e. from-post day p.segment p.number p.day p.post g e (All-head Dated p ps d)) (added-of-day day ps (All-tail Dated p ps d))
  where
    early : List CorrectedPost
    early = filter (λ (p : CorrectedPost). leb p.day day) (filter (λ p. is_folded p.post) ps)

    rest : List CorrectedPost
    rest = filter (λ (p : CorrectedPost). is_folded p.post) ps

    by : (t u : Bool) (o : Option SegmentTerms) → is_folded p.post ≡ t → leb p.day day ≡ u → added p ≡ o → ((g : SegmentTerms) → added p ≡ Some g → IsFrom day p.day p.post g)
        → filter_map added early ≡ filter (is_added day) (filter_map added ps)
        → filter_map added (filter (λ p. leb p.day day) (cond t (p ∷ rest) rest)) ≡ filter (is_added day) (cons_option (added p) (filter_map added ps))
    by true true None e f q h ih = rw (f, q) ih
    by true false None e f q h ih = rw (f, q) ih
    by false u None e f q h ih = rw q ih
    by true true (Some g) e f q h ih = let there = sym (h g q).1 ∙ f in rw (f, q, there) (ap (λ gs. g ∷ gs) ih)
    by true false (Some g) e f q h ih = let there = sym (h g q).1 ∙ f in rw (f, q, there) ih
    by false u (Some g) e f q h ih = absurd (false≢true (sym e ∙ (h g q).0))

opening-there : (day opened : ℕ) → opened ≤ day → leb opened (day + 15) ≡ true
opening-there day opened l = grind (arith, nat_tests)

segments-of-day : (day : ℕ) (a : Anchor) (terms : Terms) (ps : List CorrectedPost) → AreDated ps → a.opened ≤ day
    → segments a terms (filter (λ p. leb p.day day) (filter (λ p. is_folded p.post) ps)) ≡ filter (is_added day) (segments a terms ps)
unfolding segments
segments-of-day day a terms ps d l =
    rw (opening-there day a.opened l)
    (ap (λ (gs : List SegmentTerms). opening_vintage 2 sort.Purchase a.opened terms.purchase ∷ opening_vintage 3 sort.Cash a.opened terms.cash ∷ opening_vintage 4 sort.Transfer a.opened terms.transfer ∷ gs) (added-of-day day ps d))

those : SegmentsAreThose
those history issued shared day l =
    segments-of-day day (anchor_of history) (terms_of history) (corrected (anchor_of history) shared.holidays history) (corrected-dated (anchor_of history) shared.holidays history) l

rated : SegmentsAreRated
rated holidays history penalties =
    record {
      kept = refl;
      numbers = subst (AreByNumber 2) (sym (segments-are (anchor_of history) (terms_of history) holidays history)) (all-by-number (anchor_of history).opened (terms_of history) history);
    }

stand : BooksStand
stand history issued shared day b balances l sums none =
    record {
      segments = those history issued shared day l;
      rates = λ g.
          let r = rates_of shared.holidays history b.penalties in
          ap (λ index. rate_on index r.lowerings r.penalty (starts day r.penalties) r.segments day g) (index-seen r.variable shared.index day day (omega arith)) ∙ rates_any history issued shared b day day g (omega arith);
      same = refl;
      sums = sums;
      to_come = none;
    }

pub books_of_a_day : BooksOfADay
books_of_a_day = record { rated = rated; those = those; stand = stand }
