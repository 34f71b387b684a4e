-- No rate is above 9,999 basis points where no post's is.
use Rattle.std.proofs.Common.{ℕ, suc, ◌+◌, ◌≤◌, Bool, true, false, cond, not, ◌&&◌, List, [], ◌∷◌, ◌++◌, arith, Option, Some, None, leb, ltb}
use Rattle.std.specs.List.{All, filter_map, fold, cons_option}
use Rattle.std.proofs.lemmas.List.Elements.{All-nil, All-cons, All-head, All-tail, All-weaker, All-filter, All-contains}
use Rattle.std.specs.Prelude.{min}
use Rattle.std.specs.Prelude.{max}
use Rattle.std.specs.Option.{option_or}
use Rattle.card_bounds.specs.Bounds.{RatesSmall}
use Rattle.card_events.specs.declared.anchor.Anchor.{Anchor}
use Rattle.card_events.specs.History.{CorrectedPost, anchor_of, corrected, corrected_from, corrected_post, folded, is_folded, next_segment, no_terms, terms_in, terms_of}
use Rattle.card_events.specs.SharedRows.{SharedRows}
use Rattle.card_events.specs.declared.kept.Kept.{Kept}
use Rattle.card_events.specs.declared.post.Post.{Post}
use Rattle.card_events.specs.declared.post.Terms.{Terms}
use Rattle.card_model.specs.Accepted.{HasFewRates, posted_rate}
use Rattle.card_model.specs.Books.{account_of, all_segments}
use Rattle.card_model.specs.Cycles.{IssuedRow, seen_on}
use Rattle.card_model.specs.Machine.{opened}
use Rattle.card_model.specs.Rates.{Begun, Lowering, after_end, bears_as, bears_in, begun_of, capped, is_opening, lowered_by, own, rate_on, rate_with, with_penalty}
use Rattle.card_model.specs.Segments.{SegmentTerms, is_over, is_plan, is_sort, last_that, opening_vintage, opening_vintages, segment_of, segments}
use Rattle.card_model.specs.declared.segment.Sort.{Sort}
use Rattle.card_events.specs.declared.post.Post.TheVariants as post
use Rattle.card_events.specs.Money.{rate_limit}
use Rattle.card_model.specs.declared.segment.Sort.TheVariants as sort

-- ---- Lowers and penalties
lowered-less : (s : Sort) (from to : ℕ) (ls : List Lowering) (a : ℕ) → fold (lowered_by s from to) a ls ≤ a
lowered-less s from to [] a = omega arith
lowered-less s from to (l ∷ ls) a =
    by (is_sort s l.sort && leb from l.day && leb l.day to) (lowered-less s from to ls (min a l.rate)) (lowered-less s from to ls a)
  where
    by : (t : Bool) → fold (lowered_by s from to) (min a l.rate) ls ≤ min a l.rate → fold (lowered_by s from to) a ls ≤ a → fold (lowered_by s from to) (cond t (min a l.rate) a) ls ≤ a
    by true h g = omega arith
    by false h g = g

capped-less : (ls : List Lowering) (s : Sort) (day : ℕ) (b : Begun) → capped ls s day b ≤ b.rate
unfolding capped
capped-less ls s day b = lowered-less s b.from day ls b.rate

penalties-small : (ls : List Lowering) (penalty : ℕ) (s : Sort) (day : ℕ) (began : List ℕ) (a : ℕ) → penalty ≤ rate_limit → a ≤ rate_limit → fold (with_penalty ls penalty s day) a began ≤ rate_limit
penalties-small ls penalty s day [] a p h = h
penalties-small ls penalty s day (x ∷ xs) a p h =
    penalties-small ls penalty s day xs (with_penalty ls penalty s day a x) p (both a (capped ls s day (record { rate = penalty; from = x })) h (chain _ _ _ (capped-less ls s day (record { rate = penalty; from = x })) p))
  where
    chain : (x y z : ℕ) → x ≤ y → y ≤ z → x ≤ z
    chain x y z a b = omega arith

    both : (x y : ℕ) → x ≤ rate_limit → y ≤ rate_limit → max x y ≤ rate_limit
    both x y a b = omega arith

-- ---- segments
abbrev IsSmall : SegmentTerms → Type 0
IsSmall g = (g.rate ≤ rate_limit) × (g.after ≤ rate_limit)

abbrev IsSmallPost : CorrectedPost → Type 0
IsSmallPost p = posted_rate p.post ≤ rate_limit

abbrev IsSmallOption : Option SegmentTerms → Type 0
IsSmallOption None = Unit {0}
IsSmallOption (Some g) = IsSmall g

segment-small : (id n : ℕ) (p : Post) → posted_rate p ≤ rate_limit → IsSmallOption (segment_of id n p)
segment-small id n (post.Plan d k r e f) h = (omega arith, omega arith)
segment-small id n (post.Notice d c r e) h = (h, omega arith)
segment-small id n (post.Open d t) h = tt
segment-small id n (post.OpenVariable d t) h = tt
segment-small id n (post.Charge d p c) h = tt
segment-small id n (post.Credit d p c) h = tt
segment-small id n (post.Payment d m y c) h = tt
segment-small id n (post.Return d t) h = tt
segment-small id n (post.Lower d c r) h = tt
segment-small id n post.Penalty h = tt
segment-small id n (post.Review d f) h = tt
segment-small id n (post.Dispute d t c) h = tt
segment-small id n (post.Ack d t) h = tt
segment-small id n (post.Resolve d t c) h = tt
segment-small id n (post.AskRefund d) h = tt
segment-small id n (post.Refund c) h = tt
segment-small id n (post.Amend t d c) h = tt
segment-small id n (post.Bill c) h = tt

added-small : (ps : List CorrectedPost) → All IsSmallPost ps → All IsSmall (filter_map (λ p. segment_of p.segment p.number p.post) ps)
added-small [] h = All-nil IsSmall
added-small (p ∷ ps) h = by (segment_of p.segment p.number p.post) (segment-small p.segment p.number p.post (All-head IsSmallPost p ps h)) (added-small ps (All-tail IsSmallPost p ps h))
  where
    by : (o : Option SegmentTerms) → IsSmallOption o → All IsSmall (filter_map (λ p. segment_of p.segment p.number p.post) ps) → All IsSmall (cons_option o (filter_map (λ p. segment_of p.segment p.number p.post) ps))
    by None g i = i
    by (Some g) s i = All-cons IsSmall g _ s i

-- the rates of the terms
pub record AreSmallTerms (t : Terms) : Type 0 where
  pub purchase : t.purchase ≤ rate_limit
  pub cash : t.cash ≤ rate_limit
  pub transfer : t.transfer ≤ rate_limit
  pub penalty : t.penalty ≤ rate_limit

no_terms-small : AreSmallTerms no_terms
no_terms-small = record { purchase = omega arith; cash = omega arith; transfer = omega arith; penalty = omega arith }

terms_in-small : (p : Post) → posted_rate p ≤ rate_limit → AreSmallTerms (terms_in p)
terms_in-small (post.Open d t) h = record { purchase = omega arith; cash = omega arith; transfer = omega arith; penalty = omega arith }
terms_in-small (post.OpenVariable d t) h = record { purchase = omega arith; cash = omega arith; transfer = omega arith; penalty = omega arith }
terms_in-small (post.Charge d p c) h = no_terms-small
terms_in-small (post.Credit d p c) h = no_terms-small
terms_in-small (post.Payment d m y c) h = no_terms-small
terms_in-small (post.Return d t) h = no_terms-small
terms_in-small (post.Plan d k r e f) h = no_terms-small
terms_in-small (post.Notice d c r e) h = no_terms-small
terms_in-small (post.Lower d c r) h = no_terms-small
terms_in-small post.Penalty h = no_terms-small
terms_in-small (post.Review d f) h = no_terms-small
terms_in-small (post.Dispute d t c) h = no_terms-small
terms_in-small (post.Ack d t) h = no_terms-small
terms_in-small (post.Resolve d t c) h = no_terms-small
terms_in-small (post.AskRefund d) h = no_terms-small
terms_in-small (post.Refund c) h = no_terms-small
terms_in-small (post.Amend t d c) h = no_terms-small
terms_in-small (post.Bill c) h = no_terms-small

terms-small : (history : List Kept) → All HasFewRates history → AreSmallTerms (terms_of history)
terms-small [] h = no_terms-small
terms-small (k ∷ ks) h = terms_in-small k.post (All-head HasFewRates k ks h)

corrected-small : (a : Anchor) (holidays : List ℕ) (history : List Kept) (n id : ℕ) (ks : List Kept) → All HasFewRates ks → All IsSmallPost (corrected_from a holidays history n id ks)
unfolding corrected_from corrected_post
corrected-small a holidays history n id [] h = All-nil IsSmallPost
corrected-small a holidays history n id (k ∷ ks) h = All-cons IsSmallPost _ _ (All-head HasFewRates k ks h) (corrected-small a holidays history (suc n) (next_segment id k.post) ks (All-tail HasFewRates k ks h))

opening-small : (opened : ℕ) (t : Terms) (gs : List SegmentTerms) → AreSmallTerms t → All IsSmall gs → All IsSmall (opening_vintages opened t ++ gs)
opening-small opened t gs s h =
    let none : 0 ≤ rate_limit = omega arith in
    let purchase = opening_vintage 2 sort.Purchase opened t.purchase in
    let cash = opening_vintage 3 sort.Cash opened t.cash in
    let transfer = opening_vintage 4 sort.Transfer opened t.transfer in
    All-cons IsSmall purchase (cash ∷ transfer ∷ gs) (s.purchase, none) (All-cons IsSmall cash (transfer ∷ gs) (s.cash, none) (All-cons IsSmall transfer gs (s.transfer, none) h))

segments-small : (history : List Kept) (issued : List IssuedRow) (shared : SharedRows) (on : ℕ) → All HasFewRates history → All IsSmall (all_segments (account_of history) (seen_on (anchor_of history) shared history issued on))
unfolding segments
segments-small history issued shared on h =
    let a = anchor_of history in
    let t = terms-small history h in
    let posts = All-filter (λ (p : CorrectedPost). leb p.day on) IsSmallPost (folded a shared.holidays history) (All-filter (λ (p : CorrectedPost). is_folded p.post) IsSmallPost (corrected a shared.holidays history) (corrected-small a shared.holidays history 1 5 history h)) in
    opening-small a.opened (terms_of history) _ t (added-small (seen_on a shared history issued on).posts posts)

-- ---- the rate
-- a margin and the index are together at most 9,999
with-small : (index : Option ℕ) (g : SegmentTerms) → IsSmall g → rate_with index g ≤ rate_limit
with-small None g s = s.0
with-small (Some i) g s = by (is_opening g)
  where
    by : (t : Bool) → cond t (min rate_limit (g.rate + i)) g.rate ≤ rate_limit
    by true = omega arith
    by false = s.0

last-small : (index : Option ℕ) (p : SegmentTerms → Bool) (gs : List SegmentTerms) → All IsSmall gs → (begun_of index (last_that p gs)).rate ≤ rate_limit
last-small index p [] h = omega arith
last-small index p (g ∷ gs) h = by (last_that p gs) (p g) (All-head IsSmall g gs h) (last-small index p gs (All-tail IsSmall g gs h))
  where
    by : (o : Option SegmentTerms) (t : Bool) → IsSmall g → (begun_of index o).rate ≤ rate_limit → (begun_of index (option_or o (cond t (Some g) None))).rate ≤ rate_limit
    by (Some x) t s i = i
    by None true s i = with-small index g s
    by None false s i = i

own-small : (index : Option ℕ) (gs : List SegmentTerms) (day : ℕ) (g : SegmentTerms) → All IsSmall gs → IsSmall g → (own index gs day g).rate ≤ rate_limit
own-small index gs day g h s = by (is_plan g) (last-small index (bears_in day g.sort g.id) gs h)
  where
    by : (t : Bool) → (begun_of index (last_that (bears_in day g.sort g.id) gs)).rate ≤ rate_limit → (cond t (record { rate = g.after; from = after_end g.ends }) (begun_of index (last_that (bears_in day g.sort g.id) gs))).rate ≤ rate_limit
    by true i = s.1
    by false i = i

rate-small : (index : Option ℕ) (ls : List Lowering) (penalty : ℕ) (began : List ℕ) (gs : List SegmentTerms) (day : ℕ) (g : SegmentTerms) → penalty ≤ rate_limit → All IsSmall gs → IsSmall g → rate_on index ls penalty began gs day g ≤ rate_limit
unfolding rate_on
rate-small index ls penalty began gs day g p h s =
    let lasting = penalties-small ls penalty (bears_as g) day began (capped ls (bears_as g) day (own index gs day g)) p (chain _ _ _ (capped-less ls (bears_as g) day (own index gs day g)) (own-small index gs day g h s)) in
    by (is_plan g && ltb day g.begins) (is_plan g && not (is_over g.ends day)) (is_sort sort.Promo g.sort) _ lasting
  where
    chain : (x y z : ℕ) → x ≤ y → y ≤ z → x ≤ z
    chain x y z a b = omega arith

    by : (t u v : Bool) (x : ℕ) → x ≤ rate_limit → cond t 0 (cond u (cond v g.rate 0) x) ≤ rate_limit
    by true u v x l = omega arith
    by false true true x l = s.0
    by false true false x l = omega arith
    by false false v x l = l

pub rates_small : RatesSmall
rates_small = record {
  days = λ history issued shared on day b g h c.
      let all = segments-small history issued shared on h in
      let t = terms-small history h in
      rate-small _ _ (terms_of history).penalty _ _ day g t.penalty all (All-contains IsSmall _ g all c);
  plans = λ history issued shared on h. All-weaker IsSmall (λ (g : SegmentTerms). g.rate ≤ rate_limit) (λ g s. s.0) _ (segments-small history issued shared on h);
}
