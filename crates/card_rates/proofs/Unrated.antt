-- Posts that set no rates add nothing.
use Rattle.std.proofs.Common.{◌≡◌, ℕ, zero, suc, false, List, [], ◌∷◌, ◌++◌, append-nil, drop, take, refl, sym, ap, ◌∙◌, None}
use Rattle.std.specs.Prelude.{option_map}
use Rattle.std.specs.List.{cons_option, filter_map}
use Rattle.card_events.specs.History.{next_segment}
use Rattle.card_events.specs.declared.kept.Kept.{Kept}
use Rattle.card_events.specs.declared.post.Post.{Post}
use Rattle.card_events.specs.declared.post.Post.TheVariants as post
use Rattle.card_model.specs.Rates.{lowering_of}
use Rattle.card_model.specs.Segments.{SegmentTerms, kept_segment, segment_of}
use Rattle.card_model.specs.declared.segment.Segment.{Segment}
use Rattle.card_posts.specs.Posted.{SetNoRates, sets_rates}
use Rattle.card_rates.specs.Added.{added_from}
use Rattle.card_rates.specs.Segments.{kept_from}

no-segment : (s n : ℕ) (p : Post) → sets_rates p ≡ false → segment_of s n p ≡ None
no-segment s n (post.Plan d k r e f) h = cc
no-segment s n (post.Notice d c r e) h = cc
no-segment s n (post.Lower d c r) h = cc
no-segment s n (post.Open d t) h = refl
no-segment s n (post.OpenVariable d t) h = refl
no-segment s n (post.Charge d p c) h = refl
no-segment s n (post.Credit d p c) h = refl
no-segment s n (post.Payment d m y c) h = refl
no-segment s n (post.Return d t) h = refl
no-segment s n post.Penalty h = refl
no-segment s n (post.Review d f) h = refl
no-segment s n (post.Dispute d t c) h = refl
no-segment s n (post.Ack d t) h = refl
no-segment s n (post.Resolve d t c) h = refl
no-segment s n (post.AskRefund d) h = refl
no-segment s n (post.Refund c) h = refl
no-segment s n (post.Amend t d c) h = refl
no-segment s n (post.Bill c) h = refl

no-lowering : (p : Post) → sets_rates p ≡ false → lowering_of p ≡ None
no-lowering (post.Plan d k r e f) h = cc
no-lowering (post.Notice d c r e) h = cc
no-lowering (post.Lower d c r) h = cc
no-lowering (post.Open d t) h = refl
no-lowering (post.OpenVariable d t) h = refl
no-lowering (post.Charge d p c) h = refl
no-lowering (post.Credit d p c) h = refl
no-lowering (post.Payment d m y c) h = refl
no-lowering (post.Return d t) h = refl
no-lowering post.Penalty h = refl
no-lowering (post.Review d f) h = refl
no-lowering (post.Dispute d t c) h = refl
no-lowering (post.Ack d t) h = refl
no-lowering (post.Resolve d t c) h = refl
no-lowering (post.AskRefund d) h = refl
no-lowering (post.Refund c) h = refl
no-lowering (post.Amend t d c) h = refl
no-lowering (post.Bill c) h = refl

none-added : (n s : ℕ) (ks : List Kept) → SetNoRates ks → added_from n s ks ≡ []
unfolding SetNoRates added_from
none-added n s [] h = refl
none-added n s (k ∷ ks) (e, h) =
    let rest = added_from (suc n) (next_segment s k.post) ks in
    ap (λ o. cons_option o rest) (no-segment s n k.post e) ∙ none-added (suc n) (next_segment s k.post) ks h

none-kept : (n : ℕ) (ks : List Kept) → SetNoRates ks → kept_from n ks ≡ []
unfolding SetNoRates kept_from
none-kept n [] h = refl
none-kept n (k ∷ ks) (e, h) =
    ap (λ o. cons_option (option_map kept_segment o) (kept_from (suc n) ks)) (no-segment 0 n k.post e) ∙ none-kept (suc n) ks h

none-lowered : (ks : List Kept) → SetNoRates ks → filter_map (λ k. lowering_of k.post) ks ≡ []
unfolding SetNoRates
none-lowered [] h = refl
none-lowered (k ∷ ks) (e, h) =
    ap (λ o. cons_option o (filter_map (λ (x : Kept). lowering_of x.post) ks)) (no-lowering k.post e) ∙ none-lowered ks h

-- ---- behind the posts that were added
pub added-all : (items : List SegmentTerms) (ks : List Kept) (i n s : ℕ) → SetNoRates (drop i ks) → items ++ added_from n s (drop i ks) ≡ items
added-all items ks i n s h = ap (λ x. items ++ x) (none-added n s (drop i ks) h) ∙ append-nil items

pub kept-all : (items : List Segment) (ks : List Kept) (i n : ℕ) → SetNoRates (drop i ks) → items ++ kept_from n (drop i ks) ≡ items
kept-all items ks i n h = ap (λ x. items ++ x) (none-kept n (drop i ks) h) ∙ append-nil items

pub lowered-all : (i : ℕ) (ks : List Kept) → SetNoRates (drop i ks) → filter_map (λ k. lowering_of k.post) (take i ks) ≡ filter_map (λ k. lowering_of k.post) ks
lowered-all zero ks h = sym (none-lowered ks h)
lowered-all (suc i) [] h = refl
lowered-all (suc i) (x ∷ xs) h = ap (cons_option (lowering_of x.post)) (lowered-all i xs h)
