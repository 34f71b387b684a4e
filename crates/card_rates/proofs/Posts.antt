-- The posts of a day are told by its slots.
use Rattle.std.proofs.Common.{◌≡◌, ℕ, suc, ◌+◌, ◌<◌, Bool, true, false, cond, ◌==◌, nat_lt, List, [], ◌∷◌, length, map, Some, refl, sym, ap, ◌∙◌, subst, arith, get_or}
use Rattle.std.specs.Prelude.{option_map, slice_get}
use Rattle.std.specs.List.{All}
use Rattle.std.proofs.lemmas.List.{get_or-map, length-map}
use Rattle.std.proofs.lemmas.List.Elements.{All-cons, All-filter, All-get_or, All-nil}
use Rattle.card_events.specs.declared.anchor.Anchor.{Anchor}
use Rattle.card_events.specs.History.{CorrectedPost, anchor_of, at_number, corrected, corrected_from, corrected_post, next_segment, slot_of}
use Rattle.card_events.specs.declared.kept.Kept.{Kept}
use Rattle.card_events.specs.declared.kept.Slot.{Slot}
use Rattle.card_events.specs.declared.post.Post.{Post}
use Rattle.card_posts.specs.Change.{on}
use Rattle.card_posts.specs.Order.{on_day}
use Rattle.card_posts.specs.Posted.{folding_order}
use Rattle.card_posts.proofs.Following.{days-in-order}
use Rattle.card_posts.proofs.Ordered.{ascending-in_order}
use Rattle.card_posts.specs.Posted.{Posted, StandsFor}
use Rattle.card_rates.specs.Days.{day_post, found_for, place_of, slot_post, slots_before}
use Rattle.card_rates.specs.declared.day.DayPost.{DayPost}
use Rattle.card_rates.proofs.Ordered.{count-in_order, count-map, day-slot}

-- ---- a post of the corrected list has the content of the post with its number
pub record Stands (history : List Kept) (p : CorrectedPost) : Type 0 where
  pub kept : Kept
  pub found : at_number p.number history ≡ Some kept
  pub same : p.post ≡ kept.post

stand-from : (a : Anchor) (holidays : List ℕ) (history : List Kept) (n segment : ℕ) (ks : List Kept) → ((i : ℕ) → slice_get ks i ≡ at_number (n + i) history) → All (Stands history) (corrected_from a holidays history n segment ks)
unfolding corrected_from corrected_post
stand-from a holidays history n segment [] h = All-nil (Stands history)
stand-from a holidays history n segment (k ∷ ks) h =
    let here : n + 0 ≡ n = omega arith in
    All-cons (Stands history) (corrected_post a holidays history n segment k) (corrected_from a holidays history (suc n) (next_segment segment k.post) ks)
    (record { kept = k; found = sym (h 0 ∙ ap (λ m. at_number m history) here); same = refl })
    (stand-from a holidays history (suc n) (next_segment segment k.post) ks (λ i. let next : n + suc i ≡ suc n + i = omega arith in h (suc i) ∙ ap (λ m. at_number m history) next))

all-stand : (a : Anchor) (holidays : List ℕ) (history : List Kept) → All (Stands history) (corrected a holidays history)
all-stand a holidays history = stand-from a holidays history 1 5 history (λ i. let next : suc i ≡ 1 + i = omega arith in ap (λ m. at_number m history) next)

pub stands-on : (a : Anchor) (holidays : List ℕ) (history : List Kept) (day i : ℕ) (d : CorrectedPost) → i < length (on day (corrected a holidays history)) → Stands history (get_or (on day (corrected a holidays history)) i d)
stands-on a holidays history day i d l =
    All-get_or (Stands history) (on day (corrected a holidays history)) i d l (All-filter (λ (p : CorrectedPost). p.day == day) (Stands history) (corrected a holidays history) (all-stand a holidays history))

-- ---- places
pub before-is : (day : ℕ) (posts : List CorrectedPost) → slots_before day (folding_order posts) ≡ place_of day posts
before-is day posts = count-in_order (λ (s : Slot). nat_lt s.day day) (map slot_of posts) ∙ count-map (λ (s : Slot). nat_lt s.day day) slot_of posts

-- ---- the slots of a day
day-map : (day : ℕ) (posts : List CorrectedPost) → on_day day (map slot_of posts) ≡ map slot_of (on day posts)
day-map day [] = refl
day-map day (p ∷ ps) = by (p.day == day) (day-map day ps)
  where
    by : (b : Bool) → on_day day (map slot_of ps) ≡ map slot_of (on day ps) → cond b (slot_of p ∷ on_day day (map slot_of ps)) (on_day day (map slot_of ps)) ≡ map slot_of (cond b (p ∷ on day ps) (on day ps))
    by true e = ap (λ u. slot_of p ∷ u) e
    by false e = e

day-slots : (a : Anchor) (holidays : List ℕ) (history : List Kept) (day : ℕ) → on_day day (folding_order (corrected a holidays history)) ≡ map slot_of (on day (corrected a holidays history))
day-slots a holidays history day = days-in-order a holidays history day ∙ day-map day (corrected a holidays history)

-- the slot at a place of the day is that of the post
pub slot-at : (a : Anchor) (holidays : List ℕ) (history : List Kept) (day i : ℕ) (d : CorrectedPost) → i < length (on day (corrected a holidays history))
    → slice_get (folding_order (corrected a holidays history)) (place_of day (corrected a holidays history) + i) ≡ Some (slot_of (get_or (on day (corrected a holidays history)) i d))
slot-at a holidays history day i d l =
    let posts = corrected a holidays history in
    let slots = day-slots a holidays history day in
    let long = length-map (on day posts) slot_of in
    let within : i < length (on_day day (folding_order posts)) = omega (arith, l, long, ap length slots) in
    ap (λ n. slice_get (folding_order posts) (n + i)) (sym (before-is day posts))
    ∙ (day-slot day (folding_order posts) i (slot_of d) (ascending-in_order (map slot_of posts)) within
    ∙ (ap (λ ys. Some (get_or ys i (slot_of d))) slots ∙ ap Some (get_or-map slot_of (on day posts) i d (slot_of d) l)))

-- and its post is that post
abbrev made : Slot → Post → DayPost
made s p = record { slot = s; post = p }

pub found-is : (holidays : List ℕ) (posts : Posted) (day i place : ℕ) (d : CorrectedPost) → StandsFor holidays posts → place ≡ place_of day posts.corrected + i → i < length (on day posts.corrected)
    → found_for posts.history (slice_get (folding_order posts.corrected) place) ≡ Some (day_post (get_or (on day posts.corrected) i d))
found-is holidays posts day i place d stands at l =
    subst (λ (cs : List CorrectedPost). i < length (on day cs) → place ≡ place_of day cs + i → found_for posts.history (slice_get (folding_order cs) place) ≡ Some (day_post (get_or (on day cs) i d))) (sym stands) of l at
  where
    of : i < length (on day (corrected (anchor_of posts.history) holidays posts.history)) → place ≡ place_of day (corrected (anchor_of posts.history) holidays posts.history) + i
        → found_for posts.history (slice_get (folding_order (corrected (anchor_of posts.history) holidays posts.history)) place) ≡ Some (day_post (get_or (on day (corrected (anchor_of posts.history) holidays posts.history)) i d))
    of m e =
        let cs = corrected (anchor_of posts.history) holidays posts.history in
        let q = get_or (on day cs) i d in
        let s = stands-on (anchor_of posts.history) holidays posts.history day i d m in
        let slot : slice_get (folding_order cs) place ≡ Some (slot_of q) = ap (slice_get (folding_order cs)) e ∙ slot-at (anchor_of posts.history) holidays posts.history day i d m in
        ap (found_for posts.history) slot ∙ (ap (option_map (slot_post (slot_of q))) s.found ∙ ap (λ (p : Post). Some (made (slot_of q) p)) (sym s.same))
