-- The pending Notice of a category, post by post, and the reasons of an effective day.
use Rattle.std.proofs.Common.{◌≡◌, ℕ, zero, suc, ◌+◌, ◌<◌, ◌≤◌, Bool, true, false, List, [], ◌∷◌, ◌++◌, length, drop, Option, Some, None, refl, ap, sym, ◌∙◌, arith}
use Rattle.std.specs.Prelude.{max, nat_le, nat_lt, slice_get}
use Rattle.std.specs.List.{cons_option, count_by, filter, filter_map, reduce}
use Rattle.std.specs.Option.{option_map, option_or, option_to_list}
use Rattle.std.proofs.lemmas.List.{at_drop_all}
use Rattle.card_events.specs.Later.{year_after}
use Rattle.card_events.specs.History.{adds_segment, at_number}
use Rattle.card_events.specs.declared.kept.Kept.{Kept}
use Rattle.card_events.specs.declared.post.Category.{Category}
use Rattle.card_events.specs.declared.post.Post.TheVariants as post
use Rattle.card_events.specs.declared.reply.Refusal.{Refusal}
use Rattle.card_events.specs.declared.reply.Refusal.TheVariants as refusal
use Rattle.card_model.specs.Refusals.{Present, anchor_now, effective_of, first_reason, first_year, notice_pending, pending_day, where_true}
use Rattle.card_reasons.specs.Notices.{after_day, effective_at, later_of}
use Rattle.card_reasons.specs.Reasons.{notice_reason}

-- the effective days after a day, of the Notices of a category
abbrev pub effective_days : Category → ℕ → List Kept → List ℕ
effective_days c day ks = filter (λ d. nat_lt day d) (filter_map (λ k. effective_of c k.post) ks)

-- the greatest of them, where one is known before them
abbrev pub pending_with : Category → ℕ → Option ℕ → List Kept → Option ℕ
pending_with c day known ks = reduce max (option_to_list known ++ effective_days c day ks)

-- one more
by_test : (day d : ℕ) (xs : List ℕ) (b : Bool) → nat_lt day d ≡ b → filter (λ d. nat_lt day d) (d ∷ xs) ≡ option_to_list (after_day day (Some d)) ++ filter (λ d. nat_lt day d) xs
by_test day d xs true is = rw is refl
by_test day d xs false is = rw is refl

one_more : (day : ℕ) (o : Option ℕ) (xs : List ℕ) → filter (λ d. nat_lt day d) (cons_option o xs) ≡ option_to_list (after_day day o) ++ filter (λ d. nat_lt day d) xs
one_more day None xs = refl
one_more day (Some d) xs = by_test day d xs (nat_lt day d) refl

joins : (a b : Option ℕ) (xs : List ℕ) → reduce max (option_to_list a ++ (option_to_list b ++ xs)) ≡ reduce max (option_to_list (later_of a b) ++ xs)
joins None None xs = refl
joins None (Some b) xs = refl
joins (Some a) None xs = refl
joins (Some a) (Some b) xs = refl

step : (c : Category) (day : ℕ) (known : Option ℕ) (k : Kept) (ks : List Kept) → pending_with c day known (k ∷ ks) ≡ pending_with c day (later_of known (effective_at c day (Some k))) ks
step c day known k ks =
    ap (λ (xs : List ℕ). reduce max (option_to_list known ++ xs)) (one_more day (effective_of c k.post) (filter_map (λ k. effective_of c k.post) ks))
    ∙ joins known (after_day day (effective_of c k.post)) (effective_days c day ks)

step_at : (c : Category) (day : ℕ) (known : Option ℕ) (i : ℕ) (ks : List Kept) → i < length ks → pending_with c day known (drop i ks) ≡ pending_with c day (later_of known (effective_at c day (slice_get ks i))) (drop (suc i) ks)
step_at c day known i [] low = absurd (omega (arith, low))
step_at c day known zero (k ∷ ks) low = step c day known k ks
step_at c day known (suc i) (k ∷ ks) low = step_at c day known i ks (omega (arith, low))

pub next : (c : Category) (day : ℕ) (known at found : Option ℕ) (i : ℕ) (ks : List Kept) → i < length ks → at ≡ effective_at c day (at_number (i + 1) ks) → found ≡ later_of known at
    → pending_with c day known (drop i ks) ≡ pending_with c day found (drop (i + 1) ks)
next c day known at found i ks low at_is found_is =
    let one : suc i ≡ i + 1 = omega arith in
    let here : at ≡ effective_at c day (slice_get ks i) = at_is ∙ ap (λ n. effective_at c day (at_number n ks)) (sym one) in
    step_at c day known i ks low ∙ ap (λ o. pending_with c day (later_of known o) (drop (suc i) ks)) (sym here) ∙ ap (λ o. pending_with c day o (drop (suc i) ks)) (sym found_is)
    ∙ ap (λ m. pending_with c day found (drop m ks)) one

alone : (c : Category) (day : ℕ) (known : Option ℕ) → pending_with c day known [] ≡ known
alone c day None = refl
alone c day (Some d) = refl

pub ended : (c : Category) (day : ℕ) (known : Option ℕ) (i : ℕ) (ks : List Kept) → length ks ≤ i → pending_with c day known (drop i ks) ≡ known
ended c day known i ks past = at_drop_all (pending_with c day known) ks i past ∙ alone c day known

-- ---- the reasons of an effective day
pub some_pending : (now : Present) (day rate effective : ℕ) (c : Category) (d : ℕ) → pending_day now c day ≡ Some d → Some (refusal.NoticePending d) ≡ notice_pending now (post.Notice day c rate effective)
unfolding notice_pending
some_pending now day rate effective c d is = ap (option_map (λ (x : ℕ). refusal.NoticePending x)) (sym is)

pub none_pending : (now : Present) (day rate effective : ℕ) (c : Category) → pending_day now c day ≡ None → None ≡ notice_pending now (post.Notice day c rate effective)
unfolding notice_pending
none_pending now day rate effective c is = ap (option_map (λ (x : ℕ). refusal.NoticePending x)) (sym is)

joined : (a b c d : Option Refusal) → option_or (first_reason (a ∷ b ∷ c ∷ [])) d ≡ first_reason (a ∷ b ∷ c ∷ d ∷ [])
joined (Some x) b c d = refl
joined None (Some x) c d = refl
joined None None (Some x) d = refl
joined None None None (Some x) = refl
joined None None None None = refl

pub when_effective : (now : Present) (day rate effective : ℕ) (category : Category) (full : Bool) (first : ℕ) (pending : Option Refusal)
    → full ≡ nat_le 64 (5 + count_by (λ (k : Kept). adds_segment k.post) now.lists.posts) → first ≡ year_after (anchor_now now).opened → pending ≡ notice_pending now (post.Notice day category rate effective)
    → option_or (first_reason (where_true full refusal.SegmentsFull ∷ where_true (nat_lt effective (day + 45)) (refusal.NoticeTooShort (day + 45)) ∷ where_true (nat_lt effective first) (refusal.FirstYear first) ∷ [])) pending
    ≡ notice_reason now (post.Notice day category rate effective)
unfolding notice_reason first_year
when_effective now day rate effective category full first pending f y p =
    let least = day + 45 in
    joined (where_true full refusal.SegmentsFull) (where_true (nat_lt effective least) (refusal.NoticeTooShort least)) (where_true (nat_lt effective first) (refusal.FirstYear first)) pending
    ∙ ap (λ (x : Bool). first_reason (where_true x refusal.SegmentsFull ∷ where_true (nat_lt effective least) (refusal.NoticeTooShort least) ∷ where_true (nat_lt effective first) (refusal.FirstYear first) ∷ pending ∷ [])) f
    ∙ ap (λ (x : ℕ). first_reason (where_true (nat_le 64 (5 + count_by (λ (k : Kept). adds_segment k.post) now.lists.posts)) refusal.SegmentsFull ∷ where_true (nat_lt effective least) (refusal.NoticeTooShort least) ∷ where_true (nat_lt effective x) (refusal.FirstYear x) ∷ pending ∷ [])) y
    ∙ ap (λ (x : Option Refusal). first_reason (where_true (nat_le 64 (5 + count_by (λ (k : Kept). adds_segment k.post) now.lists.posts)) refusal.SegmentsFull ∷ where_true (nat_lt effective least) (refusal.NoticeTooShort least) ∷ where_true (nat_lt effective (year_after (anchor_now now).opened)) (refusal.FirstYear (year_after (anchor_now now).opened)) ∷ x ∷ [])) p
