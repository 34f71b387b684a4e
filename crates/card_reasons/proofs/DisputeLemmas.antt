-- The reasons against Disputes, Acks and Resolves, and against Reviews.
use Rattle.std.proofs.Common.{◌≡◌, ℕ, Bool, true, false, List, [], ◌∷◌, Option, Some, None, refl, ap, sym, ◌∙◌}
use Rattle.std.specs.Prelude.{nat_lt, not}
use Rattle.std.specs.Option.{option_or}
use Rattle.card_events.specs.declared.anchor.Anchor.{Anchor}
use Rattle.card_events.specs.History.{CorrectedPost, anchor_of, at_number, corrected, disputes}
use Rattle.card_events.specs.declared.kept.Kept.{Kept}
use Rattle.card_events.specs.declared.post.Finding.{Finding}
use Rattle.card_events.specs.declared.post.Post.TheVariants as post
use Rattle.card_events.specs.declared.reply.Refusal.{Refusal}
use Rattle.card_events.specs.declared.reply.Refusal.TheVariants as refusal
use Rattle.card_model.specs.Deadlines.{increases, last_notice_day}
use Rattle.card_model.specs.Refusals.{Present, anchor_now, corrected_now, dispute_known, dispute_late, first_reason, fits_target, holds_of, is_empty, is_resolved, no_open_dispute, nothing_to_review, number_from, where_true, wrong_entry}
use Rattle.card_posts.specs.Posted.{Posted, StandsFor}
use Rattle.card_reasons.proofs.ReasonLemmas.{three, two}
use Rattle.card_reasons.specs.Reasons.{claim_reason, open_dispute_reason}

-- ---- the corrected list that is kept
pub same_list : (now : Present) (p : Posted) → now.lists.posts ≡ p.history → StandsFor now.shared.holidays p → p.corrected ≡ corrected_now now
same_list now p same stands = stands ∙ ap (λ (h : List Kept). corrected (anchor_of h) now.shared.holidays h) (sym same)

pub has_same : (now : Present) (p : Posted) (day : ℕ) (has : Bool) → now.lists.posts ≡ p.history → StandsFor now.shared.holidays p → has ≡ not (is_empty (increases p.corrected day)) → has ≡ not (is_empty (increases (corrected_now now) day))
has_same now p day has same stands is = is ∙ ap (λ (ps : List CorrectedPost). not (is_empty (increases ps day))) (same_list now p same stands)

pub last_same : (now : Present) (p : Posted) (a : Anchor) (charge : ℕ) (last : Option ℕ) → now.lists.posts ≡ p.history → a ≡ anchor_of p.history → StandsFor now.shared.holidays p → last ≡ last_notice_day a p.corrected charge → last ≡ last_notice_day (anchor_now now) (corrected_now now) charge
last_same now p a charge last same anchor stands is =
    is ∙ ap (λ (b : Anchor). last_notice_day b p.corrected charge) (anchor ∙ ap anchor_of (sym same)) ∙ ap (λ (ps : List CorrectedPost). last_notice_day (anchor_now now) ps charge) (same_list now p same stands)

-- ---- the last day for a Dispute
pub late_by : (now : Present) (day charge cents : ℕ) (last : ℕ) → last_notice_day (anchor_now now) (corrected_now now) charge ≡ Some last → where_true (nat_lt last day) (refusal.DisputeLate last) ≡ dispute_late now (post.Dispute day charge cents)
unfolding dispute_late
late_by now day charge cents last is = rw is refl

pub never_late : (now : Present) (day charge cents : ℕ) → last_notice_day (anchor_now now) (corrected_now now) charge ≡ None → None ≡ dispute_late now (post.Dispute day charge cents)
unfolding dispute_late
never_late now day charge cents is = rw is refl

-- ---- an earlier Dispute of the charge
pub known_some : (now : Present) (day charge cents n : ℕ) (h : List Kept) → now.lists.posts ≡ h → number_from (disputes charge) 1 h ≡ Some n → Some (refusal.DisputeKnown n) ≡ dispute_known now (post.Dispute day charge cents)
unfolding dispute_known
known_some now day charge cents n h same is = let e : number_from (disputes charge) 1 now.lists.posts ≡ Some n = ap (number_from (disputes charge) 1) same ∙ is in rw e refl

pub known_none : (now : Present) (day charge cents : ℕ) (h : List Kept) → now.lists.posts ≡ h → number_from (disputes charge) 1 h ≡ None → None ≡ dispute_known now (post.Dispute day charge cents)
unfolding dispute_known
known_none now day charge cents h same is = let e : number_from (disputes charge) 1 now.lists.posts ≡ None = ap (number_from (disputes charge) 1) same ∙ is in rw e refl

-- ---- their targets
pub claimed : (now : Present) (day charge cents : ℕ) (fits : Bool) (late known : Option Refusal) → fits ≡ holds_of (λ k. fits_target (post.Dispute day charge cents) k.post) (at_number charge now.lists.posts)
    → late ≡ dispute_late now (post.Dispute day charge cents) → known ≡ dispute_known now (post.Dispute day charge cents)
    → option_or (where_true (not fits) (refusal.WrongEntry charge)) (option_or late known) ≡ claim_reason now (post.Dispute day charge cents)
unfolding claim_reason wrong_entry
claimed now day charge cents fits late known f l n =
    let wrong : Bool → Option Refusal = λ b. where_true (not b) (refusal.WrongEntry charge) in
    three (wrong fits) late known
    ∙ ap (λ (b : Bool). first_reason (wrong b ∷ late ∷ known ∷ [])) f
    ∙ ap (λ (x : Option Refusal). first_reason (wrong (holds_of (λ k. fits_target (post.Dispute day charge cents) k.post) (at_number charge now.lists.posts)) ∷ x ∷ known ∷ [])) l
    ∙ ap (λ (x : Option Refusal). first_reason (wrong (holds_of (λ k. fits_target (post.Dispute day charge cents) k.post) (at_number charge now.lists.posts)) ∷ dispute_late now (post.Dispute day charge cents) ∷ x ∷ [])) n

pub acknowledged : (now : Present) (day dispute : ℕ) (fits resolved : Bool) → fits ≡ holds_of (λ k. fits_target (post.Ack day dispute) k.post) (at_number dispute now.lists.posts) → resolved ≡ is_resolved now dispute
    → option_or (where_true (not fits) (refusal.WrongEntry dispute)) (where_true resolved refusal.NoOpenDispute) ≡ open_dispute_reason now (post.Ack day dispute)
unfolding open_dispute_reason wrong_entry no_open_dispute
acknowledged now day dispute fits resolved f r =
    two (where_true (not fits) (refusal.WrongEntry dispute)) (where_true resolved refusal.NoOpenDispute)
    ∙ ap (λ (b : Bool). first_reason (where_true (not b) (refusal.WrongEntry dispute) ∷ where_true resolved refusal.NoOpenDispute ∷ [])) f
    ∙ ap (λ (b : Bool). first_reason (where_true (not (holds_of (λ k. fits_target (post.Ack day dispute) k.post) (at_number dispute now.lists.posts))) (refusal.WrongEntry dispute) ∷ where_true b refusal.NoOpenDispute ∷ [])) r

pub resolved_by : (now : Present) (day dispute cents : ℕ) (fits resolved : Bool) → fits ≡ holds_of (λ k. fits_target (post.Resolve day dispute cents) k.post) (at_number dispute now.lists.posts) → resolved ≡ is_resolved now dispute
    → option_or (where_true (not fits) (refusal.WrongEntry dispute)) (where_true resolved refusal.NoOpenDispute) ≡ open_dispute_reason now (post.Resolve day dispute cents)
unfolding open_dispute_reason wrong_entry no_open_dispute
resolved_by now day dispute cents fits resolved f r =
    two (where_true (not fits) (refusal.WrongEntry dispute)) (where_true resolved refusal.NoOpenDispute)
    ∙ ap (λ (b : Bool). first_reason (where_true (not b) (refusal.WrongEntry dispute) ∷ where_true resolved refusal.NoOpenDispute ∷ [])) f
    ∙ ap (λ (b : Bool). first_reason (where_true (not (holds_of (λ k. fits_target (post.Resolve day dispute cents) k.post) (at_number dispute now.lists.posts))) (refusal.WrongEntry dispute) ∷ where_true b refusal.NoOpenDispute ∷ [])) r

-- ---- a Review
not-true : (b c : Bool) → c ≡ not b → c ≡ true → b ≡ false
not-true true c is holds = absurd (cc)
not-true false c is holds = refl

not-false : (b c : Bool) → c ≡ not b → c ≡ false → b ≡ true
not-false true c is not_so = refl
not-false false c is not_so = absurd (cc)

pub to_review : (now : Present) (day : ℕ) (found : Finding) (has : Bool) → has ≡ not (is_empty (increases (corrected_now now) day)) → has ≡ true → None ≡ nothing_to_review now (post.Review day found)
unfolding nothing_to_review
to_review now day found has is holds = let e = not-true (is_empty (increases (corrected_now now) day)) has is holds in ap (λ (b : Bool). where_true b refusal.NothingToReview) (sym e)

pub nothing : (now : Present) (day : ℕ) (found : Finding) (has : Bool) → has ≡ not (is_empty (increases (corrected_now now) day)) → has ≡ false → Some refusal.NothingToReview ≡ nothing_to_review now (post.Review day found)
unfolding nothing_to_review
nothing now day found has is not_so = let e = not-false (is_empty (increases (corrected_now now) day)) has is not_so in ap (λ (b : Bool). where_true b refusal.NothingToReview) (sym e)
