-- The lists of an account that was just opened.
use Rattle.std.proofs.Common.{◌≡◌, ℕ, ◌<◌, ◌≤◌, true, List, [], ◌∷◌, refl, sym, ◌∙◌, subst, arith, None}
use Rattle.std.proofs.lemmas.List.Elements.{All-cons, All-nil}
use Rattle.card_events.specs.Billing.{IsCloseDay}
use Rattle.card_events.specs.Range.{last_request_day}
use Rattle.card_events.specs.declared.anchor.Anchor.{Anchor}
use Rattle.card_events.specs.History.{amend_of, anchor_of, cents_of, confirmed, confirms, corrected, corrected_from, corrected_post, effective_day, is_open, last_amend, opening_in, terms_in}
use Rattle.card_events.specs.declared.kept.Kept.{Kept}
use Rattle.card_events.specs.declared.kept.Slot.{Slot}
use Rattle.card_events.specs.declared.post.Post.{Post}
use Rattle.card_events.specs.declared.post.Post.TheVariants as post
use Rattle.card_waits.specs.Waits.{awaited}
use Rattle.card_posts.specs.Corrections.{corrections_from}
use Rattle.card_posts.specs.Effect.{corrected_with, slot_by, slots_from}
use Rattle.card_posts.specs.Order.{in_order, placed}
use Rattle.card_posts.specs.Posted.{AreNumbered, IsReceived, target_of}
use Rattle.card_posts.specs.Stored.{AreBeside, AreTimely, IsKept, NameEarlier}
use Rattle.card_posts.specs.declared.correction.Correction.{Correction}
use Rattle.card_posts.specs.declared.effect.Effect.{Effect}
use Rattle.card_posts.proofs.Noted.{by_parts}

no-target : (p : Post) → is_open p ≡ true → target_of p < 1
no-target (post.Open d t) o = omega arith
no-target (post.OpenVariable d t) o = omega arith
no-target (post.Charge d p c) o = absurd (cc)
no-target (post.Credit d p c) o = absurd (cc)
no-target (post.Payment d i y c) o = absurd (cc)
no-target (post.Return d t) o = absurd (cc)
no-target (post.Plan d v r w f) o = absurd (cc)
no-target (post.Notice d y r w) o = absurd (cc)
no-target (post.Lower d y r) o = absurd (cc)
no-target post.Penalty o = absurd (cc)
no-target (post.Review d f) o = absurd (cc)
no-target (post.Dispute d t c) o = absurd (cc)
no-target (post.Ack d t) o = absurd (cc)
no-target (post.Resolve d t c) o = absurd (cc)
no-target (post.AskRefund d) o = absurd (cc)
no-target (post.Refund c) o = absurd (cc)
no-target (post.Amend t d c) o = absurd (cc)
no-target (post.Bill c) o = absurd (cc)

received : (opened accepted : ℕ) (p : Post) → is_open p ≡ true → IsReceived opened accepted p
received opened accepted (post.Open d t) o = tt
received opened accepted (post.OpenVariable d t) o = tt
received opened accepted (post.Charge d p c) o = absurd (cc)
received opened accepted (post.Credit d p c) o = absurd (cc)
received opened accepted (post.Payment d i y c) o = absurd (cc)
received opened accepted (post.Return d t) o = absurd (cc)
received opened accepted (post.Plan d v r w f) o = absurd (cc)
received opened accepted (post.Notice d y r w) o = absurd (cc)
received opened accepted (post.Lower d y r) o = absurd (cc)
received opened accepted post.Penalty o = absurd (cc)
received opened accepted (post.Review d f) o = absurd (cc)
received opened accepted (post.Dispute d t c) o = absurd (cc)
received opened accepted (post.Ack d t) o = absurd (cc)
received opened accepted (post.Resolve d t c) o = absurd (cc)
received opened accepted (post.AskRefund d) o = absurd (cc)
received opened accepted (post.Refund c) o = absurd (cc)
received opened accepted (post.Amend t d c) o = absurd (cc)
received opened accepted (post.Bill c) o = absurd (cc)

no-amend : (p : Post) → is_open p ≡ true → amend_of 1 p ≡ None
no-amend (post.Open d t) o = refl
no-amend (post.OpenVariable d t) o = refl
no-amend (post.Charge d p c) o = absurd (cc)
no-amend (post.Credit d p c) o = absurd (cc)
no-amend (post.Payment d i y c) o = absurd (cc)
no-amend (post.Return d t) o = absurd (cc)
no-amend (post.Plan d v r w f) o = absurd (cc)
no-amend (post.Notice d y r w) o = absurd (cc)
no-amend (post.Lower d y r) o = absurd (cc)
no-amend post.Penalty o = absurd (cc)
no-amend (post.Review d f) o = absurd (cc)
no-amend (post.Dispute d t c) o = absurd (cc)
no-amend (post.Ack d t) o = absurd (cc)
no-amend (post.Resolve d t c) o = absurd (cc)
no-amend (post.AskRefund d) o = absurd (cc)
no-amend (post.Refund c) o = absurd (cc)
no-amend (post.Amend t d c) o = absurd (cc)
no-amend (post.Bill c) o = absurd (cc)

no-confirm : (h : List Kept) (p : Post) → is_open p ≡ true → confirms 1 h p ≡ 0
no-confirm h (post.Open d t) o = refl
no-confirm h (post.OpenVariable d t) o = refl
no-confirm h (post.Charge d p c) o = absurd (cc)
no-confirm h (post.Credit d p c) o = absurd (cc)
no-confirm h (post.Payment d i y c) o = absurd (cc)
no-confirm h (post.Return d t) o = absurd (cc)
no-confirm h (post.Plan d v r w f) o = absurd (cc)
no-confirm h (post.Notice d y r w) o = absurd (cc)
no-confirm h (post.Lower d y r) o = absurd (cc)
no-confirm h post.Penalty o = absurd (cc)
no-confirm h (post.Review d f) o = absurd (cc)
no-confirm h (post.Dispute d t c) o = absurd (cc)
no-confirm h (post.Ack d t) o = absurd (cc)
no-confirm h (post.Resolve d t c) o = absurd (cc)
no-confirm h (post.AskRefund d) o = absurd (cc)
no-confirm h (post.Refund c) o = absurd (cc)
no-confirm h (post.Amend t d c) o = absurd (cc)
no-confirm h (post.Bill c) o = absurd (cc)

kept-one : (a : Anchor) (k : Kept) → is_open k.post ≡ true → IsCloseDay (terms_in k.post).close → k.number ≡ 1 → k.accepted ≤ last_request_day → a ≡ anchor_of (k ∷ []) → IsKept a (k ∷ [])
unfolding AreNumbered NameEarlier AreTimely
kept-one a k o close number dated is = record {
  few = omega arith;
  some = omega arith;
  anchor = is;
  close_day = subst (λ (b : Anchor). IsCloseDay b.close_day) (sym is) close;
  numbered = (number, tt);
  names = (no-target k.post o, tt);
  timely = (record { dated = dated; received = received a.opened k.accepted k.post o }, tt);
}

corrections-one : (k : Kept) → is_open k.post ≡ true → by_parts None 0 ∷ [] ≡ corrections_from (k ∷ []) 1 (k ∷ [])
unfolding corrections_from last_amend confirmed
corrections-one k o =
    let amend : amend_of 1 k.post ≡ None = no-amend k.post o in
    let sum : confirms 1 (k ∷ []) k.post ≡ 0 = no-confirm (k ∷ []) k.post o in
    rw (amend, sum) refl

beside-one : (k : Kept) (e : Effect) → is_open k.post ≡ true → e.cents ≤ 999_999_999_999 → AreBeside (k ∷ []) (by_parts None 0 ∷ []) (e ∷ []) (slot_by 1 e ∷ [])
unfolding in_order placed slots_from
beside-one k e o small = record { corrections = corrections-one k o; effects = refl; small = All-cons (λ (x : Effect). x.cents ≤ 999_999_999_999) e [] small (All-nil (λ (x : Effect). x.cents ≤ 999_999_999_999)); order = refl }

pub record AreFirst (a : Anchor) (h : List Kept) (cs : List Correction) (es : List Effect) (slots : List Slot) : Type 0 where
  pub kept : IsKept a h
  pub beside : AreBeside h cs es slots

pub first-lists : (a : Anchor) (k : Kept) (e : Effect) (h : List Kept) (cs : List Correction) (es : List Effect) (slots : List Slot)
    → h ≡ k ∷ [] → cs ≡ by_parts None 0 ∷ [] → es ≡ e ∷ [] → slots ≡ slot_by 1 e ∷ []
    → is_open k.post ≡ true → IsCloseDay (terms_in k.post).close → k.number ≡ 1 → k.accepted ≤ last_request_day → a ≡ anchor_of (k ∷ []) → e.cents ≤ 999_999_999_999 → AreFirst a h cs es slots
first-lists a k e h cs es slots h_is cs_is es_is slots_is o close number dated is small =
    rw (h_is, cs_is, es_is, slots_is) (record { kept = kept-one a k o close number dated is; beside = beside-one k e o small })

-- the corrected list of an opening
day-one : (a : Anchor) (holidays : List ℕ) (h : List Kept) (accepted : ℕ) (p : Post) → is_open p ≡ true → opening_in p ≡ effective_day a holidays h 1 accepted p
unfolding effective_day
day-one a holidays h accepted (post.Open d t) o = refl
day-one a holidays h accepted (post.OpenVariable d t) o = refl
day-one a holidays h accepted (post.Charge d p c) o = absurd (cc)
day-one a holidays h accepted (post.Credit d p c) o = absurd (cc)
day-one a holidays h accepted (post.Payment d i y c) o = absurd (cc)
day-one a holidays h accepted (post.Return d t) o = absurd (cc)
day-one a holidays h accepted (post.Plan d v r w f) o = absurd (cc)
day-one a holidays h accepted (post.Notice d y r w) o = absurd (cc)
day-one a holidays h accepted (post.Lower d y r) o = absurd (cc)
day-one a holidays h accepted post.Penalty o = absurd (cc)
day-one a holidays h accepted (post.Review d f) o = absurd (cc)
day-one a holidays h accepted (post.Dispute d t c) o = absurd (cc)
day-one a holidays h accepted (post.Ack d t) o = absurd (cc)
day-one a holidays h accepted (post.Resolve d t c) o = absurd (cc)
day-one a holidays h accepted (post.AskRefund d) o = absurd (cc)
day-one a holidays h accepted (post.Refund c) o = absurd (cc)
day-one a holidays h accepted (post.Amend t d c) o = absurd (cc)
day-one a holidays h accepted (post.Bill c) o = absurd (cc)

cents-one : (h : List Kept) (p : Post) → is_open p ≡ true → 0 ≡ cents_of h 1 p
unfolding cents_of
cents-one h (post.Open d t) o = refl
cents-one h (post.OpenVariable d t) o = refl
cents-one h (post.Charge d p c) o = absurd (cc)
cents-one h (post.Credit d p c) o = absurd (cc)
cents-one h (post.Payment d i y c) o = absurd (cc)
cents-one h (post.Return d t) o = absurd (cc)
cents-one h (post.Plan d v r w f) o = absurd (cc)
cents-one h (post.Notice d y r w) o = absurd (cc)
cents-one h (post.Lower d y r) o = absurd (cc)
cents-one h post.Penalty o = absurd (cc)
cents-one h (post.Review d f) o = absurd (cc)
cents-one h (post.Dispute d t c) o = absurd (cc)
cents-one h (post.Ack d t) o = absurd (cc)
cents-one h (post.Resolve d t c) o = absurd (cc)
cents-one h (post.AskRefund d) o = absurd (cc)
cents-one h (post.Refund c) o = absurd (cc)
cents-one h (post.Amend t d c) o = absurd (cc)
cents-one h (post.Bill c) o = absurd (cc)

pub stands-one : (k : Kept) (e : Effect) (h : List Kept) (es : List Effect) → h ≡ k ∷ [] → es ≡ e ∷ [] → is_open k.post ≡ true → e.day ≡ opening_in k.post → e.cents ≡ 0 → (holidays : List ℕ) → corrected_with 1 5 h es ≡ corrected (anchor_of h) holidays h
unfolding corrected_with corrected_from corrected_post
stands-one k e h es h_is es_is o day cents holidays =
    let one : e.day ≡ effective_day (anchor_of (k ∷ [])) holidays (k ∷ []) 1 k.accepted k.post = day ∙ day-one (anchor_of (k ∷ [])) holidays (k ∷ []) k.accepted k.post o in
    let two : e.cents ≡ cents_of (k ∷ []) 1 k.post = cents ∙ cents-one (k ∷ []) k.post o in
    rw (h_is, es_is, one, two) refl

-- an opening waits for no other post
pub waits-for-none : (p : Post) → is_open p ≡ true → awaited p ≡ 0
waits-for-none (post.Open d t) o = refl
waits-for-none (post.OpenVariable d t) o = refl
waits-for-none (post.Charge d p c) o = absurd (cc)
waits-for-none (post.Credit d p c) o = absurd (cc)
waits-for-none (post.Payment d i y c) o = absurd (cc)
waits-for-none (post.Return d t) o = absurd (cc)
waits-for-none (post.Plan d v r w f) o = absurd (cc)
waits-for-none (post.Notice d y r w) o = absurd (cc)
waits-for-none (post.Lower d y r) o = absurd (cc)
waits-for-none post.Penalty o = absurd (cc)
waits-for-none (post.Review d f) o = absurd (cc)
waits-for-none (post.Dispute d t c) o = absurd (cc)
waits-for-none (post.Ack d t) o = absurd (cc)
waits-for-none (post.Resolve d t c) o = absurd (cc)
waits-for-none (post.AskRefund d) o = absurd (cc)
waits-for-none (post.Refund c) o = absurd (cc)
waits-for-none (post.Amend t d c) o = absurd (cc)
waits-for-none (post.Bill c) o = absurd (cc)
