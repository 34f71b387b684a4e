-- What a step keeps of an account's posts: their days are not after today, and Returns name payments.
use Rattle.std.proofs.Common.{◌≡◌, ℕ, ◌≤◌, Bool, true, false, cond, List, [], ◌∷◌, ◌++◌, length, Option, Some, None, refl, ap, sym, ◌∙◌, subst, arith}
use Rattle.std.proofs.lemmas.Bool.{false≢true, ltb-false}
use Rattle.std.proofs.lemmas.List.Elements.{All-cons, All-head, All-nil, All-push, All-tail}
use Rattle.std.specs.List.{All}
use Rattle.std.specs.Prelude.{nat_le, nat_lt}
use Rattle.card_account.specs.Runs.{IsTakenPost}
use Rattle.card_account.proofs.NamingLemmas.{names}
use Rattle.card_events.specs.Range.{first_calendar_day}
use Rattle.card_reasons.proofs.Accepted.{received}
use Rattle.card_reasons.proofs.ReasonLemmas.{none_tail, none_head, where_none}
use Rattle.card_daily.proofs.Naming.{names-more}
use Rattle.card_daily.specs.Given.{NamePayments}
use Rattle.card_events.specs.History.{anchor_of, at_number, is_open, opening_in}
use Rattle.card_events.specs.Keys.{with_key}
use Rattle.card_events.specs.SharedRows.{SharedRows, shared_rows}
use Rattle.card_events.specs.declared.kept.Kept.{Kept}
use Rattle.card_events.specs.declared.post.Post.{Post}
use Rattle.card_events.specs.declared.post.Post.TheVariants as post
use Rattle.card_events.specs.declared.reply.Refusal.{Refusal}
use Rattle.card_events.specs.declared.reply.Refusal.TheVariants as refusal
use Rattle.card_events.specs.declared.request.Shared.{Shared}
use Rattle.card_model.specs.Machine.{Accepts, Outcome, Refuses, Repeats, accepted, at_key, is_repeat_of, judged, kept_as, next_number, opened, outcome}
use Rattle.card_model.specs.Refusals.{Lists, Present, bad_terms, day_ahead, no_index, reason_against, reason_to_open, where_true}
use Rattle.card_posts.specs.Posted.{IsReceived}

-- a post that is kept, in an account that was opened on a day
pub record IsHeld (today opened : ℕ) (k : Kept) : Type 0 where
  pub accepted : k.accepted ≤ today
  pub received : IsReceived opened k.accepted k.post
  pub opening : opening_in k.post ≤ today
  pub first : is_open k.post ≡ true → first_calendar_day ≤ opening_in k.post

-- the lists of an account
pub record AreHeld (today : ℕ) (l : Lists) : Type 0 where
  pub some : 1 ≤ length l.posts
  pub posts : All (IsHeld today (anchor_of l.posts).opened) l.posts
  pub returns : NamePayments l.posts 1 l.posts

-- ---- kinds
no_opening : (p : Post) → is_open p ≡ false → (opening_in p ≡ 0) × (is_open p ≡ false)
no_opening (post.Open d t) other = absurd (cc)
no_opening (post.OpenVariable d t) other = absurd (cc)
no_opening (post.Charge d p c) other = (refl, refl)
no_opening (post.Credit d p c) other = (refl, refl)
no_opening (post.Payment d m by c) other = (refl, refl)
no_opening (post.Bill c) other = (refl, refl)
no_opening (post.Amend t d c) other = (refl, refl)
no_opening (post.Return d t) other = (refl, refl)
no_opening (post.Plan d v r w f) other = (refl, refl)
no_opening (post.Notice d y r w) other = (refl, refl)
no_opening (post.Lower d y r) other = (refl, refl)
no_opening post.Penalty other = (refl, refl)
no_opening (post.Review d f) other = (refl, refl)
no_opening (post.Dispute d t c) other = (refl, refl)
no_opening (post.Ack d t) other = (refl, refl)
no_opening (post.Resolve d t c) other = (refl, refl)
no_opening (post.AskRefund d) other = (refl, refl)
no_opening (post.Refund c) other = (refl, refl)

-- an Open that is accepted is on no later day than today
first-held : (key : List ℕ) (today accounts : ℕ) (shared : SharedRows) (p : Post) → IsTakenPost p → is_open p ≡ true → reason_to_open today accounts shared p ≡ None → AreHeld today (record { posts = kept_as 1 key today p ∷ []; issued = [] })
unfolding reason_to_open NamePayments
first-held key today accounts shared (post.Open day t) taken is none =
    let rest = none_tail (bad_terms (post.Open day t)) (day_ahead today (post.Open day t) ∷ no_index shared.index (post.Open day t) ∷ where_true (nat_le 1000000 accounts) refusal.LedgerFull ∷ []) none in
    let ahead = none_head (day_ahead today (post.Open day t)) (no_index shared.index (post.Open day t) ∷ where_true (nat_le 1000000 accounts) refusal.LedgerFull ∷ []) rest in
    let by : day ≤ today = ltb-false today day (where_none (nat_lt today day) refusal.DayAhead ahead) in
    record {
      some = omega arith;
      posts = All-cons (IsHeld today day) (kept_as 1 key today (post.Open day t)) [] (record { accepted = omega arith; received = tt; opening = by; first = taken }) (All-nil (IsHeld today day));
      returns = (tt, tt);
    }
first-held key today accounts shared (post.OpenVariable day t) taken is none =
    let rest = none_tail (bad_terms (post.OpenVariable day t)) (day_ahead today (post.OpenVariable day t) ∷ no_index shared.index (post.OpenVariable day t) ∷ where_true (nat_le 1000000 accounts) refusal.LedgerFull ∷ []) none in
    let ahead = none_head (day_ahead today (post.OpenVariable day t)) (no_index shared.index (post.OpenVariable day t) ∷ where_true (nat_le 1000000 accounts) refusal.LedgerFull ∷ []) rest in
    let by : day ≤ today = ltb-false today day (where_none (nat_lt today day) refusal.DayAhead ahead) in
    record {
      some = omega arith;
      posts = All-cons (IsHeld today day) (kept_as 1 key today (post.OpenVariable day t)) [] (record { accepted = omega arith; received = tt; opening = by; first = taken }) (All-nil (IsHeld today day));
      returns = (tt, tt);
    }
first-held key today accounts shared (post.Charge d p c) taken is none = absurd (cc)
first-held key today accounts shared (post.Credit d p c) taken is none = absurd (cc)
first-held key today accounts shared (post.Payment d m by c) taken is none = absurd (cc)
first-held key today accounts shared (post.Bill c) taken is none = absurd (cc)
first-held key today accounts shared (post.Amend t d c) taken is none = absurd (cc)
first-held key today accounts shared (post.Return d t) taken is none = absurd (cc)
first-held key today accounts shared (post.Plan d v r w f) taken is none = absurd (cc)
first-held key today accounts shared (post.Notice d y r w) taken is none = absurd (cc)
first-held key today accounts shared (post.Lower d y r) taken is none = absurd (cc)
first-held key today accounts shared post.Penalty taken is none = absurd (cc)
first-held key today accounts shared (post.Review d f) taken is none = absurd (cc)
first-held key today accounts shared (post.Dispute d t c) taken is none = absurd (cc)
first-held key today accounts shared (post.Ack d t) taken is none = absurd (cc)
first-held key today accounts shared (post.Resolve d t c) taken is none = absurd (cc)
first-held key today accounts shared (post.AskRefund d) taken is none = absurd (cc)
first-held key today accounts shared (post.Refund c) taken is none = absurd (cc)

-- ---- an accepted post
same_anchor : (ks : List Kept) (k : Kept) → 1 ≤ length ks → anchor_of (ks ++ k ∷ []) ≡ anchor_of ks
same_anchor [] k some = absurd (omega (arith, some))
same_anchor (x ∷ xs) k some = refl

longer : (ks : List Kept) (k : Kept) → 1 ≤ length (ks ++ k ∷ [])
longer [] k = omega arith
longer (x ∷ xs) k = omega arith

held-push : (today opened : ℕ) (ks : List Kept) (k : Kept) → 1 ≤ length ks → opened ≡ (anchor_of ks).opened → All (IsHeld today (anchor_of ks).opened) ks → IsHeld today (anchor_of ks).opened k
    → All (IsHeld today (anchor_of (ks ++ k ∷ [])).opened) (ks ++ k ∷ [])
held-push today opened ks k some is all one =
    let same : (anchor_of ks).opened ≡ (anchor_of (ks ++ k ∷ [])).opened = ap (λ a. a.opened) (sym (same_anchor ks k some)) in
    subst (λ (o : ℕ). All (IsHeld today o) (ks ++ k ∷ [])) same (All-push (IsHeld today (anchor_of ks).opened) ks k all one)

accepted-held : (now : Present) (key : List ℕ) (p : Post) → IsTakenPost p → is_open p ≡ false → reason_against now p ≡ None → AreHeld now.today now.lists → AreHeld now.today (accepted now key p)
unfolding accepted
accepted-held now key p taken other none held =
    let k = kept_as (next_number now) key now.today p in
    let parts = no_opening p other in
    let one : IsHeld now.today (anchor_of now.lists.posts).opened k = record {
      accepted = omega arith;
      received = received now p none;
      opening = omega (arith, parts.0);
      first = λ is. absurd (false≢true (sym parts.1 ∙ is));
    } in
    record {
      some = longer now.lists.posts k;
      posts = held-push now.today (anchor_of now.lists.posts).opened now.lists.posts k held.some refl held.posts one;
      returns = names-more now.lists.posts k held.returns (names now p none);
    }

-- ---- an outcome
abbrev pub HeldIf : ℕ → Outcome → Type 0
HeldIf today (Accepts new) = AreHeld today new
HeldIf today (Refuses r) = Unit {0}
HeldIf today (Repeats n) = Unit {0}

judged-held : (now : Present) (key : List ℕ) (p : Post) (r : Option Refusal) → reason_against now p ≡ r → IsTakenPost p → is_open p ≡ false → AreHeld now.today now.lists → HeldIf now.today (judged now key p r)
judged-held now key p (Some r) is taken other held = tt
judged-held now key p None is taken other held = accepted-held now key p taken other is held

new-held : (now : Present) (key : List ℕ) (p : Post) (b : Bool) → is_open p ≡ b → IsTakenPost p → AreHeld now.today now.lists
    → HeldIf now.today (cond b (Refuses refusal.AccountExists) (judged now key p (reason_against now p)))
new-held now key p true is taken held = tt
new-held now key p false is taken held = judged-held now key p (reason_against now p) refl taken is held

either-unit : (today n m : ℕ) (b : Bool) → HeldIf today (cond b (Repeats n) (Refuses (refusal.KeyReused m)))
either-unit today n m true = tt
either-unit today n m false = tt

at_key-held : (now : Present) (key : List ℕ) (p : Post) (o : Option ℕ) → IsTakenPost p → AreHeld now.today now.lists → HeldIf now.today (at_key now key p o)
at_key-held now key p (Some n) taken held = either-unit now.today n n (is_repeat_of p (at_number n now.lists.posts))
at_key-held now key p None taken held = new-held now key p (is_open p) refl taken held

opened-held : (key : List ℕ) (today accounts : ℕ) (shared : SharedRows) (p : Post) (r : Option Refusal) → reason_to_open today accounts shared p ≡ r → IsTakenPost p → is_open p ≡ true → HeldIf today (opened key today p r)
opened-held key today accounts shared p (Some r) is taken open_is = tt
opened-held key today accounts shared p None is taken open_is = first-held key today accounts shared p taken open_is is

none-held : (key : List ℕ) (today accounts : ℕ) (shared : SharedRows) (p : Post) (b : Bool) → is_open p ≡ b → IsTakenPost p → HeldIf today (cond b (opened key today p (reason_to_open today accounts shared p)) (Refuses refusal.UnknownAccount))
none-held key today accounts shared p true is taken = opened-held key today accounts shared p (reason_to_open today accounts shared p) refl taken is
none-held key today accounts shared p false is taken = tt

-- the lists of an account, where it is there
abbrev pub HeldThere : ℕ → Option Lists → Type 0
HeldThere today None = Unit {0}
HeldThere today (Some l) = AreHeld today l

pub outcome-held : (today : ℕ) (rows : List Shared) (accounts : ℕ) (key : List ℕ) (p : Post) (o : Option Lists) → IsTakenPost p → HeldThere today o → HeldIf today (outcome today rows accounts key p o)
unfolding outcome
outcome-held today rows accounts key p None taken held = none-held key today accounts (shared_rows rows) p (is_open p) refl taken
outcome-held today rows accounts key p (Some l) taken held = at_key-held (record { today = today; shared = shared_rows rows; lists = l }) key p (with_key key l.posts) taken held

-- ---- later days
later-one : (today later opened : ℕ) (k : Kept) → today ≤ later → IsHeld today opened k → IsHeld later opened k
later-one today later opened k up held =
    record { accepted = omega (arith, held.accepted, up); received = held.received; opening = omega (arith, held.opening, up); first = held.first }

later-all : (today later opened : ℕ) (ks : List Kept) → today ≤ later → All (IsHeld today opened) ks → All (IsHeld later opened) ks
later-all today later opened [] up all = All-nil (IsHeld later opened)
later-all today later opened (k ∷ ks) up all =
    All-cons (IsHeld later opened) k ks (later-one today later opened k up (All-head (IsHeld today opened) k ks all)) (later-all today later opened ks up (All-tail (IsHeld today opened) k ks all))

pub later-held : (today later : ℕ) (l : Lists) → today ≤ later → AreHeld today l → AreHeld later l
later-held today later l up held = record { some = held.some; posts = later-all today later (anchor_of l.posts).opened l.posts up held.posts; returns = held.returns }
