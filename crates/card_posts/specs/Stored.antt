-- What is stored beside the accepted posts of an account.
use Rattle.std.specs.Prelude.{◌≡◌, ℕ, suc, ◌<◌, ◌≤◌, Bool, true, false, List, [], ◌∷◌, drop, length, vec_len, vec_capacity}
use Rattle.std.specs.Global.{Vec}
use Rattle.card_events.specs.Billing.{IsCloseDay}
use Rattle.card_events.specs.Range.{last_request_day}
use Rattle.card_events.specs.declared.anchor.Anchor.{Anchor}
use Rattle.card_events.specs.History.{anchor_of}
use Rattle.card_events.specs.Limits.{post_limit}
use Rattle.card_events.specs.declared.kept.Kept.{Kept}
use Rattle.card_events.specs.declared.kept.Slot.{Slot}
use Rattle.card_keys.specs.Buckets.{HasRoom, Indexed, IsIndex}
use Rattle.card_waits.specs.Waits.{AreWaits, HasRoom as HasWaitRoom, Waits}
use Rattle.card_posts.specs.Corrections.{corrections, corrects}
use Rattle.card_posts.specs.Effect.{AreSmall, slots_from}
use Rattle.card_posts.specs.Later.{HasSpare, Later}
use Rattle.card_posts.specs.Order.{in_order}
use Rattle.card_posts.specs.Posted.{AreNumbered, IsReceived, SetNoRates, target_of}
use Rattle.card_posts.specs.declared.correction.Correction.{Correction}
use Rattle.card_posts.specs.declared.effect.Effect.{Effect}

-- each of these posts, the first of which is post n, is about an earlier one
unfoldable pub NameEarlier : ℕ → List Kept → Type 0
NameEarlier n [] = Unit {0}
NameEarlier n (k ∷ ks) = (target_of k.post < n) × NameEarlier (suc n) ks

-- a post was accepted on a day of requests, and payments came in by then
pub record IsTimely (opened : ℕ) (k : Kept) : Type 0 where
  pub dated : k.accepted ≤ last_request_day
  pub received : IsReceived opened k.accepted k.post

unfoldable pub AreTimely : ℕ → List Kept → Type 0
AreTimely opened [] = Unit {0}
AreTimely opened (k ∷ ks) = IsTimely opened k × AreTimely opened ks

-- the history of an account that may be kept
pub record IsKept (a : Anchor) (history : List Kept) : Type 0 where
  pub few : length history ≤ post_limit
  pub some : 1 ≤ length history
  pub anchor : a ≡ anchor_of history
  pub close_day : IsCloseDay a.close_day
  pub numbered : AreNumbered 1 history
  pub names : NameEarlier 1 history
  pub timely : AreTimely a.opened history

-- the slots of what counts now, as they are folded, none with more cents than requests have
pub record AreOrdered (slots : List Slot) (now : List Effect) : Type 0 where
  pub order : slots ≡ in_order (slots_from 1 now)
  pub small : AreSmall now

-- what is kept beside it
pub record AreBeside (history : List Kept) (later : List Correction) (now : List Effect) (slots : List Slot) : Type 0 where
  pub corrections : later ≡ corrections history
  pub effects : length now ≡ length history
  pub small : AreSmall now
  pub order : slots ≡ in_order (slots_from 1 now)

-- there is room for one more in each
pub record HaveRoom (history : Vec Kept) (index : Indexed) (waits : Waits) (later : Later) (now : Vec Effect) (slots : Vec Slot) : Type 0 where
  pub history_room : vec_len history < vec_capacity history
  pub index_room : HasRoom 1 index
  pub wait_room : HasWaitRoom waits
  pub correction_room : HasSpare later
  pub effect_room : vec_len now < vec_capacity now
  pub slot_room : vec_len slots < vec_capacity slots

-- the last of these posts corrects others
unfoldable pub ends_correcting : List Kept → Bool
ends_correcting [] = false
ends_correcting (k ∷ []) = corrects k.post
ends_correcting (k ∷ q ∷ ks) = ends_correcting (q ∷ ks)

-- what always holds of it: an account may have the history, the rest is kept beside it, where there is said to be room there is,
-- no post behind so many sets rates, and while the last post corrects no other there is room for what one more would say
abbrev pub AreStored : Anchor → Vec Kept → Indexed → Waits → Later → Vec Effect → Vec Slot → Bool → ℕ → Type 0
AreStored a history index waits later now slots has_room rated =
    IsKept a history.items × IsIndex history.items index × AreWaits history.items waits × AreBeside history.items later.each now.items slots.items × (has_room ≡ true → HaveRoom history index waits later now slots) × SetNoRates (drop rated history.items) × (ends_correcting history.items ≡ false → HasSpare later)
