-- What is recorded after a request.
use Rattle.std.proofs.Common.{◌≡◌, inl, inr, ℕ, ◌+◌, ◌<◌, ◌≤◌, List, [], ◌∷◌, ◌++◌, length, set, get_or, Option, Some, None, refl, ap, sym, ◌∙◌, subst, arith}
use Rattle.std.proofs.lemmas.List.{get_or-set_same, length-append, length-set}
use Rattle.card_desk.specs.Desks.{OpenDesk}
use Rattle.card_desk.specs.Places.{place_from}
use Rattle.card_desk.specs.Recorded.{AppliedStays, ChangesAt, MayGrow, StaysBut}
use Rattle.card_events.specs.declared.post.Post.{Post}
use Rattle.card_events.specs.declared.request.Request.{Request}
use Rattle.card_events.specs.declared.request.Request.TheVariants as request
use Rattle.card_events.specs.declared.request.Shared.{Shared}
use Rattle.card_model.specs.declared.entry.Entry.{Entry}

pub shared_same : (d new : OpenDesk) (r : Request) (s : Shared) → r ≡ request.Shared s → AppliedStays d r new → new.recorded ≡ d.recorded
unfolding AppliedStays
shared_same d new r s is h = subst (λ (x : Request). AppliedStays d x new) is h

stays : (d new : OpenDesk) (r : Request) (name key : List ℕ) (p : Post) → r ≡ request.Post name key p → AppliedStays d r new → StaysBut (place_from name 0 d.state.accounts) d.recorded new.recorded
unfolding AppliedStays
stays d new r name key p is h = subst (λ (x : Request). AppliedStays d x new) is h

pub changed : (d new : OpenDesk) (r : Request) (name key : List ℕ) (p : Post) (i : ℕ) → r ≡ request.Post name key p → place_from name 0 d.state.accounts ≡ Some i → AppliedStays d r new
    → ChangesAt i d.recorded new.recorded
changed d new r name key p i is there h = subst (λ (o : Option ℕ). StaysBut o d.recorded new.recorded) there (stays d new r name key p is h)

pub grown : (d new : OpenDesk) (r : Request) (name key : List ℕ) (p : Post) → r ≡ request.Post name key p → place_from name 0 d.state.accounts ≡ None → AppliedStays d r new
    → MayGrow d.recorded new.recorded
grown d new r name key p is absent h = subst (λ (o : Option ℕ). StaysBut o d.recorded new.recorded) absent (stays d new r name key p is h)

-- ---- lists
pub as_long : (i : ℕ) (old new : List (List Entry)) → ChangesAt i old new → length new ≡ length old
as_long i old new h = ap (λ (x : List (List Entry)). length x) h.changed ∙ length-set old i h.entries

-- what is read there is what came
pub read_there : (i : ℕ) (old new : List (List Entry)) (fs : List Entry) → i < length old → ChangesAt i old new → ((d : List Entry) → fs ≡ get_or new i d) → set old i fs ≡ new
read_there i old new fs low h read =
    let is : fs ≡ h.entries = read h.entries ∙ (ap (λ (x : List (List Entry)). get_or x i h.entries) h.changed ∙ get_or-set_same old i h.entries h.entries low) in
    ap (set old i) is ∙ sym h.changed

last-is : (xs : List (List Entry)) (y d : List Entry) → get_or (xs ++ y ∷ []) (length xs) d ≡ y
last-is [] y d = refl
last-is (x ∷ xs) y d = last-is xs y d

longer : (xs : List (List Entry)) (y : List Entry) → length (xs ++ y ∷ []) ≡ length xs + 1
longer xs y = length-append xs (y ∷ [])

-- where there are more, what is read behind is what came
pub read_behind : (old new : List (List Entry)) (fs : List Entry) → length old < length new → MayGrow old new → ((d : List Entry) → fs ≡ get_or new (length old) d) → old ++ fs ∷ [] ≡ new
read_behind old new fs more (inl same) read = absurd (omega (arith, more, ap (λ (x : List (List Entry)). length x) same))
read_behind old new fs more (inr (es, e)) read =
    let is : fs ≡ es = read [] ∙ (ap (λ (x : List (List Entry)). get_or x (length old) []) e ∙ last-is old es []) in
    ap (λ (x : List Entry). old ++ x ∷ []) is ∙ sym e

-- and where there aren't, they are the same
pub none_came : (old new : List (List Entry)) → length new ≤ length old → MayGrow old new → new ≡ old
none_came old new few (inl same) = same
none_came old new few (inr (es, e)) = absurd (omega (arith, few, ap (λ (x : List (List Entry)). length x) e, longer old es))
