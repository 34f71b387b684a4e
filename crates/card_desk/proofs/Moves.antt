-- How far the accounts of a desk move.
use Rattle.std.proofs.Common.{◌≡◌, ℕ, zero, suc, ◌+◌, ◌<◌, ◌≤◌, ◌⊎◌, inl, inr, min, Option, Some, None, Result, Ok, Err, List, [], ◌∷◌, ◌++◌, length, get_or, set, refl, ap, sym, ◌∙◌, subst, arith}
use Rattle.std.proofs.lemmas.List.{get_or-map, get_or-set_same, length-map, length-set, map-append, map-set, set-get_or, set-set}
use Rattle.std.proofs.lemmas.List.Elements.{All-cons, All-head, All-nil, All-tail}
use Rattle.std.proofs.lemmas.Result.{on_err_weaker, on_ok_weaker}
use Rattle.std.specs.List.{All}
use Rattle.std.specs.Prelude.{IsErr, OnOk}
use Rattle.card_account.specs.Accounts.{AreTold, HasTold, IsAccount, IsTold, OpenAccount}
use Rattle.card_account.specs.Reached.{StaysNear, StaysOrIsToday}
use Rattle.card_account.specs.Runs.{AreRunning}
use Rattle.card_account.proofs.Told.{on-any, on-any-err}
use Rattle.card_desk.proofs.FoldLemmas.{account_at, alike_at, alike_run}
use Rattle.card_desk.proofs.Left.{same_first, there_is}
use Rattle.card_desk.specs.Desks.{IsDesk, OpenDesk, open_desk, reached_all, state_of}
use Rattle.card_desk.specs.Places.{place_from}
use Rattle.card_desk.specs.Reached.{AllMove, IsDayAfter, MovesBy, MovesByOpen, MovesNamed, MovesOn, MovesToApply, MovesToTell, NoneMoves, OneMoves, OneReaches, OneStays, day_before_opening, day_there}
use Rattle.card_desk.specs.Steps.{ReachedLists, reached_there}
use Rattle.card_events.specs.History.{anchor_of}
use Rattle.card_events.specs.SharedRows.{SharedRows, shared_rows}
use Rattle.card_events.specs.declared.post.Post.{Post}
use Rattle.card_events.specs.declared.reply.Refusal.{Refusal}
use Rattle.card_events.specs.declared.request.Request.TheVariants as request
use Rattle.card_events.specs.declared.request.Shared.{Shared}
use Rattle.card_model.specs.Machine.{Accepts, NamedAccount, Outcome, Refuses, Repeats, State, outcome_in}
use Rattle.card_model.specs.Refusals.{Lists}
use Rattle.card_reasons.proofs.SameReasons.{AreAlike}
use Rattle.card_replay.specs.Steps.{first_in_cycle}

-- ---- one day
pub stays-told : (today : ℕ) (shared : SharedRows) (b a : OpenAccount) → IsAccount today shared b → IsTold today shared b a → StaysOrIsToday today b.folding.reached a.folding.reached
stays-told today shared b a h told = record { either = told.reached; forward = forward told.reached }
  where
    forward : (a.folding.reached ≡ today) ⊎ (a.folding.reached ≡ b.folding.reached) → b.folding.reached ≤ a.folding.reached
    forward (inl e) = let later = h.reach.later in omega (arith, e, later)
    forward (inr e) = omega (arith, e)

-- one call after the other
then-stays : (today b x a : ℕ) → StaysOrIsToday today b x → StaysOrIsToday today x a → StaysOrIsToday today b a
then-stays today b x a first next = record { either = by first.either next.either; forward = (let l = first.forward in let m = next.forward in omega (arith, l, m)) }
  where
    by : (x ≡ today) ⊎ (x ≡ b) → (a ≡ today) ⊎ (a ≡ x) → (a ≡ today) ⊎ (a ≡ b)
    by h (inl e) = inl e
    by (inl h) (inr e) = inl (e ∙ h)
    by (inr h) (inr e) = inr (e ∙ h)

nearer : (f b x a : ℕ) → b ≤ x → min f (x + 1) ≤ a + 1 → min f (b + 1) ≤ a + 1
nearer f b x a l m = omega (arith, l, m)

then-near : (today : ℕ) (shared : SharedRows) (old new : Lists) (b x a : ℕ) → b ≤ x → StaysNear today shared old new x a → StaysNear today shared old new b a
then-near today shared old new b x a l h = record { near = λ from is. nearer (first_in_cycle (anchor_of old.posts) from) b x a l (h.near from is); last = h.last }

-- under the same rows
near-same : (today : ℕ) (old new : Lists) (a b : SharedRows) (before after : ℕ) → AreAlike today old a b → AreAlike today new a b → StaysNear today a old new before after → StaysNear today b old new before after
near-same today old new a b before after one two h = record { near = λ from is. h.near from (same_first today old new a b from one two is); last = h.last }

-- ---- one account
day-is : (accounts : List OpenAccount) (i : ℕ) (b : OpenAccount) → i < length accounts → b ≡ get_or accounts i b → get_or (reached_all accounts) i 0 ≡ b.folding.reached
day-is accounts i b low is = get_or-map (λ (x : OpenAccount). x.folding.reached) accounts i b 0 low ∙ ap (λ (x : OpenAccount). x.folding.reached) (sym is)

one-moves : (rows : List Shared) (today : ℕ) (accounts : List OpenAccount) (i : ℕ) (a : OpenAccount) (d : OpenDesk) (Holds : ℕ → Type 0) → open_desk today rows accounts ≡ d → i < length accounts → Holds a.folding.reached
    → OneMoves i Holds d (open_desk today rows (set accounts i a))
one-moves rows today accounts i a d Holds view low h =
    let here : i < length (set accounts i a) = omega (arith, low, length-set accounts i a) in
    let after : get_or (reached_all (set accounts i a)) i 0 ≡ a.folding.reached = day-is (set accounts i a) i a here (sym (get_or-set_same accounts i a a low)) in
    record {
      own = subst Holds (sym after) h;
      others = map-set (λ (x : OpenAccount). x.folding.reached) accounts i a ∙ (ap (λ (x : OpenDesk). set x.reached i a.folding.reached) view ∙ ap (λ (n : ℕ). set d.reached i n) (sym after));
    }

-- it was told of
pub told-moves : (places : List (List ℕ × ℕ)) (common : SharedRows) (count today : ℕ) (rows : List Shared) (accounts : List OpenAccount) (i : ℕ) (a b : OpenAccount) (d : OpenDesk)
    → IsDesk places common count today rows accounts → open_desk today rows accounts ≡ d → i < length accounts → b ≡ get_or accounts i b → IsTold today common b a
    → OneStays (Some i) d (open_desk today rows (set accounts i a))
told-moves places common count today rows accounts i a b d desk view low is told =
    let stays = stays-told today common b a (account_at places common count today rows accounts i b desk low is) told in
    let here = subst (λ (n : ℕ). StaysOrIsToday today n a.folding.reached) (sym (day-is accounts i b low is)) stays in
    one-moves rows today accounts i a d (StaysOrIsToday d.state.today (day_there d i)) view low
    (subst (λ (x : OpenDesk). StaysOrIsToday x.state.today (day_there x i) a.folding.reached) view here)

pub tells-moves : {T E : Type 0} (result : Result T E) (places : List (List ℕ × ℕ)) (common : SharedRows) (count today : ℕ) (rows : List Shared) (accounts : List OpenAccount) (i : ℕ) (a b : OpenAccount) (d : OpenDesk)
    → IsDesk places common count today rows accounts → open_desk today rows accounts ≡ d → i < length accounts → b ≡ get_or accounts i b → IsTold today common b a → OnOk result (HasTold today common b a)
    → MovesToTell (Some i) result d (open_desk today rows (set accounts i a))
tells-moves result places common count today rows accounts i a b d desk view low is told has = record {
  answered = on_ok_weaker result (λ (h : HasTold today common b a). one-moves rows today accounts i a d (λ day. day ≡ d.state.today) view low (h.reached ∙ ap (λ (x : OpenDesk). x.state.today) view)) has;
  wanting = on-any-err result (OneStays (Some i) d (open_desk today rows (set accounts i a))) (told-moves places common count today rows accounts i a b d desk view low is told);
}

-- by its name
pub named-moves : {T E : Type 0} (result : Result T E) (d new : OpenDesk) (name : List ℕ) (i : ℕ) → place_from name 0 d.state.accounts ≡ Some i → MovesToTell (Some i) result d new → MovesNamed name result d new
named-moves result d new name i place h = subst (λ (o : Option ℕ). MovesToTell o result d new) (sym place) h

pub absent-moves : {T E : Type 0} (result : Result T E) (d new : OpenDesk) (name : List ℕ) → place_from name 0 d.state.accounts ≡ None → NoneMoves d new → MovesNamed name result d new
absent-moves result d new name absent h =
    subst (λ (o : Option ℕ). MovesToTell o result d new) (sym absent) (record { answered = on-any result (NoneMoves d new) h; wanting = on-any-err result (NoneMoves d new) h })

-- no answer came
pub wanting-moves : {T E : Type 0} (result : Result T E) (place : Option ℕ) (d new : OpenDesk) → IsErr result → OneStays place d new → MovesToTell place result d new
wanting-moves (Ok x) place d new is h = absurd (cc)
wanting-moves (Err e) place d new is h = record { answered = tt; wanting = h }

pub answered-moves : {T E : Type 0} (x : T) (place : Option ℕ) (d new : OpenDesk) → OneReaches place d new → MovesToTell {T = T} {E = E} place (Ok x) d new
answered-moves x place d new h = record { answered = h; wanting = tt }

-- ---- all accounts
all-days : (today : ℕ) (accounts : List OpenAccount) → All (λ (a : OpenAccount). a.folding.reached ≡ today) accounts → All (λ (day : ℕ). day ≡ today) (reached_all accounts)
all-days today [] h = All-nil (λ (day : ℕ). day ≡ today)
all-days today (a ∷ rest) h =
    All-cons (λ (day : ℕ). day ≡ today) a.folding.reached (reached_all rest) (All-head (λ (x : OpenAccount). x.folding.reached ≡ today) a rest h)
    (all-days today rest (All-tail (λ (x : OpenAccount). x.folding.reached ≡ today) a rest h))

each-stays : (today : ℕ) (common : SharedRows) (xs ys : List OpenAccount) → All (IsAccount today common) xs → length ys ≡ length xs → ((i : ℕ) (d : OpenAccount) → i < length xs → IsTold today common (get_or xs i d) (get_or ys i d))
    → (i : ℕ) → i < length xs → StaysOrIsToday today (get_or (reached_all xs) i 0) (get_or (reached_all ys) i 0)
each-stays today common [] ys stand count h i low = absurd (omega (arith, low))
each-stays today common (x ∷ xs) [] stand count h i low = absurd (omega (arith, count))
each-stays today common (x ∷ xs) (y ∷ ys) stand count h zero low = stays-told today common x y (All-head (IsAccount today common) x xs stand) (h 0 x low)
each-stays today common (x ∷ xs) (y ∷ ys) stand count h (suc i) low =
    each-stays today common xs ys (All-tail (IsAccount today common) x xs stand) (omega (arith, count)) (λ k d l. h (suc k) d (omega (arith, l))) i (omega (arith, low))

pub all-move : {T E : Type 0} (result : Result T E) (places : List (List ℕ × ℕ)) (common : SharedRows) (count today : ℕ) (rows : List Shared) (xs ys : List OpenAccount) (d : OpenDesk)
    → IsDesk places common count today rows xs → open_desk today rows xs ≡ d → AreTold today common xs ys → OnOk result (All (λ (a : OpenAccount). a.folding.reached ≡ today) ys)
    → AllMove result d (open_desk today rows ys)
all-move result places common count today rows xs ys d desk view told has =
    let new = open_desk today rows ys in
    subst (λ (x : OpenDesk). AllMove result x new) view (record {
      answered = on_ok_weaker result (all-days today ys) has;
      count = length-map ys (λ (x : OpenAccount). x.folding.reached) ∙ (told.count ∙ sym (length-map xs (λ (x : OpenAccount). x.folding.reached)));
      each = λ i l. each-stays today common xs ys desk.accounts told.count told.each i (let long = length-map xs (λ (x : OpenAccount). x.folding.reached) in omega (arith, l, long));
    })

pub all-wanting : {T E U F : Type 0} (x : Result T E) (result : Result U F) (d new : OpenDesk) → IsErr result → AllMove x d new → AllMove result d new
all-wanting x (Ok y) d new is h = absurd (cc)
all-wanting x (Err e) d new is h = record { answered = tt; count = h.count; each = h.each }

-- ---- a post
pub done-moves : {T E : Type 0} (x : T) (place : Option ℕ) (o : Outcome) (d new : OpenDesk) → MovesBy place o d new → MovesOn {T = T} {E = E} place o (Ok x) d new
done-moves x place o d new h = record { done = h; failed = tt }

pub failed-moves : {T E : Type 0} (result : Result T E) (place : Option ℕ) (o : Outcome) (d new : OpenDesk) → IsErr result → OneStays place d new → MovesOn place o result d new
failed-moves (Ok x) place o d new is h = absurd (cc)
failed-moves (Err e) place o d new is h = record { done = tt; failed = h }

-- the account at a place stays as it is
pub none-moves : (d : OpenDesk) (i : ℕ) → OneStays (Some i) d d
none-moves d i = record { own = record { either = inr refl; forward = omega arith }; others = sym (set-get_or d.reached i 0) }

-- refused, or a repeat
pub refused-moves : (d new : OpenDesk) (i : ℕ) (o : Outcome) (r : Refusal) → o ≡ Refuses r → OneStays (Some i) d new → MovesBy (Some i) o d new
refused-moves d new i o r is h = subst (λ (x : Outcome). MovesBy (Some i) x d new) (sym is) (record { own = h.own; others = h.others })

pub repeated-moves : (d new : OpenDesk) (i : ℕ) (o : Outcome) (n : ℕ) → o ≡ Repeats n → OneStays (Some i) d new → MovesBy (Some i) o d new
repeated-moves d new i o n is h = subst (λ (x : Outcome). MovesBy (Some i) x d new) (sym is) (record { own = h.own; others = h.others })

-- accepted: it was told of, and then took the post
pub posted-moves : (places : List (List ℕ × ℕ)) (common : SharedRows) (count today : ℕ) (rows : List Shared) (accounts : List OpenAccount) (i : ℕ) (a x b : OpenAccount) (d : OpenDesk) (name key : List ℕ) (p : Post)
    → IsDesk places common count today rows accounts → open_desk today rows accounts ≡ d → i < length accounts → b ≡ get_or accounts i b
    → outcome_in (state_of today rows accounts) name key p ≡ Accepts a.named.lists → AreRunning (state_of today rows accounts) a.named.lists → IsTold today common b x
    → StaysNear today common x.named.lists a.named.lists x.folding.reached a.folding.reached
    → MovesBy (Some i) (outcome_in d.state name key p) d (open_desk today rows (set accounts i a))
posted-moves places common count today rows accounts i a x b d name key p desk view low is accepts running told near =
    let s = state_of today rows accounts in
    let here = open_desk today rows accounts in
    let new = a.named.lists in
    let stays = stays-told today common b x (account_at places common count today rows accounts i b desk low is) told in
    let own = subst (λ (n : NamedAccount). StaysNear today common n.lists new x.folding.reached a.folding.reached) told.named near in
    let one = subst (λ (y : OpenAccount). AreAlike today y.named.lists common (shared_rows rows)) (sym is) (alike_at places common count today rows accounts i b desk low) in
    let two = alike_run s new common running desk.holidays desk.table desk.index_rows in
    let same = near-same today b.named.lists new common (shared_rows rows) b.folding.reached a.folding.reached one two (then-near today common b.named.lists new b.folding.reached x.folding.reached a.folding.reached stays.forward own) in
    let there = subst (λ (y : ReachedLists). IsDayAfter s y (Accepts new) a.folding.reached) (sym (there_is rows today accounts i b low is)) same in
    let by = subst (λ (o : Outcome). IsDayAfter s (reached_there here i) o a.folding.reached) (sym accepts) there in
    one-moves rows today accounts i a d (IsDayAfter d.state (reached_there d i) (outcome_in d.state name key p)) view low
    (subst (λ (e : OpenDesk). IsDayAfter e.state (reached_there e i) (outcome_in e.state name key p) a.folding.reached) view by)

-- one call after the other on the account at a place
on-and-on : (d mid new : OpenDesk) (i : ℕ) → mid.reached ≡ set d.reached i (day_there mid i) → new.reached ≡ set mid.reached i (day_there new i) → new.reached ≡ set d.reached i (day_there new i)
on-and-on d mid new i e f = f ∙ (ap (λ (l : List ℕ). set l i (day_there new i)) e ∙ set-set d.reached i (day_there mid i) (day_there new i))

-- judged, and then kept
pub judged-moves : {T E : Type 0} (result : Result T E) (d mid new : OpenDesk) (name key : List ℕ) (p : Post) (i : ℕ) (l : Lists) → mid.state ≡ d.state → outcome_in d.state name key p ≡ Accepts l → OneStays (Some i) d mid
    → MovesOn (Some i) (outcome_in mid.state name key p) result mid new → MovesOn (Some i) (outcome_in d.state name key p) result d new
judged-moves result d mid new name key p i l state accepts judged kept = record {
  done = on_ok_weaker result done kept.done;
  failed = on_err_weaker result failed kept.failed;
}
  where
    none : NamedAccount
    none = record { name = []; lists = record { posts = []; issued = [] } }

    same : (reached_there mid i).lists ≡ (reached_there d i).lists
    same = ap (λ (x : State). (get_or x.accounts i none).lists) state

    done : MovesBy (Some i) (outcome_in mid.state name key p) mid new → MovesBy (Some i) (outcome_in d.state name key p) d new
    done h =
        let there = reached_there mid i in
        let day = day_there new i in
        let rows = shared_rows d.state.shared in
        let by = subst (λ (x : State). IsDayAfter x there (outcome_in x name key p) day) state h.own in
        let near = subst (λ (o : Outcome). IsDayAfter d.state there o day) accepts by in
        let own = subst (λ (x : Lists). StaysNear d.state.today rows x l there.reached day) same near in
        let all = then-near d.state.today rows (reached_there d i).lists l (day_there d i) there.reached day judged.own.forward own in
        record {
          own = subst (λ (o : Outcome). IsDayAfter d.state (reached_there d i) o day) (sym accepts) all;
          others = on-and-on d mid new i judged.others h.others;
        }

    failed : OneStays (Some i) mid new → OneStays (Some i) d new
    failed h = record {
      own = then-stays d.state.today (day_there d i) (day_there mid i) (day_there new i) judged.own (subst (λ (x : State). StaysOrIsToday x.today (day_there mid i) (day_there new i)) state h.own);
      others = on-and-on d mid new i judged.others h.others;
    }

-- ---- an account that is opened
pub opened-moves : (rows : List Shared) (today : ℕ) (accounts list : List OpenAccount) (made : OpenAccount) (d : OpenDesk) (o : Outcome) (l : Lists) → open_desk today rows accounts ≡ d → list ≡ accounts ++ made ∷ []
    → made.folding.reached + 1 ≡ (anchor_of l.posts).opened → o ≡ Accepts l → MovesBy None o d (open_desk today rows list)
opened-moves rows today accounts list made d o l view is before accepts =
    let new = open_desk today rows list in
    let reached : made.folding.reached ≡ day_before_opening l = omega (arith, before) in
    let grown : reached_all list ≡ reached_all accounts ++ made.folding.reached ∷ [] = ap reached_all is ∙ map-append (λ (x : OpenAccount). x.folding.reached) accounts (made ∷ []) in
    subst (λ (x : Outcome). MovesByOpen x d new) (sym accepts)
    (grown ∙ (ap (λ (n : ℕ). reached_all accounts ++ n ∷ []) reached ∙ ap (λ (x : OpenDesk). x.reached ++ day_before_opening l ∷ []) view))

-- one that isn't there, and stays away
pub away-moves : (d : OpenDesk) (o : Outcome) (r : Refusal) → o ≡ Refuses r → MovesBy None o d d
away-moves d o r is = subst (λ (x : Outcome). MovesByOpen x d d) (sym is) refl

-- ---- by the account's name
pub named-applied : {T E : Type 0} (result : Result T E) (d new : OpenDesk) (name key : List ℕ) (p : Post) (place : Option ℕ) → place_from name 0 d.state.accounts ≡ place → MovesOn place (outcome_in d.state name key p) result d new
    → MovesToApply (request.Post name key p) result d new
unfolding MovesToApply
named-applied result d new name key p place is h = subst (λ (o : Option ℕ). MovesOn o (outcome_in d.state name key p) result d new) (sym is) h

pub shared-applied : {T E : Type 0} (result : Result T E) (d new : OpenDesk) (r : Shared) → NoneMoves d new → MovesToApply (request.Shared r) result d new
unfolding MovesToApply
shared-applied result d new r h = h
