-- What stays of an account's entries after a request, and after it was told of.
use Rattle.std.proofs.Common.{◌≡◌, ℕ, ◌≤◌, List, [], Option, Some, Result, Ok, Err, take, length, get_or, set, ap, refl, sym, subst, ◌∙◌, arith}
use Rattle.std.specs.Prelude.{IfOk, OnErr}
use Rattle.std.proofs.lemmas.List.{get_or-set_same, length-take, take-append-le}
use Rattle.card_account.specs.Verdicts.{verdict_of}
use Rattle.card_desk.proofs.OutcomeLemmas.{known_outcome, new_at_key}
use Rattle.card_desk.proofs.PlaceLemmas.{is_place}
use Rattle.card_desk.specs.Applied as applied
use Rattle.card_desk.specs.Desks.{OpenDesk}
use Rattle.card_desk.specs.Places.{place_from}
use Rattle.card_desk.specs.Reached.{IsDayAfter, MovesOn, MovesToApply, MovesToTell, day_there}
use Rattle.card_desk.specs.Recorded.{AreStanding, entries_on, entries_there}
use Rattle.card_desk.specs.Steps.{reached_there}
use Rattle.card_desk.specs.declared.fault.Fault.{Fault}
use Rattle.card_events.specs.Keys.{with_key}
use Rattle.card_events.specs.SharedRows.{shared_rows}
use Rattle.card_events.specs.declared.post.Post.{Post}
use Rattle.card_events.specs.declared.reply.Reply.{Reply}
use Rattle.card_events.specs.declared.request.Request.{Request}
use Rattle.card_events.specs.declared.request.Request.TheVariants as request
use Rattle.card_events.specs.declared.request.Shared.{Shared}
use Rattle.card_model.specs.Folds.{book}
use Rattle.card_model.specs.Machine.{Accepts, NamedAccount, Outcome, Refuses, Repeats, State, accepted, lists_of, outcome_in, step, with_lists, with_outcome}
use Rattle.card_model.specs.Refusals.{Lists}
use Rattle.card_model.specs.Work.{present_in}
use Rattle.card_model.specs.declared.entry.Entry.{Entry}
use Rattle.card_ports.specs.declared.row.Row.{Row}
use Rattle.card_replay.proofs.EntryDays.{entries-grow}
use Rattle.card_replay.specs.Replays.{given_of}

-- the entries of a later day begin with those of an earlier one
later-front : (s : State) (lists : Lists) (x y n : ℕ) → x ≤ y → n ≤ length (entries_on s lists x) → take n (entries_on s lists y) ≡ take n (entries_on s lists x)
unfolding entries_on
later-front s lists x y n l within =
    let more = entries-grow (given_of lists (shared_rows s.shared)) x y l in
    ap (take n) more.1 ∙ take-append-le n (entries_on s lists x) more.0 within

-- ---- where the state stays
same-front : (d new : OpenDesk) (i n : ℕ) → new.state ≡ d.state → day_there d i ≤ day_there new i → n ≤ length (entries_there d i) → take n (entries_there new i) ≡ take n (entries_there d i)
same-front d new i n same forward within =
    let none : NamedAccount = record { name = []; lists = record { posts = []; issued = [] } } in
    ap (λ (s : State). take n (entries_on s (get_or s.accounts i none).lists (day_there new i))) same ∙ later-front d.state (reached_there d i).lists (day_there d i) (day_there new i) n forward within

-- ---- where a post is accepted
-- what is accepted
accepted-is : (s : State) (name key : List ℕ) (p : Post) (lists l : Lists) → lists_of name s.accounts ≡ Some lists → outcome_in s name key p ≡ Accepts l → l ≡ accepted (present_in s lists) key p
accepted-is s name key p lists l there is =
    let known = known_outcome s name key p lists there in
    let all = known ∙ new_at_key (present_in s lists) key p (with_key key lists.posts) (ap verdict_of (sym is ∙ known)) in
    let same : Accepts l ≡ Accepts (accepted (present_in s lists) key p) = sym is ∙ all in
    cc

under-rows : (s t : State) (l : Lists) (day n : ℕ) → t.shared ≡ s.shared → take n (entries_on t l day) ≡ take n (entries_on s l day)
unfolding entries_on
under-rows s t l day n same = ap (λ (rows : List Shared). take n (book l.posts l.issued (shared_rows rows) day).entries) same

taken-front : (d new : OpenDesk) (name key : List ℕ) (p : Post) (i n : ℕ) (l : Lists) → place_from name 0 d.state.accounts ≡ Some i → AreStanding n i p d
    → new.state ≡ record { today = d.state.today; shared = d.state.shared; accounts = with_lists name l d.state.accounts } → outcome_in d.state name key p ≡ Accepts l
    → IsDayAfter d.state (reached_there d i) (Accepts l) (day_there new i) → take n (entries_there new i) ≡ take n (entries_there d i)
taken-front d new name key p i n l place stands state is after =
    let none : NamedAccount = record { name = []; lists = record { posts = []; issued = [] } } in
    let here = is_place name d.state.accounts i place in
    let a : NamedAccount = record { name = (get_or d.state.accounts i none).name; lists = l } in
    let accounts : new.state.accounts ≡ set d.state.accounts i a = ap (λ (s : State). s.accounts) state ∙ here.change l none in
    let lists : (get_or new.state.accounts i none).lists ≡ l =
    ap (λ (xs : List NamedAccount). (get_or xs i none).lists) accounts ∙ ap (λ (x : NamedAccount). x.lists) (get_or-set_same d.state.accounts i a none here.bound) in
    ap (λ (x : Lists). take n (entries_on new.state x (day_there new i))) lists
    ∙ (under-rows d.state new.state l (day_there new i) n (ap (λ (s : State). s.shared) state)
    ∙ stands.stay key l (day_there new i) (accepted-is d.state name key p (reached_there d i).lists l (here.there none) is) after)

-- ---- by what a post comes to
by-outcome : (d new : OpenDesk) (name key : List ℕ) (p : Post) (i n : ℕ) (o : Outcome) → place_from name 0 d.state.accounts ≡ Some i → AreStanding n i p d → outcome_in d.state name key p ≡ o
    → new.state ≡ (with_outcome d.state name o).0 → IsDayAfter d.state (reached_there d i) o (day_there new i) → take n (entries_there new i) ≡ take n (entries_there d i)
by-outcome d new name key p i n (Refuses r) place stands is state after = same-front d new i n state after.forward stands.within
by-outcome d new name key p i n (Repeats m) place stands is state after = same-front d new i n state after.forward stands.within
by-outcome d new name key p i n (Accepts l) place stands is state after = taken-front d new name key p i n l place stands state is after

by-result : (rows_old rows_new : Option (List Row)) (d new : OpenDesk) (name key : List ℕ) (p : Post) (i n : ℕ) (result : Result Reply Fault) → place_from name 0 d.state.accounts ≡ Some i → AreStanding n i p d
    → IfOk result (applied.Steps rows_old rows_new d.state (request.Post name key p) new.state) → OnErr result (new.state ≡ d.state) → MovesOn (Some i) (outcome_in d.state name key p) result d new
    → take n (entries_there new i) ≡ take n (entries_there d i)
unfolding step
by-result rows_old rows_new d new name key p i n (Ok reply) place stands ok err moves =
    by-outcome d new name key p i n (outcome_in d.state name key p) place stands refl (ap (λ (x : State × Reply). x.0) ok.step_is) moves.done.own
by-result rows_old rows_new d new name key p i n (Err fault) place stands ok err moves = same-front d new i n err moves.failed.own.forward stands.within

-- of what was read before a request, and after it
pub applied-front : (rows_old rows_new : Option (List Row)) (d new : OpenDesk) (r : Request) (name key : List ℕ) (p : Post) (i n : ℕ) (result : Result Reply Fault) (es fs : List Entry) → r ≡ request.Post name key p
    → place_from name 0 d.state.accounts ≡ Some i → AreStanding n i p d → IfOk result (applied.Steps rows_old rows_new d.state r new.state) → OnErr result (new.state ≡ d.state) → MovesToApply r result d new
    → es ≡ entries_there d i → fs ≡ entries_there new i → take n fs ≡ take n es
unfolding MovesToApply
applied-front rows_old rows_new d new r name key p i n result es fs is place stands ok err moves old now =
    ap (take n) now
    ∙ (by-result rows_old rows_new d new name key p i n result place stands (subst (λ (x : Request). IfOk result (applied.Steps rows_old rows_new d.state x new.state)) is ok) err
    (subst (λ (o : Option ℕ). MovesOn o (outcome_in d.state name key p) result d new) place (subst (λ (x : Request). MovesToApply x result d new) is moves))
    ∙ ap (take n) (sym old))

-- an account that was told of is nowhere behind
told-forward : {T E : Type 0} (d new : OpenDesk) (i : ℕ) (result : Result T E) → day_there d i ≤ d.state.today → MovesToTell (Some i) result d new → day_there d i ≤ day_there new i
told-forward d new i (Ok y) dated m = let own = m.answered.own in omega (arith, own, dated)
told-forward d new i (Err e) dated m = m.wanting.own.forward

-- of what was read before it was told of, and after that
pub told-front : {T E : Type 0} (d new : OpenDesk) (i : ℕ) (result : Result T E) (es fs : List Entry) → new.state ≡ d.state → day_there d i ≤ d.state.today → MovesToTell (Some i) result d new
    → es ≡ entries_there d i → fs ≡ entries_there new i → take (length es) fs ≡ take (length es) es
told-front d new i result es fs same dated moves old now =
    ap (take (length es)) now
    ∙ (same-front d new i (length es) same (told-forward d new i result dated moves) (omega (arith, ap (λ (l : List Entry). length l) old)) ∙ ap (take (length es)) (sym old))

-- so there are as many
pub as-many : (n : ℕ) (es fs : List Entry) → n ≤ length es → take n fs ≡ take n es → n ≤ length fs
as-many n es fs within front = omega (arith, within, length-take n fs, length-take n es, ap (λ (l : List Entry). length l) front)
