-- The steps of a desk with the account of the cases alone, four years on, as it takes a charge of today.
use Rattle.std.proofs.Common.{◌≡◌, ℕ, ◌+◌, ◌*◌, ◌-◌, ◌≤◌, true, false, ◌||◌, min, nat_le, Option, Some, None, Result, Ok, Err, List, [], ◌∷◌, set, refl, sym, ap, ◌∙◌, subst, arith}
use Rattle.std.proofs.lemmas.Bool.Decides.{nat_tests}
use Rattle.std.specs.Prelude.{OnOk}
use Rattle.card_book.proofs.StepCounts.{steps_add_up}
use Rattle.card_book.specs.Stands.{steps_over}
use Rattle.card_book.specs.StepCounts.{breaks_from, breaks_with}
use Rattle.card_cases.proofs.Alone.{breaks_by}
use Rattle.card_cases.specs.Aged.{HasReachedNear, account, charged, first_day, first_key, first_rolls, late_charge, later_rolls, ledger, lists_of, opened, rolls, second_key}
use Rattle.card_cases.specs.Account.{opening}
use Rattle.card_cases.specs.Alone.{no_rows}
use Rattle.card_daily.specs.Given.{Given, book_on}
use Rattle.card_desk.specs.Desks.{OpenDesk}
use Rattle.card_desk.specs.Kept.{Fits, posts_in}
use Rattle.card_desk.specs.Places.{place_from}
use Rattle.card_desk.specs.Reached.{MovesBy, MovesOn, MovesToApply, OneReaches, day_there}
use Rattle.card_desk.specs.Steps.{AreFewOn, AreFewToApply, AreFewToPost, AreFewToTell, ReachedLists, reached_at, reached_of}
use Rattle.card_events.specs.Dated.{is_dated, is_dated_post, is_dated_shared}
use Rattle.card_events.specs.History.{anchor_of, corrected}
use Rattle.card_events.specs.Range.{last_request_day}
use Rattle.card_events.specs.declared.kept.Kept.{Kept}
use Rattle.card_events.specs.declared.post.Place.TheVariants as place
use Rattle.card_events.specs.declared.post.Post.{Post}
use Rattle.card_events.specs.declared.post.Post.TheVariants as post
use Rattle.card_events.specs.declared.request.Request.{Request}
use Rattle.card_events.specs.declared.request.Request.TheVariants as request
use Rattle.card_events.specs.declared.request.Shared.{Shared}
use Rattle.card_events.specs.declared.request.Shared.TheVariants as shared
use Rattle.card_model.specs.Breaks.{breaks_among}
use Rattle.card_model.specs.Everything.{everything}
use Rattle.card_model.specs.Machine.{Accepts, Outcome, State, outcome_in, start, step}
use Rattle.card_model.specs.Spans.{steps_among}
use Rattle.card_model.specs.declared.entry.Entry.{Entry}
use Rattle.card_model.specs.declared.segment.Interval.{Interval}
use Rattle.card_ports.specs.Rows.{next_after}
use Rattle.card_ports.specs.declared.row.Row.{Row}
use Rattle.card_posts.specs.Change.{on, up_to}
use Rattle.card_replay.specs.Replays.{given_of}
use Rattle.card_replay.specs.Steps.{IsFirstBetween, breaks_changed, first_in_cycle}

abbrev given_opened : Given
given_opened = given_of (lists_of opened) no_rows

abbrev given_charged : Given
given_charged = given_of (lists_of charged) no_rows

-- ---- how the state goes on
empty-fits : Fits (Some []) start
unfolding next_after posts_in
empty-fits = refl

pub fits-first : (rows : List Row) (s : State) → rows ≡ [] → s ≡ start → Fits (Some rows) s
fits-first rows s none first = subst (λ (x : State). Fits (Some rows) x) (sym first) (subst (λ (l : List Row). Fits (Some l) start) (sym none) empty-fits)

abbrev rolled : State → ℕ → State
rolled s day = (step s (request.Shared (shared.Roll day))).0

rolls-first : rolled start 19728 ≡ first_day
unfolding everything
rolls-first = refl

pub first-rolled : (s : State) (day : ℕ) → s ≡ start → day ≡ 19728 → rolled s day ≡ first_day
first-rolled s day e d = ap (λ (x : State). rolled x day) e ∙ (ap (rolled start) d ∙ rolls-first)

opened-first : (step first_day (request.Post account first_key opening)).0 ≡ ledger 19728 first_rolls opened
unfolding everything
opened-first = refl

pub opened-is : (s : State) (r : Request) (key : List ℕ) (p : Post) → s ≡ first_day → r ≡ request.Post account key p → key ≡ first_key → p ≡ opening → (step s r).0 ≡ ledger 19728 first_rolls opened
opened-is s r key p state is k post =
    ap (λ (x : State). (step x r).0) state
    ∙ (ap (λ (q : Request). (step first_day q).0) (is ∙ (ap (λ (l : List ℕ). request.Post account l p) k ∙ ap (request.Post account first_key) post)) ∙ opened-first)

ages : rolled (rolled (rolled (rolled (ledger 19728 first_rolls opened) 20094) 20460) 20826) 21186 ≡ ledger 21186 rolls opened
unfolding everything
ages = refl

pub aged-is : (s a b c d : State) (i j k l : ℕ) → s ≡ ledger 19728 first_rolls opened → i ≡ 20094 → j ≡ 20460 → k ≡ 20826 → l ≡ 21186 → a ≡ rolled s i → b ≡ rolled a j → c ≡ rolled b k → d ≡ rolled c l → d ≡ ledger 21186 rolls opened
aged-is s a b c d i j k l state di dj dk dl e f g h =
    h ∙ (ap (rolled c) dl ∙ (ap (λ (x : State). rolled x 21186) (g ∙ (ap (rolled b) dk ∙ ap (λ (x : State). rolled x 20826) (f ∙ (ap (rolled a) dj ∙ ap (λ (x : State). rolled x 20460) (e ∙ (ap (rolled s) di ∙ ap (λ (x : State). rolled x 20094) state)))))) ∙ ages))

rolls-next : rolled (ledger 21186 rolls opened) 21187 ≡ ledger 21187 later_rolls opened
unfolding everything
rolls-next = refl

pub next-is : (s : State) (day : ℕ) → s ≡ ledger 21186 rolls opened → day ≡ 21187 → rolled s day ≡ ledger 21187 later_rolls opened
next-is s day e d = ap (λ (x : State). rolled x day) e ∙ (ap (rolled (ledger 21186 rolls opened)) d ∙ rolls-next)

charged-is : (step (ledger 21187 later_rolls opened) (request.Post account second_key late_charge)).0 ≡ ledger 21187 later_rolls charged
unfolding everything
charged-is = refl

-- the request of the charge
pub charge-of : (r : Request) (key : List ℕ) (day cents : ℕ) → r ≡ request.Post account key (post.Charge day place.Purchase cents) → key ≡ second_key → day ≡ 21187 → cents ≡ 5000 → r ≡ request.Post account second_key late_charge
charge-of r key day cents is k d n =
    is
    ∙ (ap (λ (l : List ℕ). request.Post account l (post.Charge day place.Purchase cents)) k
    ∙ (ap (λ (x : ℕ). request.Post account second_key (post.Charge x place.Purchase cents)) d ∙ ap (λ (x : ℕ). request.Post account second_key (post.Charge 21187 place.Purchase x)) n))

pub takes-charge : (s : State) (r : Request) → s ≡ ledger 21187 later_rolls opened → r ≡ request.Post account second_key late_charge → (step s r).0 ≡ ledger 21187 later_rolls charged
takes-charge s r state is = ap (λ (x : State). (step x r).0) state ∙ (ap (λ (q : Request). (step (ledger 21187 later_rolls opened) q).0) is ∙ charged-is)

accepts : outcome_in (ledger 21187 later_rolls opened) account second_key late_charge ≡ Accepts (lists_of charged)
unfolding everything
accepts = refl

accepts-first : outcome_in first_day account first_key opening ≡ Accepts (lists_of opened)
unfolding everything
accepts-first = refl

-- ---- the days of the requests
pub dated-roll : (day : ℕ) → day ≤ last_request_day → is_dated (request.Shared (shared.Roll day)) ≡ true
unfolding is_dated is_dated_shared
dated-roll day low = grind (arith, nat_tests, low)

pub dated-opening : (r : Request) (key : List ℕ) (p : Post) → r ≡ request.Post account key p → p ≡ opening → is_dated r ≡ true
unfolding is_dated is_dated_post
dated-opening r key p is post = ap is_dated (is ∙ ap (request.Post account key) post)

pub dated-charge : (r : Request) → r ≡ request.Post account second_key late_charge → is_dated r ≡ true
unfolding is_dated is_dated_post
dated-charge r is = ap is_dated is

-- ---- the account's place
place-is : (today : ℕ) (rows : List Shared) (posts : List Kept) → place_from account 0 (ledger today rows posts).accounts ≡ Some 0
unfolding place_from
place-is today rows posts = refl

-- ---- the first day that the charge changes
none-before : (day : ℕ) → nat_le 21187 day ≡ false → up_to day (corrected (anchor_of charged) [] charged) ≡ up_to day (corrected (anchor_of opened) [] opened)
unfolding everything
none-before day e = rw e refl

differs : on 21187 (corrected (anchor_of charged) [] charged) ≡ on 21187 (corrected (anchor_of opened) [] opened) → ⊥
unfolding everything
differs e = cc

first-changed : IsFirstBetween no_rows (lists_of opened) (lists_of charged) 21187
first-changed = record {
  before = λ day l. none-before day (let late : nat_le 21187 day ≡ false = grind (arith, nat_tests) in late);
  differs = differs;
}

-- and the first day of its cycle
cycle-begins : first_in_cycle (anchor_of opened) 21187 ≡ 21158
unfolding everything
cycle-begins = refl

-- ---- break days
none-opened : (book_on given_opened 21187).penalties ≡ []
unfolding everything
none-opened = refl

none-charged : (book_on given_charged 21187).penalties ≡ []
unfolding everything
none-charged = refl

-- by the penalties before the charge and after it, of which there are none
abbrev breaks_beside : ℕ → List Interval → List Interval → ℕ
breaks_beside first before after = breaks_among (λ day. breaks_by given_opened before day || breaks_by given_charged after day) first (21187 + 1 - first)

two-beside : breaks_beside 21158 [] [] ≡ 2
unfolding everything
two-beside = refl

two-breaks : breaks_with given_opened given_charged 21158 21187 ≡ 2
two-breaks = ap (λ p. breaks_beside 21158 p (book_on given_charged 21187).penalties) none-opened ∙ (ap (breaks_beside 21158 []) none-charged ∙ two-beside)

abbrev breaks_twice : List Interval → ℕ
breaks_twice p = breaks_among (λ day. breaks_by given_charged p day || breaks_by given_charged p day) 21157 31

three-twice : breaks_twice [] ≡ 3
unfolding everything
three-twice = refl

-- from the last closing on there are three
three-breaks : (day : ℕ) → 21157 ≤ day → breaks_from given_charged day 21187 ≤ 3
three-breaks day low =
    let here = steps_add_up.before given_charged given_charged day 21187 in
    let wider = steps_add_up.wider given_charged given_charged 21157 day 21187 low in
    let count = ap breaks_twice none-charged ∙ three-twice in
    within (breaks_from given_charged day 21187) (breaks_with given_charged given_charged day 21187) (breaks_with given_charged given_charged 21157 21187) here wider count
  where
    within : (a b c : ℕ) → a ≤ b → b ≤ c → c ≡ 3 → a ≤ 3
    within a b c l m e = omega (arith, l, m, e)

-- and from the opening day on there are 96 steps
abbrev steps_by : List Interval → ℕ
steps_by p = steps_among (breaks_by given_charged p) 19728 21187

all-steps : steps_by [] ≡ 96
unfolding everything
all-steps = refl

pub whole : steps_over given_charged 21187 19728 ≡ 96
whole = ap steps_by none-charged ∙ all-steps

-- ---- the charge
abbrev before_charge : OpenDesk → OpenDesk
before_charge d = record { state = ledger 21187 later_rolls opened; reached = 21186 ∷ []; recorded = d.recorded; unmade = d.unmade }

desk-is : (d : OpenDesk) (s : State) (days : List ℕ) → d.state ≡ s → d.reached ≡ days → d ≡ record { state = s; reached = days; recorded = d.recorded; unmade = d.unmade }
desk-is d s days e f = ap (λ (x : State). record { state = x; reached = d.reached; recorded = d.recorded; unmade = d.unmade }) e ∙ ap (λ (l : List ℕ). record { state = s; reached = l; recorded = d.recorded; unmade = d.unmade }) f

abbrev reached_before : ReachedLists
reached_before = record { lists = lists_of opened; reached = 21186 }

six-at : (d : OpenDesk) (before after : ℕ) → AreFewToApply (before_charge d) (request.Post account second_key late_charge) before after → after ≤ before + 6
unfolding AreFewToApply
six-at d before after few =
    let s = ledger 21187 later_rolls opened in
    let placed = subst (λ (o : Option ℕ). AreFewOn s (reached_at (before_charge d) o) (outcome_in s account second_key late_charge) before after) (place-is 21187 later_rolls opened) few in
    let most = subst (λ (o : Outcome). AreFewToPost s reached_before o before after) accepts placed in
    let first : breaks_changed 21187 no_rows (lists_of opened) (lists_of charged) 21186 21187 ≡ 2 = ap (λ (n : ℕ). breaks_with given_opened given_charged (min n 21186) 21187) cycle-begins ∙ two-breaks in
    least before after (breaks_changed 21187 no_rows (lists_of opened) (lists_of charged) 21186 21187) (most 21187 first-changed) first
  where
    least : (before after n : ℕ) → after ≤ before + (2 * n + 2) → n ≡ 2 → after ≤ before + 6
    least before after n l e = omega (arith, l, e)

pub six : (d : OpenDesk) (r : Request) (before after : ℕ) → d.state ≡ ledger 21187 later_rolls opened → d.reached ≡ 21186 ∷ [] → r ≡ request.Post account second_key late_charge → AreFewToApply d r before after → after ≤ before + 6
six d r before after state reached is few =
    six-at d before after (subst (λ (q : Request). AreFewToApply (before_charge d) q before after) is (subst (λ (x : OpenDesk). AreFewToApply x r before after) (desk-is d (ledger 21187 later_rolls opened) (21186 ∷ []) state reached) few))

-- where the account is then
near-by : (d : OpenDesk) (new : OpenDesk) → MovesBy (Some 0) (Accepts (lists_of charged)) (before_charge d) new → HasReachedNear new.reached
near-by d new h =
    let low = subst (λ (n : ℕ). min n 21187 ≤ day_there new 0 + 1) cycle-begins (h.own.near 21187 first-changed) in
    let last = h.own.last in
    record { day = day_there new 0; is = h.others; first = omega (arith, low); last = last }

near-then : {T : Type 0} (E : Type 0) (x : T) (d new : OpenDesk) (r : Request) → d.state ≡ ledger 21187 later_rolls opened → d.reached ≡ 21186 ∷ [] → r ≡ request.Post account second_key late_charge
    → MovesToApply {T = T} {E = E} r (Ok x) d new → HasReachedNear new.reached
unfolding MovesToApply
near-then {T} E x d new r state reached is moves =
    let s = ledger 21187 later_rolls opened in
    let there = subst (λ (y : OpenDesk). MovesToApply {T = T} {E = E} r (Ok x) y new) (desk-is d s (21186 ∷ []) state reached) moves in
    let post = subst (λ (q : Request). MovesToApply {T = T} {E = E} q (Ok x) (before_charge d) new) is there in
    let placed = subst (λ (o : Option ℕ). MovesOn {T = T} {E = E} o (outcome_in s account second_key late_charge) (Ok x) (before_charge d) new) (place-is 21187 later_rolls opened) post in
    near-by d new (subst (λ (o : Outcome). MovesBy (Some 0) o (before_charge d) new) accepts placed.done)

pub near : {T E : Type 0} (result : Result T E) (d new : OpenDesk) (r : Request) → d.state ≡ ledger 21187 later_rolls opened → d.reached ≡ 21186 ∷ [] → r ≡ request.Post account second_key late_charge
    → OnOk result (MovesToApply r result d new) → OnOk result (HasReachedNear new.reached)
near (Ok x) d new r state reached is moves = near-then _ x d new r state reached is moves
near (Err e) d new r state reached is moves = tt

-- ---- what is owed
pub told-today : (name : List ℕ) (d new : OpenDesk) (today day : ℕ) (rows : List Shared) (posts : List Kept) → name ≡ account → d.state ≡ ledger today rows posts → d.reached ≡ day ∷ [] → OneReaches (place_from name 0 d.state.accounts) d new
    → new.reached ≡ today ∷ []
told-today name d new today day rows posts named state reached h =
    let placed : place_from name 0 d.state.accounts ≡ Some 0 = ap (λ (l : List ℕ). place_from l 0 d.state.accounts) named ∙ (ap (λ (s : State). place_from account 0 s.accounts) state ∙ place-is today rows posts) in
    let there = subst (λ (o : Option ℕ). OneReaches o d new) placed h in
    there.others ∙ (ap (λ (l : List ℕ). set l 0 (day_there new 0)) reached ∙ ap (λ (n : ℕ). n ∷ []) (there.own ∙ ap (λ (s : State). s.today) state))

abbrev after_charge : OpenDesk → ℕ → OpenDesk
after_charge d day = record { state = ledger 21187 later_rolls charged; reached = day ∷ []; recorded = d.recorded; unmade = d.unmade }

four-at : (d : OpenDesk) (day before after : ℕ) → 21157 ≤ day → AreFewToTell (ledger 21187 later_rolls charged) (reached_of account (after_charge d day)) before after → after ≤ before + 4
four-at d day before after low few =
    let most = subst (λ (o : Option ℕ). AreFewToTell (ledger 21187 later_rolls charged) (reached_at (after_charge d day) o) before after) (place-is 21187 later_rolls charged) few in
    least before after (breaks_from given_charged day 21187) most (three-breaks day low)
  where
    least : (before after n : ℕ) → after ≤ before + (n + 1) → n ≤ 3 → after ≤ before + 4
    least before after n l m = omega (arith, l, m)

pub four : (name : List ℕ) (d : OpenDesk) (before after : ℕ) → name ≡ account → d.state ≡ ledger 21187 later_rolls charged → HasReachedNear d.reached → AreFewToTell d.state (reached_of name d) before after → after ≤ before + 4
four name d before after named state near few =
    let own = subst (λ (l : List ℕ). AreFewToTell d.state (reached_of l d) before after) named few in
    four-at d near.day before after near.first
    (subst (λ (x : OpenDesk). AreFewToTell x.state (reached_of account x) before after) (desk-is d (ledger 21187 later_rolls charged) (near.day ∷ []) state near.is) own)

-- ---- it was opened, and has reached the day before
opened-then : {T : Type 0} (E : Type 0) (x : T) (d new : OpenDesk) (r : Request) → d.state ≡ first_day → d.reached ≡ [] → r ≡ request.Post account first_key opening → MovesToApply {T = T} {E = E} r (Ok x) d new → new.reached ≡ 19727 ∷ []
unfolding MovesToApply place_from
opened-then {T} E x d new r state reached is moves =
    let there = subst (λ (y : OpenDesk). MovesToApply {T = T} {E = E} r (Ok x) y new) (desk-is d first_day [] state reached) moves in
    let absent = subst (λ (q : Request). MovesToApply {T = T} {E = E} q (Ok x) (record { state = first_day; reached = []; recorded = d.recorded; unmade = d.unmade }) new) is there in
    subst (λ (o : Outcome). MovesBy None o (record { state = first_day; reached = []; recorded = d.recorded; unmade = d.unmade }) new) accepts-first absent.done

pub opened-before : {T E : Type 0} (result : Result T E) (d new : OpenDesk) (r : Request) (key : List ℕ) (p : Post) → d.state ≡ first_day → d.reached ≡ [] → r ≡ request.Post account key p → key ≡ first_key → p ≡ opening
    → OnOk result (MovesToApply r result d new) → OnOk result (new.reached ≡ 19727 ∷ [])
opened-before (Ok x) d new r key p state reached is k post moves =
    opened-then _ x d new r state reached (is ∙ (ap (λ (l : List ℕ). request.Post account l p) k ∙ ap (request.Post account first_key) post)) moves
opened-before (Err e) d new r key p state reached is k post moves = tt

-- ---- whatever is answered
pub stays-there : {T E : Type 0} (result : Result T E) (d new : OpenDesk) (r : Shared) → MovesToApply (request.Shared r) result d new → new.reached ≡ d.reached
unfolding MovesToApply
stays-there result d new r h = h

pub moves-alike : {T U : Type 0} (E F : Type 0) (x : T) (y : U) (d new : OpenDesk) (r : Request) → MovesToApply {T = T} {E = E} r (Ok x) d new → MovesToApply {T = U} {E = F} r (Ok y) d new
unfolding MovesToApply
moves-alike E F x y d new (request.Shared r) h = h
moves-alike E F x y d new (request.Post name key p) h = record { done = h.done; failed = tt }
