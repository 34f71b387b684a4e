-- What a run leaves in an account that a post opens, or that takes one more, and the steps that these take.
use Rattle.std.proofs.Common.{◌≡◌, ℕ, ◌<◌, true, List, [], ◌∷◌, ◌++◌, length, get_or, set, None, Some, refl, ap, sym, ◌∙◌, subst, arith}
use Rattle.std.proofs.lemmas.List.{get_or-set_same, length-set}
use Rattle.std.proofs.lemmas.List.Elements.{All-get_or, All-head, All-tail}
use Rattle.std.specs.List.{All}
use Rattle.card_account.specs.Accounts.{OpenAccount}
use Rattle.card_account.specs.Runs.{AreRunning}
use Rattle.card_daily.specs.Given.{IsSound}
use Rattle.card_desk.proofs.FoldLemmas.{accepted_in, alike_at, alike_run, all_running, sound_under}
use Rattle.card_desk.proofs.KeptLemmas.{opened_is, posted_is, run_on}
use Rattle.card_desk.proofs.Left.{few_to_keep, there_is}
use Rattle.card_desk.proofs.OutcomeLemmas.{opening_reason}
use Rattle.card_desk.specs.Desks.{IsDesk, IsRun, OpenDesk, named_all, open_desk, state_of}
use Rattle.card_desk.specs.Places.{IsPlace, place_from}
use Rattle.card_desk.specs.Steps.{AreFewToKeep, ReachedLists, reached_at}
use Rattle.card_events.specs.SharedRows.{FeeRow, SharedRows, shared_rows}
use Rattle.card_events.specs.declared.post.Post.{Post}
use Rattle.card_events.specs.declared.reply.Reply.TheVariants as reply
use Rattle.card_events.specs.declared.request.Request.TheVariants as request
use Rattle.card_events.specs.declared.request.Shared.{Shared}
use Rattle.card_events.specs.History.{is_open}
use Rattle.card_model.specs.Accepted.{HasFewFees}
use Rattle.card_model.specs.Machine.{Accepts, NamedAccount, State, accepted, outcome_in, step}
use Rattle.card_model.specs.Refusals.{Lists}
use Rattle.card_model.specs.Work.{present_in}
use Rattle.card_reasons.proofs.SameReasons.{AreAlike}
use Rattle.card_replay.specs.Replays.{given_of, opened_lists, present_of}
use Rattle.card_replay.specs.Steps.{AreFewToPrepare}
use Rattle.card_rows.specs.Held.{is_request}

-- ---- an account that is opened
all-last : (P : NamedAccount → Type 0) (xs : List NamedAccount) (x : NamedAccount) → All P (xs ++ x ∷ []) → P x
all-last P [] x h = All-head P x [] h
all-last P (y ∷ ys) x h = all-last P ys x (All-tail P y (ys ++ x ∷ []) h)

opened_running : (s : State) (name key : List ℕ) (p : Post) → IsRun s → is_request (request.Post name key p) ≡ true → place_from name 0 s.accounts ≡ None → is_open p ≡ true
    → opening_reason s p ≡ None → AreRunning s (opened_lists key s.today p)
opened_running s name key p ran taken absent opens none =
    let made : NamedAccount = record { name = name; lists = opened_lists key s.today p } in
    let t : State = record { today = s.today; shared = s.shared; accounts = s.accounts ++ made ∷ [] } in
    let next : (t, reply.Accepted 1) ≡ step s (request.Post name key p) = opened_is s name key p made absent opens none refl in
    let one = all-last (λ (x : NamedAccount). AreRunning t x.lists) s.accounts made (all_running t (run_on s t (request.Post name key p) (reply.Accepted 1) ran taken next)) in
    record { sound = one.sound; timely = one.timely; last = one.last; opened = one.opened }

-- of a desk, with the post's conditions said of its state
pub opened_is_running : (places : List (List ℕ × ℕ)) (common : SharedRows) (count today : ℕ) (rows : List Shared) (accounts : List OpenAccount) (s : State) (name key : List ℕ) (p : Post)
    → IsDesk places common count today rows accounts → state_of today rows accounts ≡ s → is_request (request.Post name key p) ≡ true → place_from name 0 s.accounts ≡ None → is_open p ≡ true
    → opening_reason s p ≡ None → AreRunning (state_of today rows accounts) (opened_lists key today p)
opened_is_running places common count today rows accounts s name key p desk state taken absent opens none =
    opened_running (state_of today rows accounts) name key p desk.ran taken (ap (λ (x : State). place_from name 0 x.accounts) state ∙ absent) opens
    (ap (λ (x : State). opening_reason x p) state ∙ none)

-- so its fold may begin
pub opened_sound : (places : List (List ℕ × ℕ)) (common : SharedRows) (count today : ℕ) (rows : List Shared) (accounts : List OpenAccount) (l : Lists)
    → IsDesk places common count today rows accounts → AreRunning (state_of today rows accounts) l → IsSound (given_of l common)
opened_sound places common count today rows accounts l desk one =
    sound_under (state_of today rows accounts) l common one (subst (λ (f : List FeeRow). All HasFewFees f) (sym desk.table) one.sound.fees)

-- ---- an account with one post more
posted_running : (s : State) (name key : List ℕ) (p : Post) (i : ℕ) (l : Lists) (d : NamedAccount) → IsRun s → is_request (request.Post name key p) ≡ true → IsPlace name s.accounts i
    → outcome_in s name key p ≡ Accepts l → AreRunning s l
posted_running s name key p i l d ran taken place accepts =
    let a : NamedAccount = record { name = (get_or s.accounts i d).name; lists = l } in
    let t : State = record { today = s.today; shared = s.shared; accounts = set s.accounts i a } in
    let next : (t, reply.Accepted (length l.posts)) ≡ step s (request.Post name key p) = posted_is s name key p i a d place refl accepts in
    let all = all_running t (run_on s t (request.Post name key p) (reply.Accepted (length l.posts)) ran taken next) in
    let low : i < length (set s.accounts i a) = omega (arith, place.bound, length-set s.accounts i a) in
    let one = subst (λ (x : NamedAccount). AreRunning t x.lists) (get_or-set_same s.accounts i a d place.bound) (All-get_or (λ (x : NamedAccount). AreRunning t x.lists) (set s.accounts i a) i d low all) in
    record { sound = one.sound; timely = one.timely; last = one.last; opened = one.opened }

-- what it comes to in the state, by the lists that the account would have
pub posted_outcome : (places : List (List ℕ × ℕ)) (common : SharedRows) (count today : ℕ) (rows : List Shared) (accounts : List OpenAccount) (i : ℕ) (b : OpenAccount) (name key : List ℕ) (p : Post)
    → IsDesk places common count today rows accounts → i < length accounts → b ≡ get_or accounts i b
    → ((e : NamedAccount) → outcome_in (state_of today rows accounts) name key p ≡ Accepts (accepted (present_in (state_of today rows accounts) (get_or (named_all accounts) i e).lists) key p))
    → outcome_in (state_of today rows accounts) name key p ≡ Accepts (accepted (present_of today common b.named.lists) key p)
posted_outcome places common count today rows accounts i b name key p desk low is allowed =
    accepted_in places common count today rows accounts i (record b { named = record { name = b.named.name; lists = accepted (present_of today common b.named.lists) key p } }) b name key p desk low is refl allowed

pub posted_in : (places : List (List ℕ × ℕ)) (common : SharedRows) (count today : ℕ) (rows : List Shared) (accounts : List OpenAccount) (i : ℕ) (b : OpenAccount) (name key : List ℕ) (p : Post)
    → IsDesk places common count today rows accounts → is_request (request.Post name key p) ≡ true → IsPlace name (named_all accounts) i
    → outcome_in (state_of today rows accounts) name key p ≡ Accepts (accepted (present_of today common b.named.lists) key p)
    → AreRunning (state_of today rows accounts) (accepted (present_of today common b.named.lists) key p)
posted_in places common count today rows accounts i b name key p desk taken place accepts =
    posted_running (state_of today rows accounts) name key p i (accepted (present_of today common b.named.lists) key p) b.named desk.ran taken place accepts

-- its steps
pub few_posted : (places : List (List ℕ × ℕ)) (common : SharedRows) (count today : ℕ) (rows : List Shared) (accounts : List OpenAccount) (i : ℕ) (b : OpenAccount) (d : OpenDesk) (name key : List ℕ) (p : Post) (before after : ℕ)
    → IsDesk places common count today rows accounts → open_desk today rows accounts ≡ d → i < length accounts → b ≡ get_or accounts i b
    → outcome_in (state_of today rows accounts) name key p ≡ Accepts (accepted (present_of today common b.named.lists) key p) → AreRunning (state_of today rows accounts) (accepted (present_of today common b.named.lists) key p)
    → AreFewToPrepare today common b.named.lists b.folding.reached key p before after → AreFewToKeep d.state (reached_at d (Some i)) (outcome_in d.state name key p) before after
few_posted places common count today rows accounts i b d name key p before after desk view low is accepts one few =
    let s = state_of today rows accounts in
    let here : ReachedLists = record { lists = b.named.lists; reached = b.folding.reached } in
    let alike = subst (λ (x : OpenAccount). AreAlike today x.named.lists common (shared_rows rows)) (sym is) (alike_at places common count today rows accounts i b desk low) in
    subst (λ (x : OpenDesk). AreFewToKeep x.state (reached_at x (Some i)) (outcome_in x.state name key p) before after) view
    (few_to_keep (open_desk today rows accounts) i (outcome_in s name key p) here (accepted (present_of today common b.named.lists) key p) common before after
    (there_is rows today accounts i b low is) accepts alike (alike_run s (accepted (present_of today common b.named.lists) key p) common one desk.holidays desk.table desk.index_rows) few)
