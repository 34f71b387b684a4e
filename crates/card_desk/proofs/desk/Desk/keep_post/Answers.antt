use Rattle.std.proofs.Common.{rules, ◌≡◌, ℕ, true, ◌+◌, ◌≤◌, List, Some, length, get_or, set, refl, sym, ap, subst, ◌∙◌, arith}
use Rattle.std.proofs.lemmas.List.{map-set}
use Rattle.card_account.specs.Accounts.{IsAccount, OpenAccount}
use Rattle.card_replay.specs.Replays.{given_of, present_of}
use Rattle.card_daily.specs.Given.{IsSound}
use Rattle.card_events.specs.Dated.{is_dated}
use Rattle.card_events.specs.Keys.{with_key}
use Rattle.card_events.specs.Limits.{post_limit}
use Rattle.card_reasons.proofs.Accepted.{few}
use Rattle.card_events.specs.declared.post.Post.{Post}
use Rattle.card_events.specs.declared.reply.Reply.TheVariants as reply
use Rattle.card_events.specs.declared.request.Request.{Request}
use Rattle.card_events.specs.declared.request.Request.TheVariants as request
use Rattle.card_model.specs.Machine.{Accepts, State, NamedAccount, accepted, outcome_in}
use Rattle.card_model.specs.Refusals.{Lists}
use Rattle.card_model.specs.Work.{present_in}
use Rattle.card_desk.specs.Applied.{Carried, Steps}
use Rattle.card_desk.specs.Desks.{now_at, state_of}
use Rattle.card_desk.specs.Kept.{row_of, accepted_count}
use Rattle.card_desk.specs.Places.{IsPlace}
use Rattle.card_desk.specs.Steps.{reached_at}
use Rattle.card_desk.proofs.DeskLemmas.{changed_state, count_added, read_at, state_by}
use Rattle.card_desk.proofs.FoldLemmas.{account_at, none_at}
use Rattle.card_desk.proofs.KeptLemmas.{longer, posted_desk}
use Rattle.card_desk.proofs.Left.{none_to_keep}
use Rattle.card_desk.proofs.OutcomeLemmas.{closed_of, fresh_of, known_outcome}
use Rattle.card_desk.proofs.Reading.{low_in, told_desk, told_state}
use Rattle.card_desk.proofs.Running.{few_posted, opened_sound, posted_in, posted_outcome}
use Rattle.card_desk.proofs.StepLemmas.{goes_on, kept, not_kept, post_accepted}
use Rattle.card_replay.specs.Steps.{AreFewToPrepare}
use Rattle.card_rows.specs.Held.{is_request}
use Rattle.card_account.specs.Reached.{StaysNear}
use Rattle.card_account.specs.Runs.{AreRunning}
use Rattle.card_desk.proofs.Moves.{done-moves, failed-moves, none-moves, posted-moves, told-moves}
use Rattle.card_desk.proofs.Recording.{changed_at, unchanged}
use Rattle.card_desk.proofs.Unmade.{after-post, makes-none, none-there, posted-made, same-owed, told-made}
use Rattle.card_desk.specs.PutOff.{makes_first}
use Rattle.card_replay.proofs.Beside.{no-answer}
use Rattle.card_desk.proofs.desk.Desk.keep_post.Goals as goal

pub keep_row-requires : goal.keep_row-requires
keep_row-requires g c = goes_on _ c.args.self.now.state c.args.given.now.request.now c.in_ok-row.row c.requires.asked.fits c.in_ok-row.ensures.value

-- ---- the account's conditions
pub prepare-requires-clause-account : goal.prepare-requires-clause-account
prepare-requires-clause-account g c =
    let d = c.self.inside in
    let items = d.accounts.items in
    let at = c.args.at in
    let name = c.args.given.now.account.now in
    let key = c.args.given.now.key.now in
    let p = c.args.given.now.post.now in
    let s = c.args.self.now.state in
    let state = state_by _ _ c.self.view_is in
    let b = c.index_mut-account.result.now in
    let is = c.index_mut-account.ensures.value in
    let low = low_in d.shared.items d.today items s at state c.requires.place.bound in
    account_at d.index d.common d.count d.today d.shared.items items at b c.self.invariant low is

pub prepare-requires-clause-dated : goal.prepare-requires-clause-dated
unfolding is_dated
prepare-requires-clause-dated g c = subst (λ (x : Request). is_dated x ≡ true) c.requires.request c.requires.asked.dated

pub prepare-requires-clause-not_open : goal.prepare-requires-clause-not_open
prepare-requires-clause-not_open g c =
    let s = c.args.self.now.state in
    let key = c.args.given.now.key.now in
    let p = c.args.given.now.post.now in
    let e = c.index_mut-account.result.now.named in
    let there = known_outcome s c.args.given.now.account.now key p (get_or s.accounts c.args.at e).lists (c.requires.place.there e) in
    closed_of (now_at s c.args.at e) key p (with_key key (get_or s.accounts c.args.at e).lists.posts) (accepted (now_at s c.args.at e) key p) (sym there ∙ c.requires.accepted e)

pub prepare-requires-clause-fresh : goal.prepare-requires-clause-fresh
prepare-requires-clause-fresh g c =
    let d = c.self.inside in
    let items = d.accounts.items in
    let at = c.args.at in
    let name = c.args.given.now.account.now in
    let key = c.args.given.now.key.now in
    let p = c.args.given.now.post.now in
    let s = c.args.self.now.state in
    let state = state_by _ _ c.self.view_is in
    let b = c.index_mut-account.result.now in
    let is = c.index_mut-account.ensures.value in
    let low = low_in d.shared.items d.today items s at state c.requires.place.bound in
    let there = known_outcome s name key p (get_or s.accounts at b.named).lists (c.requires.place.there b.named) in
    let fresh = fresh_of (now_at s at b.named) key p (with_key key (get_or s.accounts at b.named).lists.posts) (accepted (now_at s at b.named) key p) (sym there ∙ c.requires.accepted b.named) in
    let read = read_at items s.accounts at b b.named is (ap (λ (x : State). x.accounts) state) c.requires.place.bound in
    ap (λ (k : List ℕ). with_key k b.named.lists.posts) c.copy-key.ensures ∙ (ap (λ (x : NamedAccount). with_key key x.lists.posts) read ∙ fresh)

pub prepare-requires-clause-no_reason : goal.prepare-requires-clause-no_reason
prepare-requires-clause-no_reason g c =
    let d = c.self.inside in
    let items = d.accounts.items in
    let at = c.args.at in
    let name = c.args.given.now.account.now in
    let key = c.args.given.now.key.now in
    let p = c.args.given.now.post.now in
    let s = c.args.self.now.state in
    let state = state_by _ _ c.self.view_is in
    let b = c.index_mut-account.result.now in
    let is = c.index_mut-account.ensures.value in
    let low = low_in d.shared.items d.today items s at state c.requires.place.bound in
    none_at d.index d.common d.count d.today d.shared.items items at b s p c.self.invariant state c.requires.place.bound is c.requires.no_reason

pub prepare-requires-clause-sound : goal.prepare-requires-clause-sound
prepare-requires-clause-sound g c =
    let d = c.self.inside in
    let items = d.accounts.items in
    let at = c.args.at in
    let name = c.args.given.now.account.now in
    let key = c.args.given.now.key.now in
    let p = c.args.given.now.post.now in
    let s = c.args.self.now.state in
    let state = state_by _ _ c.self.view_is in
    let b = c.index_mut-account.result.now in
    let is = c.index_mut-account.ensures.value in
    let low = low_in d.shared.items d.today items s at state c.requires.place.bound in
    let taken : is_request (request.Post name key p) ≡ true = ap is_request (sym c.requires.request) ∙ c.in_ok-row.ensures.held in
    let place = subst (λ (x : State). IsPlace name x.accounts at) (sym state) c.requires.place in
    let allowed = subst (λ (x : State). (e : NamedAccount) → outcome_in x name key p ≡ Accepts (accepted (present_in x (get_or x.accounts at e).lists) key p)) (sym state) c.requires.accepted in
    let outcome = posted_outcome d.index d.common d.count d.today d.shared.items items at b name key p c.self.invariant low is allowed in
    let one = posted_in d.index d.common d.count d.today d.shared.items items at b name key p c.self.invariant taken place outcome in
    subst (λ (k : List ℕ). IsSound (given_of (accepted (present_of d.today d.common b.named.lists) k p) d.common)) (sym c.copy-key.ensures)
    (opened_sound d.index d.common d.count d.today d.shared.items items (accepted (present_of d.today d.common b.named.lists) key p) c.self.invariant one)

pub commit-number-requires : goal.commit-number-requires
commit-number-requires g c = record { prepared = c.in_ok-change.ensures.prepared }

-- ---- where nothing is kept
pub invariant_of-self : goal.invariant_of-self
invariant_of-self g c =
    let d = c.self.inside in
    let items = d.accounts.items in
    let at = c.args.at in
    let name = c.args.given.now.account.now in
    let key = c.args.given.now.key.now in
    let p = c.args.given.now.post.now in
    let s = c.args.self.now.state in
    let state = state_by _ _ c.self.view_is in
    let b = c.index_mut-account.result.now in
    let is = c.index_mut-account.ensures.value in
    let low = low_in d.shared.items d.today items s at state c.requires.place.bound in
    told_desk d.index d.common d.count d.today d.shared.items items at c.prepare.new.self b s c.self.invariant state c.requires.place.bound is c.prepare.ensures.told

pub returns-in_err-change-clause-carried : goal.returns-in_err-change-clause-carried
returns-in_err-change-clause-carried g c =
    let d = c.self.inside in
    let items = d.accounts.items in
    let at = c.args.at in
    let name = c.args.given.now.account.now in
    let key = c.args.given.now.key.now in
    let p = c.args.given.now.post.now in
    let s = c.args.self.now.state in
    let state = state_by _ _ c.self.view_is in
    let b = c.index_mut-account.result.now in
    let is = c.index_mut-account.ensures.value in
    let low = low_in d.shared.items d.today items s at state c.requires.place.bound in
    let stays = told_state d.index d.common d.count d.today d.shared.items items at c.prepare.new.self b s c.self.invariant state c.requires.place.bound is c.prepare.ensures.told in
    let same : Carried (g.K.Keeper.rows c.args.keeper.now) (g.K.Keeper.rows c.args.keeper.now) (g.K.Keeper.faults c.args.keeper.now) (g.K.Keeper.faults c.args.keeper.now) s c.args.given.now.request.now s c.from_residual-in_err-change.result = search rules in
    subst (λ (x : State). Carried (g.K.Keeper.rows c.args.keeper.now) (g.K.Keeper.rows c.args.keeper.now) (g.K.Keeper.faults c.args.keeper.now) (g.K.Keeper.faults c.args.keeper.now) s c.args.given.now.request.now x c.from_residual-in_err-change.result) (sym stays) same

pub invariant_of-self-in_err-keep_row : goal.invariant_of-self-in_err-keep_row
invariant_of-self-in_err-keep_row g c =
    let d = c.self.inside in
    let items = d.accounts.items in
    let at = c.args.at in
    let name = c.args.given.now.account.now in
    let key = c.args.given.now.key.now in
    let p = c.args.given.now.post.now in
    let s = c.args.self.now.state in
    let state = state_by _ _ c.self.view_is in
    let b = c.index_mut-account.result.now in
    let is = c.index_mut-account.ensures.value in
    let low = low_in d.shared.items d.today items s at state c.requires.place.bound in
    told_desk d.index d.common d.count d.today d.shared.items items at c.prepare.new.self b s c.self.invariant state c.requires.place.bound is c.prepare.ensures.told

pub returns-in_err-keep_row-clause-carried : goal.returns-in_err-keep_row-clause-carried
returns-in_err-keep_row-clause-carried g c =
    let d = c.self.inside in
    let items = d.accounts.items in
    let at = c.args.at in
    let name = c.args.given.now.account.now in
    let key = c.args.given.now.key.now in
    let p = c.args.given.now.post.now in
    let s = c.args.self.now.state in
    let state = state_by _ _ c.self.view_is in
    let b = c.index_mut-account.result.now in
    let is = c.index_mut-account.ensures.value in
    let low = low_in d.shared.items d.today items s at state c.requires.place.bound in
    let stays = told_state d.index d.common d.count d.today d.shared.items items at c.prepare.new.self b s c.self.invariant state c.requires.place.bound is c.prepare.ensures.told in
    let same : Carried (g.K.Keeper.rows c.args.keeper.now) (g.K.Keeper.rows c.keep_row.new.keeper) (g.K.Keeper.faults c.args.keeper.now) (g.K.Keeper.faults c.keep_row.new.keeper) s c.args.given.now.request.now s c.from_residual-in_err-keep_row.result = not_kept (g.K.Keeper.rows c.args.keeper.now) (g.K.Keeper.rows c.keep_row.new.keeper) (g.K.Keeper.faults c.args.keeper.now) (g.K.Keeper.faults c.keep_row.new.keeper) s c.args.given.now.request.now
    c.in_err-keep_row.field-0.0 c.from_residual-in_err-keep_row.result c.in_err-keep_row.ensures.err c.keep_row.ensures.told c.in_err-keep_row.ensures.counts c.from_residual-in_err-keep_row.ensures in
    subst (λ (x : State). Carried (g.K.Keeper.rows c.args.keeper.now) (g.K.Keeper.rows c.keep_row.new.keeper) (g.K.Keeper.faults c.args.keeper.now) (g.K.Keeper.faults c.keep_row.new.keeper) s c.args.given.now.request.now x c.from_residual-in_err-keep_row.result) (sym stays) same

-- ---- where the post is kept
pub invariant_of-self-2 : goal.invariant_of-self-2
invariant_of-self-2 g c =
    let d = c.self.inside in
    let items = d.accounts.items in
    let at = c.args.at in
    let name = c.args.given.now.account.now in
    let key = c.args.given.now.key.now in
    let p = c.args.given.now.post.now in
    let s = c.args.self.now.state in
    let state = state_by _ _ c.self.view_is in
    let b = c.index_mut-account.result.now in
    let is = c.index_mut-account.ensures.value in
    let low = low_in d.shared.items d.today items s at state c.requires.place.bound in
    let taken : is_request (request.Post name key p) ≡ true = ap is_request (sym c.requires.request) ∙ c.in_ok-row.ensures.held in
    let place = subst (λ (x : State). IsPlace name x.accounts at) (sym state) c.requires.place in
    let allowed = subst (λ (x : State). (e : NamedAccount) → outcome_in x name key p ≡ Accepts (accepted (present_in x (get_or x.accounts at e).lists) key p)) (sym state) c.requires.accepted in
    let outcome = posted_outcome d.index d.common d.count d.today d.shared.items items at b name key p c.self.invariant low is allowed in
    let one = posted_in d.index d.common d.count d.today d.shared.items items at b name key p c.self.invariant taken place outcome in
    let x = c.prepare.new.self in
    let a = c.commit-number.new.self in
    let change = c.in_ok-change.change in
    let says = c.in_ok-change.ensures.post in
    let same = c.prepare.ensures.told.named in
    let lists : a.named.lists ≡ accepted (present_of d.today d.common b.named.lists) key p =
    c.commit-number.ensures.lists
    ∙ (ap (λ (n : ℕ). accepted (present_of n d.common x.named.lists) change.key change.post) says.today
    ∙ (ap (λ (k : List ℕ). accepted (present_of d.today d.common x.named.lists) k change.post) (says.key ∙ c.copy-key.ensures)
    ∙ (ap (λ (q : Post). accepted (present_of d.today d.common x.named.lists) key q) says.post ∙ ap (λ (y : NamedAccount). accepted (present_of d.today d.common y.lists) key p) same))) in
    let grew : length a.named.lists.posts ≡ length b.named.lists.posts + 1 = ap (λ (l : Lists). length l.posts) lists ∙ longer (present_of d.today d.common b.named.lists) key p in
    let named : a.named.name ≡ (get_or items at b).named.name = c.commit-number.ensures.name ∙ (ap (λ (y : NamedAccount). y.name) same ∙ ap (λ (y : OpenAccount). y.named.name) is) in
    let comes = outcome ∙ ap (λ (l : Lists). Accepts l) (sym lists) in
    let read = read_at items s.accounts at b b.named is (ap (λ (y : State). y.accounts) state) c.requires.place.bound in
    let room = few (present_in s (get_or s.accounts at b.named).lists) p (c.requires.no_reason b.named) in
    let short : length a.named.lists.posts ≤ post_limit = omega (arith, grew, room, ap (λ (y : NamedAccount). length y.lists.posts) read) in
    posted_desk d.index d.common d.count d.today d.shared.items items at a b name key p c.self.invariant taken place low named comes
    (grew ∙ ap (λ (y : OpenAccount). length y.named.lists.posts + 1) is) short (subst (λ (n : ℕ). IsAccount n d.common a) says.today c.commit-number.ensures.account)

pub returns-clause-carried : goal.returns-clause-carried
returns-clause-carried g c =
    let d = c.self.inside in
    let items = d.accounts.items in
    let at = c.args.at in
    let name = c.args.given.now.account.now in
    let key = c.args.given.now.key.now in
    let p = c.args.given.now.post.now in
    let s = c.args.self.now.state in
    let state = state_by _ _ c.self.view_is in
    let b = c.index_mut-account.result.now in
    let is = c.index_mut-account.ensures.value in
    let low = low_in d.shared.items d.today items s at state c.requires.place.bound in
    let taken : is_request (request.Post name key p) ≡ true = ap is_request (sym c.requires.request) ∙ c.in_ok-row.ensures.held in
    let place = subst (λ (x : State). IsPlace name x.accounts at) (sym state) c.requires.place in
    let allowed = subst (λ (x : State). (e : NamedAccount) → outcome_in x name key p ≡ Accepts (accepted (present_in x (get_or x.accounts at e).lists) key p)) (sym state) c.requires.accepted in
    let outcome = posted_outcome d.index d.common d.count d.today d.shared.items items at b name key p c.self.invariant low is allowed in
    let one = posted_in d.index d.common d.count d.today d.shared.items items at b name key p c.self.invariant taken place outcome in
    let x = c.prepare.new.self in
    let a = c.commit-number.new.self in
    let change = c.in_ok-change.change in
    let says = c.in_ok-change.ensures.post in
    let same = c.prepare.ensures.told.named in
    let lists : a.named.lists ≡ accepted (present_of d.today d.common b.named.lists) key p =
    c.commit-number.ensures.lists
    ∙ (ap (λ (n : ℕ). accepted (present_of n d.common x.named.lists) change.key change.post) says.today
    ∙ (ap (λ (k : List ℕ). accepted (present_of d.today d.common x.named.lists) k change.post) (says.key ∙ c.copy-key.ensures)
    ∙ (ap (λ (q : Post). accepted (present_of d.today d.common x.named.lists) key q) says.post ∙ ap (λ (y : NamedAccount). accepted (present_of d.today d.common y.lists) key p) same))) in
    let grew : length a.named.lists.posts ≡ length b.named.lists.posts + 1 = ap (λ (l : Lists). length l.posts) lists ∙ longer (present_of d.today d.common b.named.lists) key p in
    let rows = g.K.Keeper.rows c.args.keeper.now in
    let grown = g.K.Keeper.rows c.keep_row.new.keeper in
    let today = ap (λ (y : State). y.today) state in
    let shared = ap (λ (y : State). y.shared) state in
    let t : State = state_of d.today d.shared.items (set items at a) in
    let accounts : t.accounts ≡ set s.accounts at a.named = map-set (λ (y : OpenAccount). y.named) items at a ∙ ap (λ (y : State). set y.accounts at a.named) state in
    let read = read_at items s.accounts at b b.named is (ap (λ (y : State). y.accounts) state) c.requires.place.bound in
    let named : a.named.name ≡ (get_or s.accounts at b.named).name = c.commit-number.ensures.name ∙ (ap (λ (y : NamedAccount). y.name) same ∙ ap (λ (y : NamedAccount). y.name) read) in
    let allows = ap (λ (y : State). outcome_in y name key p) (sym state) ∙ (outcome ∙ ap (λ (l : Lists). Accepts l) (sym lists)) in
    let next = changed_state s t name a.named.lists at a.named b.named c.requires.place today shared accounts named refl in
    let more : length a.named.lists.posts ≡ length (get_or s.accounts at b.named).lists.posts + 1 = grew ∙ ap (λ (y : NamedAccount). length y.lists.posts + 1) read in
    let number : c.commit-number.result ≡ length a.named.lists.posts = c.commit-number.ensures.number ∙ (ap (λ (y : NamedAccount). length y.lists.posts + 1) same ∙ sym grew) in
    kept rows grown (g.K.Keeper.faults c.args.keeper.now) (g.K.Keeper.faults c.keep_row.new.keeper) s t c.args.given.now.request.now (reply.Accepted c.commit-number.result) c.keep_row.ensures.told c.in_ok-keep_row.ensures.counts.unfailed
    (subst (λ (y : Request). Steps rows grown s y t (reply.Accepted c.commit-number.result)) (sym c.requires.request)
    (post_accepted rows grown s t name key p a.named.lists c.commit-number.result c.in_ok-row.row c.keep_row.ensures.told c.in_ok-keep_row.ensures.ok
    (c.in_ok-row.ensures.value ∙ ap (λ (y : Request). row_of (accepted_count s + 1) y) c.requires.request)
    allows next number (count_added s t at a.named b.named shared accounts c.requires.place.bound more)))

-- ---- its steps
pub returns-in_err-row-clause-most : goal.returns-in_err-row-clause-most
returns-in_err-row-clause-most g c =
    none_to_keep c.args.self.now.state (reached_at c.args.self.now (Some c.args.at)) (outcome_in c.args.self.now.state c.args.given.now.account.now c.args.given.now.key.now c.args.given.now.post.now) c.args.steps.now

pub returns-in_err-change-clause-most : goal.returns-in_err-change-clause-most
returns-in_err-change-clause-most g c =
    let d = c.self.inside in
    let items = d.accounts.items in
    let at = c.args.at in
    let name = c.args.given.now.account.now in
    let key = c.args.given.now.key.now in
    let p = c.args.given.now.post.now in
    let s = c.args.self.now.state in
    let state = state_by _ _ c.self.view_is in
    let b = c.index_mut-account.result.now in
    let is = c.index_mut-account.ensures.value in
    let low = low_in d.shared.items d.today items s at state c.requires.place.bound in
    let taken : is_request (request.Post name key p) ≡ true = ap is_request (sym c.requires.request) ∙ c.in_ok-row.ensures.held in
    let place = subst (λ (x : State). IsPlace name x.accounts at) (sym state) c.requires.place in
    let allowed = subst (λ (x : State). (e : NamedAccount) → outcome_in x name key p ≡ Accepts (accepted (present_in x (get_or x.accounts at e).lists) key p)) (sym state) c.requires.accepted in
    let outcome = posted_outcome d.index d.common d.count d.today d.shared.items items at b name key p c.self.invariant low is allowed in
    let one = posted_in d.index d.common d.count d.today d.shared.items items at b name key p c.self.invariant taken place outcome in
    let least = subst (λ (k : List ℕ). AreFewToPrepare d.today d.common b.named.lists b.folding.reached k p c.args.steps.now c.prepare.new.steps) c.copy-key.ensures c.prepare.ensures.most in
    few_posted d.index d.common d.count d.today d.shared.items items at b c.args.self.now name key p c.args.steps.now c.prepare.new.steps c.self.invariant c.self.view_is low is outcome one least

pub returns-in_err-keep_row-clause-most : goal.returns-in_err-keep_row-clause-most
returns-in_err-keep_row-clause-most g c =
    let d = c.self.inside in
    let items = d.accounts.items in
    let at = c.args.at in
    let name = c.args.given.now.account.now in
    let key = c.args.given.now.key.now in
    let p = c.args.given.now.post.now in
    let s = c.args.self.now.state in
    let state = state_by _ _ c.self.view_is in
    let b = c.index_mut-account.result.now in
    let is = c.index_mut-account.ensures.value in
    let low = low_in d.shared.items d.today items s at state c.requires.place.bound in
    let taken : is_request (request.Post name key p) ≡ true = ap is_request (sym c.requires.request) ∙ c.in_ok-row.ensures.held in
    let place = subst (λ (x : State). IsPlace name x.accounts at) (sym state) c.requires.place in
    let allowed = subst (λ (x : State). (e : NamedAccount) → outcome_in x name key p ≡ Accepts (accepted (present_in x (get_or x.accounts at e).lists) key p)) (sym state) c.requires.accepted in
    let outcome = posted_outcome d.index d.common d.count d.today d.shared.items items at b name key p c.self.invariant low is allowed in
    let one = posted_in d.index d.common d.count d.today d.shared.items items at b name key p c.self.invariant taken place outcome in
    let least = subst (λ (k : List ℕ). AreFewToPrepare d.today d.common b.named.lists b.folding.reached k p c.args.steps.now c.prepare.new.steps) c.copy-key.ensures c.prepare.ensures.most in
    few_posted d.index d.common d.count d.today d.shared.items items at b c.args.self.now name key p c.args.steps.now c.prepare.new.steps c.self.invariant c.self.view_is low is outcome one least

pub returns-clause-most : goal.returns-clause-most
returns-clause-most g c =
    let d = c.self.inside in
    let items = d.accounts.items in
    let at = c.args.at in
    let name = c.args.given.now.account.now in
    let key = c.args.given.now.key.now in
    let p = c.args.given.now.post.now in
    let s = c.args.self.now.state in
    let state = state_by _ _ c.self.view_is in
    let b = c.index_mut-account.result.now in
    let is = c.index_mut-account.ensures.value in
    let low = low_in d.shared.items d.today items s at state c.requires.place.bound in
    let taken : is_request (request.Post name key p) ≡ true = ap is_request (sym c.requires.request) ∙ c.in_ok-row.ensures.held in
    let place = subst (λ (x : State). IsPlace name x.accounts at) (sym state) c.requires.place in
    let allowed = subst (λ (x : State). (e : NamedAccount) → outcome_in x name key p ≡ Accepts (accepted (present_in x (get_or x.accounts at e).lists) key p)) (sym state) c.requires.accepted in
    let outcome = posted_outcome d.index d.common d.count d.today d.shared.items items at b name key p c.self.invariant low is allowed in
    let one = posted_in d.index d.common d.count d.today d.shared.items items at b name key p c.self.invariant taken place outcome in
    let least = subst (λ (k : List ℕ). AreFewToPrepare d.today d.common b.named.lists b.folding.reached k p c.args.steps.now c.prepare.new.steps) c.copy-key.ensures c.prepare.ensures.most in
    few_posted d.index d.common d.count d.today d.shared.items items at b c.args.self.now name key p c.args.steps.now c.prepare.new.steps c.self.invariant c.self.view_is low is outcome one least

-- ---- with those that were put off
pub returns-in_err-row-clause-both : goal.returns-in_err-row-clause-both
returns-in_err-row-clause-both g c =
    none_to_keep c.args.self.now.state (reached_at c.args.self.now (Some c.args.at)) (outcome_in c.args.self.now.state c.args.given.now.account.now c.args.given.now.key.now c.args.given.now.post.now) (c.args.steps.now + c.args.put_off.now)

pub returns-in_err-change-clause-both : goal.returns-in_err-change-clause-both
returns-in_err-change-clause-both g c =
    let d = c.self.inside in
    let items = d.accounts.items in
    let at = c.args.at in
    let name = c.args.given.now.account.now in
    let key = c.args.given.now.key.now in
    let p = c.args.given.now.post.now in
    let s = c.args.self.now.state in
    let state = state_by _ _ c.self.view_is in
    let b = c.index_mut-account.result.now in
    let is = c.index_mut-account.ensures.value in
    let low = low_in d.shared.items d.today items s at state c.requires.place.bound in
    let taken : is_request (request.Post name key p) ≡ true = ap is_request (sym c.requires.request) ∙ c.in_ok-row.ensures.held in
    let place = subst (λ (x : State). IsPlace name x.accounts at) (sym state) c.requires.place in
    let allowed = subst (λ (x : State). (e : NamedAccount) → outcome_in x name key p ≡ Accepts (accepted (present_in x (get_or x.accounts at e).lists) key p)) (sym state) c.requires.accepted in
    let outcome = posted_outcome d.index d.common d.count d.today d.shared.items items at b name key p c.self.invariant low is allowed in
    let one = posted_in d.index d.common d.count d.today d.shared.items items at b name key p c.self.invariant taken place outcome in
    let least = subst (λ (k : List ℕ). AreFewToPrepare d.today d.common b.named.lists b.folding.reached k p (c.args.steps.now + c.args.put_off.now) (c.prepare.new.steps + c.prepare.new.put_off)) c.copy-key.ensures c.prepare.ensures.both in
    few_posted d.index d.common d.count d.today d.shared.items items at b c.args.self.now name key p (c.args.steps.now + c.args.put_off.now) (c.prepare.new.steps + c.prepare.new.put_off) c.self.invariant c.self.view_is low is outcome one least

pub returns-in_err-keep_row-clause-both : goal.returns-in_err-keep_row-clause-both
returns-in_err-keep_row-clause-both g c =
    let d = c.self.inside in
    let items = d.accounts.items in
    let at = c.args.at in
    let name = c.args.given.now.account.now in
    let key = c.args.given.now.key.now in
    let p = c.args.given.now.post.now in
    let s = c.args.self.now.state in
    let state = state_by _ _ c.self.view_is in
    let b = c.index_mut-account.result.now in
    let is = c.index_mut-account.ensures.value in
    let low = low_in d.shared.items d.today items s at state c.requires.place.bound in
    let taken : is_request (request.Post name key p) ≡ true = ap is_request (sym c.requires.request) ∙ c.in_ok-row.ensures.held in
    let place = subst (λ (x : State). IsPlace name x.accounts at) (sym state) c.requires.place in
    let allowed = subst (λ (x : State). (e : NamedAccount) → outcome_in x name key p ≡ Accepts (accepted (present_in x (get_or x.accounts at e).lists) key p)) (sym state) c.requires.accepted in
    let outcome = posted_outcome d.index d.common d.count d.today d.shared.items items at b name key p c.self.invariant low is allowed in
    let one = posted_in d.index d.common d.count d.today d.shared.items items at b name key p c.self.invariant taken place outcome in
    let least = subst (λ (k : List ℕ). AreFewToPrepare d.today d.common b.named.lists b.folding.reached k p (c.args.steps.now + c.args.put_off.now) (c.prepare.new.steps + c.prepare.new.put_off)) c.copy-key.ensures c.prepare.ensures.both in
    few_posted d.index d.common d.count d.today d.shared.items items at b c.args.self.now name key p (c.args.steps.now + c.args.put_off.now) (c.prepare.new.steps + c.prepare.new.put_off) c.self.invariant c.self.view_is low is outcome one least

pub returns-clause-both : goal.returns-clause-both
returns-clause-both g c =
    let d = c.self.inside in
    let items = d.accounts.items in
    let at = c.args.at in
    let name = c.args.given.now.account.now in
    let key = c.args.given.now.key.now in
    let p = c.args.given.now.post.now in
    let s = c.args.self.now.state in
    let state = state_by _ _ c.self.view_is in
    let b = c.index_mut-account.result.now in
    let is = c.index_mut-account.ensures.value in
    let low = low_in d.shared.items d.today items s at state c.requires.place.bound in
    let taken : is_request (request.Post name key p) ≡ true = ap is_request (sym c.requires.request) ∙ c.in_ok-row.ensures.held in
    let place = subst (λ (x : State). IsPlace name x.accounts at) (sym state) c.requires.place in
    let allowed = subst (λ (x : State). (e : NamedAccount) → outcome_in x name key p ≡ Accepts (accepted (present_in x (get_or x.accounts at e).lists) key p)) (sym state) c.requires.accepted in
    let outcome = posted_outcome d.index d.common d.count d.today d.shared.items items at b name key p c.self.invariant low is allowed in
    let one = posted_in d.index d.common d.count d.today d.shared.items items at b name key p c.self.invariant taken place outcome in
    let least = subst (λ (k : List ℕ). AreFewToPrepare d.today d.common b.named.lists b.folding.reached k p (c.args.steps.now + c.args.put_off.now) (c.prepare.new.steps + c.prepare.new.put_off)) c.copy-key.ensures c.prepare.ensures.both in
    few_posted d.index d.common d.count d.today d.shared.items items at b c.args.self.now name key p (c.args.steps.now + c.args.put_off.now) (c.prepare.new.steps + c.prepare.new.put_off) c.self.invariant c.self.view_is low is outcome one least

-- ---- no step
pub returns-in_err-change-clause-idle : goal.returns-in_err-change-clause-idle
returns-in_err-change-clause-idle g c = λ not. (c.prepare.ensures.idle not).1

pub returns-in_err-keep_row-clause-idle : goal.returns-in_err-keep_row-clause-idle
returns-in_err-keep_row-clause-idle g c = λ not. (c.prepare.ensures.idle not).1

pub returns-clause-idle : goal.returns-clause-idle
returns-clause-idle g c = λ not. (c.prepare.ensures.idle not).1

-- ---- the day that it has reached
pub returns-in_err-row-clause-reached : goal.returns-in_err-row-clause-reached
returns-in_err-row-clause-reached g c = failed-moves _ (Some c.args.at) _ _ _ c.from_residual.ensures.0 (none-moves c.args.self.now c.args.at)

pub returns-in_err-change-clause-reached : goal.returns-in_err-change-clause-reached
returns-in_err-change-clause-reached g c =
    let d = c.self.inside in
    let items = d.accounts.items in
    let at = c.args.at in
    let s = c.args.self.now.state in
    let state = state_by _ _ c.self.view_is in
    let b = c.index_mut-account.result.now in
    let is = c.index_mut-account.ensures.value in
    let low = low_in d.shared.items d.today items s at state c.requires.place.bound in
    failed-moves _ (Some at) _ _ _ c.from_residual-in_err-change.ensures.0
    (told-moves d.index d.common d.count d.today d.shared.items items at c.prepare.new.self b c.args.self.now c.self.invariant c.self.view_is low is c.prepare.ensures.told)

pub returns-in_err-keep_row-clause-reached : goal.returns-in_err-keep_row-clause-reached
returns-in_err-keep_row-clause-reached g c =
    let d = c.self.inside in
    let items = d.accounts.items in
    let at = c.args.at in
    let s = c.args.self.now.state in
    let state = state_by _ _ c.self.view_is in
    let b = c.index_mut-account.result.now in
    let is = c.index_mut-account.ensures.value in
    let low = low_in d.shared.items d.today items s at state c.requires.place.bound in
    failed-moves _ (Some at) _ _ _ c.from_residual-in_err-keep_row.ensures.0
    (told-moves d.index d.common d.count d.today d.shared.items items at c.prepare.new.self b c.args.self.now c.self.invariant c.self.view_is low is c.prepare.ensures.told)

pub returns-clause-reached : goal.returns-clause-reached
returns-clause-reached g c =
    let d = c.self.inside in
    let items = d.accounts.items in
    let at = c.args.at in
    let s = c.args.self.now.state in
    let state = state_by _ _ c.self.view_is in
    let b = c.index_mut-account.result.now in
    let is = c.index_mut-account.ensures.value in
    let low = low_in d.shared.items d.today items s at state c.requires.place.bound in
    let name = c.args.given.now.account.now in
    let key = c.args.given.now.key.now in
    let p = c.args.given.now.post.now in
    let taken : is_request (request.Post name key p) ≡ true = ap is_request (sym c.requires.request) ∙ c.in_ok-row.ensures.held in
    let place = subst (λ (x : State). IsPlace name x.accounts at) (sym state) c.requires.place in
    let allowed = subst (λ (x : State). (e : NamedAccount) → outcome_in x name key p ≡ Accepts (accepted (present_in x (get_or x.accounts at e).lists) key p)) (sym state) c.requires.accepted in
    let outcome = posted_outcome d.index d.common d.count d.today d.shared.items items at b name key p c.self.invariant low is allowed in
    let one = posted_in d.index d.common d.count d.today d.shared.items items at b name key p c.self.invariant taken place outcome in
    let x = c.prepare.new.self in
    let a = c.commit-number.new.self in
    let change = c.in_ok-change.change in
    let says = c.in_ok-change.ensures.post in
    let lists : a.named.lists ≡ accepted (present_of d.today d.common b.named.lists) key p =
    c.commit-number.ensures.lists
    ∙ (ap (λ (n : ℕ). accepted (present_of n d.common x.named.lists) change.key change.post) says.today
    ∙ (ap (λ (k : List ℕ). accepted (present_of d.today d.common x.named.lists) k change.post) (says.key ∙ c.copy-key.ensures)
    ∙ (ap (λ (q : Post). accepted (present_of d.today d.common x.named.lists) key q) says.post ∙ ap (λ (y : NamedAccount). accepted (present_of d.today d.common y.lists) key p) c.prepare.ensures.told.named))) in
    let near = subst (λ (n : ℕ). StaysNear n d.common x.named.lists a.named.lists x.folding.reached a.folding.reached) says.today c.commit-number.ensures.reached in
    done-moves _ (Some at) _ _ _
    (posted-moves d.index d.common d.count d.today d.shared.items items at a x b c.args.self.now name key p c.self.invariant c.self.view_is low is (outcome ∙ ap (λ (l : Lists). Accepts l) (sym lists))
    (subst (AreRunning (state_of d.today d.shared.items items)) (sym lists) one) c.prepare.ensures.told near)

-- ---- what is recorded
pub returns-in_err-row-clause-recorded : goal.returns-in_err-row-clause-recorded
returns-in_err-row-clause-recorded g c = unchanged c.args.at c.args.self.now.recorded

pub returns-in_err-change-clause-recorded : goal.returns-in_err-change-clause-recorded
returns-in_err-change-clause-recorded g c =
    let d = c.self.inside in
    changed_at d.today d.shared.items d.accounts.items c.args.at c.prepare.new.self c.args.self.now c.self.view_is

pub returns-in_err-keep_row-clause-recorded : goal.returns-in_err-keep_row-clause-recorded
returns-in_err-keep_row-clause-recorded g c =
    let d = c.self.inside in
    changed_at d.today d.shared.items d.accounts.items c.args.at c.prepare.new.self c.args.self.now c.self.view_is

pub returns-clause-recorded : goal.returns-clause-recorded
returns-clause-recorded g c =
    let d = c.self.inside in
    changed_at d.today d.shared.items d.accounts.items c.args.at c.commit-number.new.self c.args.self.now c.self.view_is

-- ---- what a load put off
pub returns-in_err-row-clause-unmade : goal.returns-in_err-row-clause-unmade
returns-in_err-row-clause-unmade g c = makes-none c.args.self.now c.args.at

pub returns-in_err-row-clause-put_off : goal.returns-in_err-row-clause-put_off
returns-in_err-row-clause-put_off g c = record { asked = λ none. refl; idle = λ none. refl; once = no-answer _ _ c.from_residual.ensures.0 }

pub returns-in_err-change-clause-unmade : goal.returns-in_err-change-clause-unmade
returns-in_err-change-clause-unmade g c =
    let d = c.self.inside in
    let items = d.accounts.items in
    let b = c.index_mut-account.result.now in
    let s = c.args.self.now.state in
    let state = state_by _ _ c.self.view_is in
    let is = c.index_mut-account.ensures.value in
    let low = low_in d.shared.items d.today items s c.args.at state c.requires.place.bound in
    told-made d.shared.items d.common d.today items c.args.at c.prepare.new.self b c.args.self.now c.self.view_is low is c.prepare.ensures.told

pub returns-in_err-change-clause-put_off : goal.returns-in_err-change-clause-put_off
returns-in_err-change-clause-put_off g c =
    let d = c.self.inside in
    let items = d.accounts.items in
    let b = c.index_mut-account.result.now in
    let s = c.args.self.now.state in
    let state = state_by _ _ c.self.view_is in
    let is = c.index_mut-account.ensures.value in
    let low = low_in d.shared.items d.today items s c.args.at state c.requires.place.bound in
    record {
      asked = λ none. c.prepare.ensures.put_off (sym (ap (makes_first c.args.given.now.post.now) (c.requires.accepted b.named)) ∙ none);
      idle = λ none. c.prepare.ensures.once.idle (none-there d.shared.items d.today items c.args.at b c.args.self.now c.self.view_is low is none);
      once = no-answer _ _ c.from_residual-in_err-change.ensures.0;
    }

pub returns-in_err-keep_row-clause-unmade : goal.returns-in_err-keep_row-clause-unmade
returns-in_err-keep_row-clause-unmade g c =
    let d = c.self.inside in
    let items = d.accounts.items in
    let b = c.index_mut-account.result.now in
    let s = c.args.self.now.state in
    let state = state_by _ _ c.self.view_is in
    let is = c.index_mut-account.ensures.value in
    let low = low_in d.shared.items d.today items s c.args.at state c.requires.place.bound in
    told-made d.shared.items d.common d.today items c.args.at c.prepare.new.self b c.args.self.now c.self.view_is low is c.prepare.ensures.told

pub returns-in_err-keep_row-clause-put_off : goal.returns-in_err-keep_row-clause-put_off
returns-in_err-keep_row-clause-put_off g c =
    let d = c.self.inside in
    let items = d.accounts.items in
    let b = c.index_mut-account.result.now in
    let s = c.args.self.now.state in
    let state = state_by _ _ c.self.view_is in
    let is = c.index_mut-account.ensures.value in
    let low = low_in d.shared.items d.today items s c.args.at state c.requires.place.bound in
    record {
      asked = λ none. c.prepare.ensures.put_off (sym (ap (makes_first c.args.given.now.post.now) (c.requires.accepted b.named)) ∙ none);
      idle = λ none. c.prepare.ensures.once.idle (none-there d.shared.items d.today items c.args.at b c.args.self.now c.self.view_is low is none);
      once = no-answer _ _ c.from_residual-in_err-keep_row.ensures.0;
    }

pub returns-clause-unmade : goal.returns-clause-unmade
returns-clause-unmade g c =
    let d = c.self.inside in
    let items = d.accounts.items in
    let b = c.index_mut-account.result.now in
    let s = c.args.self.now.state in
    let state = state_by _ _ c.self.view_is in
    let is = c.index_mut-account.ensures.value in
    let low = low_in d.shared.items d.today items s c.args.at state c.requires.place.bound in
    let x = c.prepare.new.self in
    let a = c.commit-number.new.self in
    posted-made d.shared.items d.common d.today items c.args.at a x b c.args.self.now c.self.view_is low is c.prepare.ensures.told
    (same-owed c.in_ok-change.change x.late a.late c.commit-number.ensures.late c.in_ok-change.ensures.made)

pub returns-clause-put_off : goal.returns-clause-put_off
returns-clause-put_off g c =
    let d = c.self.inside in
    let items = d.accounts.items in
    let b = c.index_mut-account.result.now in
    let s = c.args.self.now.state in
    let state = state_by _ _ c.self.view_is in
    let is = c.index_mut-account.ensures.value in
    let low = low_in d.shared.items d.today items s c.args.at state c.requires.place.bound in
    let x = c.prepare.new.self in
    let a = c.commit-number.new.self in
    let same = same-owed c.in_ok-change.change x.late a.late c.commit-number.ensures.late c.in_ok-change.ensures.made in
    record {
      asked = λ none. c.prepare.ensures.put_off (sym (ap (makes_first c.args.given.now.post.now) (c.requires.accepted b.named)) ∙ none);
      idle = λ none. c.prepare.ensures.once.idle (none-there d.shared.items d.today items c.args.at b c.args.self.now c.self.view_is low is none);
      once = after-post d.shared.items d.today items c.args.at a c.args.put_off.now c.prepare.new.put_off low x.late same c.in_ok-change.ensures.once.once;
    }
