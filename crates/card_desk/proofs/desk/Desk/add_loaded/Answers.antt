use Rattle.std.proofs.Common.{◌≡◌, ℕ, true, ◌+◌, ◌≤◌, List, length, get_or, set, refl, sym, ap, subst, ◌∙◌, arith}
use Rattle.std.proofs.lemmas.List.{length-map, map-set}
use Rattle.card_account.specs.Accounts.{IsAccount, OpenAccount}
use Rattle.card_replay.proofs.Loading.{bill-alone}
use Rattle.card_replay.specs.Replays.{given_of, present_of}
use Rattle.card_daily.specs.Given.{IsSound}
use Rattle.card_events.specs.Dated.{is_dated}
use Rattle.card_events.specs.Keys.{with_key}
use Rattle.card_events.specs.Limits.{post_limit}
use Rattle.card_reasons.proofs.Accepted.{few}
use Rattle.card_events.specs.declared.post.Post.{Post}
use Rattle.card_events.specs.declared.reply.Reply.{Reply}
use Rattle.card_events.specs.declared.request.Request.{Request}
use Rattle.card_events.specs.declared.request.Request.TheVariants as request
use Rattle.card_model.specs.Machine.{Accepts, State, NamedAccount, accepted, outcome_in, step}
use Rattle.card_model.specs.Refusals.{Lists}
use Rattle.card_model.specs.Work.{present_in}
use Rattle.card_desk.specs.Desks.{named_all, now_at, state_of}
use Rattle.card_desk.specs.Places.{IsPlace}
use Rattle.card_desk.proofs.CountLemmas.{short_sum}
use Rattle.card_desk.proofs.DeskLemmas.{changed_state, read_at, state_by}
use Rattle.card_desk.proofs.FoldLemmas.{account_at, none_at}
use Rattle.card_desk.proofs.KeptLemmas.{longer, posted_desk}
use Rattle.card_desk.proofs.OutcomeLemmas.{closed_of, fresh_of, known_outcome}
use Rattle.card_desk.proofs.Reading.{low_in, told_desk}
use Rattle.card_desk.proofs.Running.{opened_sound, posted_in, posted_outcome}
use Rattle.card_desk.proofs.StepLemmas.{post_step}
use Rattle.card_rows.specs.Held.{is_request}
use Rattle.card_desk.proofs.desk.Desk.add_loaded.Goals as goal

-- ---- the account's conditions
pub prepare_loaded-requires-clause-account : goal.prepare_loaded-requires-clause-account
prepare_loaded-requires-clause-account g c =
    let d = c.self.inside in
    let items = d.accounts.items in
    let at = c.args.at in
    let s = c.args.self.now.state in
    let state = state_by _ _ c.self.view_is in
    let b = c.index_mut-account.result.now in
    let is = c.index_mut-account.ensures.value in
    let low = low_in d.shared.items d.today items s at state c.requires.place.bound in
    account_at d.index d.common d.count d.today d.shared.items items at b c.self.invariant low is

pub prepare_loaded-requires-clause-dated : goal.prepare_loaded-requires-clause-dated
unfolding is_dated
prepare_loaded-requires-clause-dated g c = subst (λ (x : Request). is_dated x ≡ true) c.requires.request c.requires.dated

pub prepare_loaded-requires-clause-not_open : goal.prepare_loaded-requires-clause-not_open
prepare_loaded-requires-clause-not_open g c =
    let s = c.args.self.now.state in
    let key = c.args.given.now.key.now in
    let p = c.args.given.now.post.now in
    let e = c.index_mut-account.result.now.named in
    let there = known_outcome s c.args.given.now.account.now key p (get_or s.accounts c.args.at e).lists (c.requires.place.there e) in
    closed_of (now_at s c.args.at e) key p (with_key key (get_or s.accounts c.args.at e).lists.posts) (accepted (now_at s c.args.at e) key p) (sym there ∙ c.requires.accepted e)

pub prepare_loaded-requires-clause-fresh : goal.prepare_loaded-requires-clause-fresh
prepare_loaded-requires-clause-fresh g c =
    let d = c.self.inside in
    let items = d.accounts.items in
    let at = c.args.at in
    let name = c.args.given.now.account.now in
    let key = c.args.given.now.key.now in
    let p = c.args.given.now.post.now in
    let s = c.args.self.now.state in
    let state = state_by _ _ c.self.view_is in
    let b = c.index_mut-account.result.now in
    let is = c.index_mut-account.ensures.value in
    let there = known_outcome s name key p (get_or s.accounts at b.named).lists (c.requires.place.there b.named) in
    let fresh = fresh_of (now_at s at b.named) key p (with_key key (get_or s.accounts at b.named).lists.posts) (accepted (now_at s at b.named) key p) (sym there ∙ c.requires.accepted b.named) in
    let read = read_at items s.accounts at b b.named is (ap (λ (x : State). x.accounts) state) c.requires.place.bound in
    ap (λ (k : List ℕ). with_key k b.named.lists.posts) c.copy-key.ensures ∙ (ap (λ (x : NamedAccount). with_key key x.lists.posts) read ∙ fresh)

pub prepare_loaded-requires-clause-no_reason : goal.prepare_loaded-requires-clause-no_reason
prepare_loaded-requires-clause-no_reason g c =
    let d = c.self.inside in
    let items = d.accounts.items in
    let at = c.args.at in
    let p = c.args.given.now.post.now in
    let s = c.args.self.now.state in
    let state = state_by _ _ c.self.view_is in
    let b = c.index_mut-account.result.now in
    let is = c.index_mut-account.ensures.value in
    none_at d.index d.common d.count d.today d.shared.items items at b s p c.self.invariant state c.requires.place.bound is c.requires.no_reason

pub prepare_loaded-requires-clause-sound : goal.prepare_loaded-requires-clause-sound
prepare_loaded-requires-clause-sound g c =
    let d = c.self.inside in
    let items = d.accounts.items in
    let at = c.args.at in
    let name = c.args.given.now.account.now in
    let key = c.args.given.now.key.now in
    let p = c.args.given.now.post.now in
    let s = c.args.self.now.state in
    let state = state_by _ _ c.self.view_is in
    let b = c.index_mut-account.result.now in
    let is = c.index_mut-account.ensures.value in
    let low = low_in d.shared.items d.today items s at state c.requires.place.bound in
    let taken : is_request (request.Post name key p) ≡ true = ap is_request (sym c.requires.request) ∙ c.requires.taken in
    let place = subst (λ (x : State). IsPlace name x.accounts at) (sym state) c.requires.place in
    let allowed = subst (λ (x : State). (e : NamedAccount) → outcome_in x name key p ≡ Accepts (accepted (present_in x (get_or x.accounts at e).lists) key p)) (sym state) c.requires.accepted in
    let outcome = posted_outcome d.index d.common d.count d.today d.shared.items items at b name key p c.self.invariant low is allowed in
    let one = posted_in d.index d.common d.count d.today d.shared.items items at b name key p c.self.invariant taken place outcome in
    subst (λ (k : List ℕ). IsSound (given_of (accepted (present_of d.today d.common b.named.lists) k p) d.common)) (sym c.copy-key.ensures)
    (opened_sound d.index d.common d.count d.today d.shared.items items (accepted (present_of d.today d.common b.named.lists) key p) c.self.invariant one)

-- ---- where memory ran out
pub invariant_of-self : goal.invariant_of-self
invariant_of-self g c =
    let d = c.self.inside in
    let items = d.accounts.items in
    let s = c.args.self.now.state in
    let state = state_by _ _ c.self.view_is in
    let b = c.index_mut-account.result.now in
    let is = c.index_mut-account.ensures.value in
    told_desk d.index d.common d.count d.today d.shared.items items c.args.at c.prepare_loaded.new.self b s c.self.invariant state c.requires.place.bound is c.prepare_loaded.ensures.told

-- ---- where the post is taken
pub overflow_add-self : goal.overflow_add-self
overflow_add-self g c =
    let d = c.self.inside in
    omega (arith, c.self.invariant.counted, d.shared.small, d.shared.ok, short_sum (named_all d.accounts.items) c.self.invariant.short, c.self.invariant.few, length-map d.accounts.items (λ (x : OpenAccount). x.named))

pub invariant_of-self-2 : goal.invariant_of-self-2
invariant_of-self-2 g c =
    let d = c.self.inside in
    let items = d.accounts.items in
    let at = c.args.at in
    let name = c.args.given.now.account.now in
    let key = c.args.given.now.key.now in
    let p = c.args.given.now.post.now in
    let s = c.args.self.now.state in
    let state = state_by _ _ c.self.view_is in
    let b = c.index_mut-account.result.now in
    let is = c.index_mut-account.ensures.value in
    let low = low_in d.shared.items d.today items s at state c.requires.place.bound in
    let taken : is_request (request.Post name key p) ≡ true = ap is_request (sym c.requires.request) ∙ c.requires.taken in
    let place = subst (λ (x : State). IsPlace name x.accounts at) (sym state) c.requires.place in
    let allowed = subst (λ (x : State). (e : NamedAccount) → outcome_in x name key p ≡ Accepts (accepted (present_in x (get_or x.accounts at e).lists) key p)) (sym state) c.requires.accepted in
    let outcome = posted_outcome d.index d.common d.count d.today d.shared.items items at b name key p c.self.invariant low is allowed in
    let x = c.prepare_loaded.new.self in
    let a = c.commit.new.self in
    let change = c.in_ok-change.change in
    let says = c.in_ok-change.ensures.post in
    let same = c.prepare_loaded.ensures.told.named in
    let lists : a.named.lists ≡ accepted (present_of d.today d.common b.named.lists) key p =
    c.commit.ensures.lists
    ∙ (ap (λ (n : ℕ). accepted (present_of n d.common x.named.lists) change.key change.post) says.today
    ∙ (ap (λ (k : List ℕ). accepted (present_of d.today d.common x.named.lists) k change.post) (says.key ∙ c.copy-key.ensures)
    ∙ (ap (λ (q : Post). accepted (present_of d.today d.common x.named.lists) key q) says.post ∙ ap (λ (y : NamedAccount). accepted (present_of d.today d.common y.lists) key p) same))) in
    let grew : length a.named.lists.posts ≡ length b.named.lists.posts + 1 = ap (λ (l : Lists). length l.posts) lists ∙ longer (present_of d.today d.common b.named.lists) key p in
    let named : a.named.name ≡ (get_or items at b).named.name = c.commit.ensures.name ∙ (ap (λ (y : NamedAccount). y.name) same ∙ ap (λ (y : OpenAccount). y.named.name) is) in
    let comes = outcome ∙ ap (λ (l : Lists). Accepts l) (sym lists) in
    let read = read_at items s.accounts at b b.named is (ap (λ (y : State). y.accounts) state) c.requires.place.bound in
    let room = few (present_in s (get_or s.accounts at b.named).lists) p (c.requires.no_reason b.named) in
    let short : length a.named.lists.posts ≤ post_limit = omega (arith, grew, room, ap (λ (y : NamedAccount). length y.lists.posts) read) in
    posted_desk d.index d.common d.count d.today d.shared.items items at a b name key p c.self.invariant taken place low named comes
    (grew ∙ ap (λ (y : OpenAccount). length y.named.lists.posts + 1) is) short (subst (λ (n : ℕ). IsAccount n d.common a) says.today c.commit.ensures.account)

pub returns-clause-state : goal.returns-clause-state
returns-clause-state g c =
    let d = c.self.inside in
    let items = d.accounts.items in
    let at = c.args.at in
    let name = c.args.given.now.account.now in
    let key = c.args.given.now.key.now in
    let p = c.args.given.now.post.now in
    let s = c.args.self.now.state in
    let state = state_by _ _ c.self.view_is in
    let b = c.index_mut-account.result.now in
    let is = c.index_mut-account.ensures.value in
    let low = low_in d.shared.items d.today items s at state c.requires.place.bound in
    let allowed = subst (λ (x : State). (e : NamedAccount) → outcome_in x name key p ≡ Accepts (accepted (present_in x (get_or x.accounts at e).lists) key p)) (sym state) c.requires.accepted in
    let outcome = posted_outcome d.index d.common d.count d.today d.shared.items items at b name key p c.self.invariant low is allowed in
    let x = c.prepare_loaded.new.self in
    let a = c.commit.new.self in
    let change = c.in_ok-change.change in
    let says = c.in_ok-change.ensures.post in
    let same = c.prepare_loaded.ensures.told.named in
    let lists : a.named.lists ≡ accepted (present_of d.today d.common b.named.lists) key p =
    c.commit.ensures.lists
    ∙ (ap (λ (n : ℕ). accepted (present_of n d.common x.named.lists) change.key change.post) says.today
    ∙ (ap (λ (k : List ℕ). accepted (present_of d.today d.common x.named.lists) k change.post) (says.key ∙ c.copy-key.ensures)
    ∙ (ap (λ (q : Post). accepted (present_of d.today d.common x.named.lists) key q) says.post ∙ ap (λ (y : NamedAccount). accepted (present_of d.today d.common y.lists) key p) same))) in
    let today = ap (λ (y : State). y.today) state in
    let shared = ap (λ (y : State). y.shared) state in
    let t : State = state_of d.today d.shared.items (set items at a) in
    let accounts : t.accounts ≡ set s.accounts at a.named = map-set (λ (y : OpenAccount). y.named) items at a ∙ ap (λ (y : State). set y.accounts at a.named) state in
    let read = read_at items s.accounts at b b.named is (ap (λ (y : State). y.accounts) state) c.requires.place.bound in
    let named : a.named.name ≡ (get_or s.accounts at b.named).name = c.commit.ensures.name ∙ (ap (λ (y : NamedAccount). y.name) same ∙ ap (λ (y : NamedAccount). y.name) read) in
    let allows = ap (λ (y : State). outcome_in y name key p) (sym state) ∙ (outcome ∙ ap (λ (l : Lists). Accepts l) (sym lists)) in
    let next = changed_state s t name a.named.lists at a.named b.named c.requires.place today shared accounts named refl in
    next ∙ sym (ap (λ (y : State × Reply). y.0) (ap (step s) c.requires.request ∙ post_step s name key p (Accepts a.named.lists) allows))

-- ---- no step for a Bill
pub returns-clause-idle : goal.returns-clause-idle
returns-clause-idle g c = λ bill.
    let b = c.index_mut-account.result.now in
    let idle = c.prepare_loaded.ensures.idle in
    (idle.idle (bill-alone c.args.given.now.post.now idle.from b.late.owed bill)).2
