use Rattle.std.proofs.Common.{◌≡◌, ℕ, true, ◌+◌, ◌<◌, List, [], ◌∷◌, ◌++◌, length, None, refl, sym, ap, subst, ◌∙◌, arith}
use Rattle.std.proofs.lemmas.List.{length-map, map-append}
use Rattle.card_account.specs.Accounts.{OpenAccount}
use Rattle.card_events.specs.declared.reply.Reply.TheVariants as reply
use Rattle.card_events.specs.declared.request.Request.{Request}
use Rattle.card_events.specs.declared.request.Request.TheVariants as request
use Rattle.card_model.specs.Machine.{State, NamedAccount, kept_as, outcome_in}
use Rattle.card_model.specs.Refusals.{Lists}
use Rattle.card_desk.specs.Applied.{Steps}
use Rattle.card_desk.specs.Desks.{IsDesk, named_all, state_of}
use Rattle.card_desk.specs.Kept.{row_of, accepted_count}
use Rattle.card_desk.specs.Places.{place_from}
use Rattle.card_desk.proofs.DeskLemmas.{count_opened, opened_state, state_by}
use Rattle.card_desk.proofs.IndexLemmas.{index_back, index_pushed}
use Rattle.card_desk.specs.IndexPlaces.{Places}
use Rattle.card_desk.proofs.KeptLemmas.{index_desk, opened_desk}
use Rattle.card_desk.proofs.OutcomeLemmas.{open_accepted, opening_reason}
use Rattle.card_desk.proofs.Running.{opened_is_running, opened_sound}
use Rattle.card_replay.specs.Replays.{opened_lists}
use Rattle.card_desk.proofs.PlaceLemmas.{no_place}
use Rattle.card_desk.proofs.StepLemmas.{goes_on, kept, post_accepted, wanted_memory}
use Rattle.card_rows.specs.Held.{is_request}
use Rattle.card_desk.proofs.Moves.{done-moves, failed-moves, opened-moves}
use Rattle.card_desk.specs.Desks.{OpenDesk, reached_all}
use Rattle.card_desk.proofs.Recording.{grown_by}
use Rattle.card_desk.specs.Desks.{recorded_all}
use Rattle.card_desk.specs.Recorded.{MayGrow}
use Rattle.card_desk.proofs.Unmade.{opened-made}
use Rattle.card_desk.proofs.desk.Desk.keep_open.Goals as goal

pub keep_row-requires : goal.keep_row-requires
keep_row-requires g c = goes_on _ c.args.self.now.state c.args.given.now.request.now c.in_ok-row.row c.requires.asked.fits c.in_ok-row.ensures.value

pub invariant_of-self-in-Ok : goal.invariant_of-self-in-Ok
invariant_of-self-in-Ok g c =
    let d = c.self.inside in
    let made = c.in_ok-made.made in
    let items = d.accounts.items in
    let name = c.args.given.now.account.now in
    let key = c.args.given.now.key.now in
    let p = c.args.given.now.post.now in
    let accounts : c.push_account.new.list.items ≡ items ++ made ∷ [] = c.push_account.ensures ∙ ap (λ l. l ++ made ∷ []) c.in_ok-reserve.ensures.items in
    let made_is : made.named ≡ record { name = name; lists = record { posts = kept_as 1 key d.today p ∷ []; issued = [] } } =
    c.in_ok-made.ensures.named ∙ ap (λ (n : List ℕ). record { name = n; lists = record { posts = kept_as 1 key d.today p ∷ []; issued = [] } }) c.copy-name.ensures in
    let name_is : made.named.name ≡ name = ap (λ (a : NamedAccount). a.name) made_is in
    let absent : place_from name 0 (named_all items) ≡ None = ap (λ (x : State). place_from name 0 x.accounts) (state_by _ _ c.self.view_is) ∙ c.requires.absent in
    let none = ap (λ (x : State). opening_reason x p) (state_by _ _ c.self.view_is) ∙ c.requires.no_reason in
    let long : length (named_all items) ≡ length items = length-map items (λ (x : OpenAccount). x.named) in
    let place : c.len-place.result ≡ length (named_all items) = c.len-place.ensures ∙ c.reserve.new.self.ok.0 ∙ ap (λ l. length l) c.in_ok-reserve.ensures.items ∙ sym long in
    let room : length items < 1000000 = omega (arith, c.requires.room, ap (λ (x : State). length x.accounts) (state_by _ _ c.self.view_is), long) in
    let index = index_pushed d.index c.insert.new.self (named_all items) made.named c.bytes.result.now c.len-place.result c.self.invariant.index c.in_ok-insert.ensures.ok place (c.bytes.ensures.value ∙ sym name_is)
    (ap (λ (n : List ℕ). place_from n 0 (named_all items)) name_is ∙ absent) in
    let held = ap is_request (sym c.requires.request) ∙ c.in_ok-row.ensures.held in
    let taken : is_request (request.Post name key p) ≡ true = held in
    subst (λ (l : List OpenAccount). IsDesk c.insert.new.self d.common (d.count + 1) d.today d.shared.items l) (sym accounts)
    (opened_desk d.index c.insert.new.self d.common d.count d.today d.shared.items items made name key p c.self.invariant taken absent c.requires.open none made_is index room
    c.in_ok-made.ensures.account)

pub returns-in-Ok-clause-carried : goal.returns-in-Ok-clause-carried
returns-in-Ok-clause-carried g c =
    let s = c.args.self.now.state in
    let d = c.self.inside in
    let name = c.args.given.now.account.now in
    let key = c.args.given.now.key.now in
    let p = c.args.given.now.post.now in
    let made = c.in_ok-made.made in
    let rows = g.K.Keeper.rows c.args.keeper.now in
    let grown = g.K.Keeper.rows c.keep_row.new.keeper in
    let l : Lists = record { posts = kept_as 1 key s.today p ∷ []; issued = [] } in
    let t : State = state_of d.today d.shared.items c.push_account.new.list.items in
    let today = ap (λ (x : State). x.today) (state_by _ _ c.self.view_is) in
    let items : c.push_account.new.list.items ≡ d.accounts.items ++ made ∷ [] = c.push_account.ensures ∙ ap (λ l. l ++ made ∷ []) c.in_ok-reserve.ensures.items in
    let accounts : t.accounts ≡ s.accounts ++ made.named ∷ [] =
    ap named_all items ∙ map-append (λ (x : OpenAccount). x.named) d.accounts.items (made ∷ []) ∙ ap (λ (x : State). x.accounts ++ made.named ∷ []) (state_by _ _ c.self.view_is) in
    let made_is : made.named ≡ record { name = name; lists = l } =
    c.in_ok-made.ensures.named ∙ ap (λ (n : List ℕ). record { name = n; lists = record { posts = kept_as 1 key d.today p ∷ []; issued = [] } }) c.copy-name.ensures
    ∙ ap (λ (n : ℕ). record { name = name; lists = record { posts = kept_as 1 key n p ∷ []; issued = [] } }) today in
    let state = opened_state s t name l made.named today (ap (λ (x : State). x.shared) (state_by _ _ c.self.view_is)) accounts made_is c.requires.absent in
    let one : length made.named.lists.posts ≡ 1 = ap (λ (a : NamedAccount). length a.lists.posts) made_is in
    let outcome = open_accepted s name key p (no_place name 0 s.accounts c.requires.absent).0 c.requires.open c.requires.no_reason in
    kept (g.K.Keeper.rows c.args.keeper.now) (g.K.Keeper.rows c.keep_row.new.keeper) (g.K.Keeper.faults c.args.keeper.now) (g.K.Keeper.faults c.keep_row.new.keeper) s t c.args.given.now.request.now (reply.Accepted 1) c.keep_row.ensures.told c.in-Ok.ensures.counts.unfailed
    (subst (λ (x : Request). Steps rows grown s x t (reply.Accepted 1)) (sym c.requires.request)
    (post_accepted rows grown s t name key p l 1 c.in_ok-row.row c.keep_row.ensures.told c.in-Ok.ensures.ok (c.in_ok-row.ensures.value ∙ ap (λ (x : Request). row_of (accepted_count s + 1) x) c.requires.request)
    outcome state refl (count_opened s t made.named (ap (λ (x : State). x.shared) (state_by _ _ c.self.view_is)) accounts one)))

pub invariant_of-self-in-Err : goal.invariant_of-self-in-Err
invariant_of-self-in-Err g c =
    let d = c.self.inside in
    let items = d.accounts.items in
    let name = c.bytes.result.now in
    let absent : place_from name 0 (named_all items) ≡ None =
    ap (λ (n : List ℕ). place_from n 0 (named_all items)) c.bytes.ensures.value ∙ ap (λ (x : State). place_from c.args.given.now.account.now 0 x.accounts) (state_by _ _ c.self.view_is) ∙ c.requires.absent in
    let lost = subst (λ (n : List ℕ). Places c.insert.new.self c.remove.new.self n None) (c.bytes-in-Err.ensures.value ∙ sym c.bytes.ensures.value) c.remove.ensures in
    let index = index_back d.index c.insert.new.self c.remove.new.self (named_all items) name c.len-place.result c.self.invariant.index c.in_ok-insert.ensures.ok lost absent in
    subst (λ (l : List OpenAccount). IsDesk c.remove.new.self d.common d.count d.today d.shared.items l) (sym c.in_ok-reserve.ensures.items)
    (index_desk d.index c.remove.new.self d.common d.count d.today d.shared.items items c.self.invariant index)

-- ---- where memory is wanted
pub returns-in_err-reserve-clause-carried : goal.returns-in_err-reserve-clause-carried
returns-in_err-reserve-clause-carried g c =
    let d = c.self.inside in
    let state = ap (λ (l : List OpenAccount). state_of d.today d.shared.items l) c.reserve.ensures.items ∙ state_by _ _ c.self.view_is in
    wanted_memory (g.K.Keeper.rows c.args.keeper.now) (g.K.Keeper.faults c.args.keeper.now) c.args.self.now.state (state_of d.today d.shared.items c.reserve.new.self.items) c.args.given.now.request.now
    c.from_residual-in_err-reserve.result state c.from_residual-in_err-reserve.ensures

pub returns-in_err-insert-clause-carried : goal.returns-in_err-insert-clause-carried
returns-in_err-insert-clause-carried g c =
    let d = c.self.inside in
    let state = ap (λ (l : List OpenAccount). state_of d.today d.shared.items l) c.reserve.ensures.items ∙ state_by _ _ c.self.view_is in
    wanted_memory (g.K.Keeper.rows c.args.keeper.now) (g.K.Keeper.faults c.args.keeper.now) c.args.self.now.state (state_of d.today d.shared.items c.reserve.new.self.items) c.args.given.now.request.now
    c.from_residual-in_err-insert.result state c.from_residual-in_err-insert.ensures

-- ---- the account that is opened
pub open-requires-clause-opened : goal.open-requires-clause-opened
open-requires-clause-opened g c =
    let d = c.self.inside in
    let s = c.args.self.now.state in
    let state = state_by _ _ c.self.view_is in
    let taken : is_request (request.Post c.args.given.now.account.now c.args.given.now.key.now c.args.given.now.post.now) ≡ true = ap is_request (sym c.requires.request) ∙ c.in_ok-row.ensures.held in
    (opened_is_running d.index d.common d.count d.today d.shared.items d.accounts.items s c.args.given.now.account.now c.args.given.now.key.now c.args.given.now.post.now c.self.invariant state taken c.requires.absent c.requires.open c.requires.no_reason).opened

pub open-requires-clause-dated : goal.open-requires-clause-dated
open-requires-clause-dated g c = c.self.invariant.dated

pub open-requires-clause-sound : goal.open-requires-clause-sound
open-requires-clause-sound g c =
    let d = c.self.inside in
    let s = c.args.self.now.state in
    let state = state_by _ _ c.self.view_is in
    let taken : is_request (request.Post c.args.given.now.account.now c.args.given.now.key.now c.args.given.now.post.now) ≡ true = ap is_request (sym c.requires.request) ∙ c.in_ok-row.ensures.held in
    opened_sound d.index d.common d.count d.today d.shared.items d.accounts.items (opened_lists c.args.given.now.key.now d.today c.args.given.now.post.now) c.self.invariant
    (opened_is_running d.index d.common d.count d.today d.shared.items d.accounts.items s c.args.given.now.account.now c.args.given.now.key.now c.args.given.now.post.now c.self.invariant state taken c.requires.absent c.requires.open c.requires.no_reason)

-- ---- the days that accounts have reached
pub returns-in_err-row-clause-reached : goal.returns-in_err-row-clause-reached
returns-in_err-row-clause-reached g c = failed-moves _ None _ _ _ c.from_residual.ensures.0 refl

pub returns-in_err-made-clause-reached : goal.returns-in_err-made-clause-reached
returns-in_err-made-clause-reached g c = failed-moves _ None _ _ _ c.from_residual-in_err-made.ensures.0 refl

pub returns-in_err-reserve-clause-reached : goal.returns-in_err-reserve-clause-reached
returns-in_err-reserve-clause-reached g c =
    failed-moves _ None _ _ _ c.from_residual-in_err-reserve.ensures.0 (ap reached_all c.reserve.ensures.items ∙ ap (λ (x : OpenDesk). x.reached) c.self.view_is)

pub returns-in_err-insert-clause-reached : goal.returns-in_err-insert-clause-reached
returns-in_err-insert-clause-reached g c =
    failed-moves _ None _ _ _ c.from_residual-in_err-insert.ensures.0 (ap reached_all c.reserve.ensures.items ∙ ap (λ (x : OpenDesk). x.reached) c.self.view_is)

pub returns-in-Err-clause-reached : goal.returns-in-Err-clause-reached
returns-in-Err-clause-reached g c = record { done = tt; failed = ap reached_all c.reserve.ensures.items ∙ ap (λ (x : OpenDesk). x.reached) c.self.view_is }

pub returns-in-Ok-clause-reached : goal.returns-in-Ok-clause-reached
returns-in-Ok-clause-reached g c =
    let s = c.args.self.now.state in
    let d = c.self.inside in
    let key = c.args.given.now.key.now in
    let p = c.args.given.now.post.now in
    let l : Lists = record { posts = kept_as 1 key s.today p ∷ []; issued = [] } in
    let items : c.push_account.new.list.items ≡ d.accounts.items ++ c.in_ok-made.made ∷ [] = c.push_account.ensures ∙ ap (λ l. l ++ c.in_ok-made.made ∷ []) c.in_ok-reserve.ensures.items in
    let outcome = open_accepted s c.args.given.now.account.now key p (no_place c.args.given.now.account.now 0 s.accounts c.requires.absent).0 c.requires.open c.requires.no_reason in
    done-moves _ None _ _ _
    (opened-moves d.shared.items d.today d.accounts.items c.push_account.new.list.items c.in_ok-made.made c.args.self.now (outcome_in s c.args.given.now.account.now key p) l c.self.view_is items c.in_ok-made.ensures.reached outcome)

pub returns-in-Ok-clause-recorded : goal.returns-in-Ok-clause-recorded
returns-in-Ok-clause-recorded g c =
    let d = c.self.inside in
    let made = c.in_ok-made.made in
    let items : c.push_account.new.list.items ≡ d.accounts.items ++ made ∷ [] = c.push_account.ensures ∙ ap (λ l. l ++ made ∷ []) c.in_ok-reserve.ensures.items in
    subst (λ (xs : List OpenAccount). MayGrow c.args.self.now.recorded (recorded_all xs)) (sym items) (grown_by d.today d.shared.items d.accounts.items made c.args.self.now c.self.view_is)

pub returns-in-Ok-clause-unmade : goal.returns-in-Ok-clause-unmade
returns-in-Ok-clause-unmade g c =
    let d = c.self.inside in
    let made = c.in_ok-made.made in
    let items : c.push_account.new.list.items ≡ d.accounts.items ++ made ∷ [] = c.push_account.ensures ∙ ap (λ l. l ++ made ∷ []) c.in_ok-reserve.ensures.items in
    opened-made d.shared.items d.today d.accounts.items c.push_account.new.list.items made c.args.self.now c.self.view_is items c.in_ok-made.ensures.none
