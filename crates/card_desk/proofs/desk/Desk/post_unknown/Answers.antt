use Rattle.std.proofs.Common.{Option, None, ◌≡◌, ℕ, List, length, sym, ap, subst, ◌∙◌, arith}
use Rattle.std.proofs.lemmas.List.{length-map}
use Rattle.card_account.specs.Accounts.{OpenAccount}
use Rattle.card_events.specs.declared.reply.Refusal.TheVariants as refusal
use Rattle.card_events.specs.declared.reply.Reply.TheVariants as reply
use Rattle.card_events.specs.declared.request.Request.{Request}
use Rattle.card_events.specs.declared.request.Shared.{Shared}
use Rattle.card_events.specs.SharedRows.{SharedRows, shared_rows}
use Rattle.card_events.specs.declared.post.Post.{Post}
use Rattle.card_events.specs.declared.reply.Refusal.{Refusal}
use Rattle.card_model.specs.Machine.{State, outcome_in}
use Rattle.card_model.specs.Refusals.{reason_to_open}
use Rattle.card_desk.specs.Applied.{Steps}
use Rattle.card_desk.proofs.OutcomeLemmas.{open_refused, opening_reason, reason_under, unknown_refused}
use Rattle.card_desk.proofs.PlaceLemmas.{no_place}
use Rattle.card_desk.proofs.StepLemmas.{answered, post_refused}
use Rattle.card_desk.proofs.DeskLemmas.{state_by}
use Rattle.card_desk.specs.Desks.{IsDesk, state_of}
use Rattle.card_desk.proofs.Moves.{away-moves, done-moves}
use Rattle.card_desk.proofs.desk.Desk.post_unknown.Goals as goal

-- the reason that a desk finds is that of its state
its-reason : (places : List (List ℕ × ℕ)) (common : SharedRows) (count today : ℕ) (rows : List Shared) (accounts : List OpenAccount) (s : State) (p : Post) (many : ℕ) (r : Option Refusal)
    → IsDesk places common count today rows accounts → state_of today rows accounts ≡ s → many ≡ length accounts → r ≡ reason_to_open today many common p → opening_reason s p ≡ r
its-reason places common count today rows accounts s p many r desk state count-is is =
    ap (λ (x : State). opening_reason x p) (sym state)
    ∙ (ap (λ (n : ℕ). reason_to_open today n (shared_rows rows) p) (length-map accounts (λ (x : OpenAccount). x.named) ∙ sym count-is)
    ∙ (sym (reason_under today many common (shared_rows rows) p desk.index_rows) ∙ sym is))

pub keep_open-requires-clause-room : goal.keep_open-requires-clause-room
keep_open-requires-clause-room g c =
    let room = c.open_reason.ensures.room c.in-None.is in
    let many = ap (λ (x : State). length x.accounts) (state_by _ _ c.self.view_is) in
    omega (arith, room, many, c.len.ensures, c.self.inside.accounts.ok.0, length-map c.self.inside.accounts.items (λ (x : OpenAccount). x.named))

pub keep_open-requires-clause-open : goal.keep_open-requires-clause-open
keep_open-requires-clause-open g c = sym c.is_open.ensures ∙ c.if-not-is_open.false

pub open_reason-requires : goal.open_reason-requires
open_reason-requires g c = record { opens = sym c.is_open.ensures ∙ c.if-not-is_open.false }

pub keep_open-requires-clause-no_reason : goal.keep_open-requires-clause-no_reason
keep_open-requires-clause-no_reason g c =
    let d = c.self.inside in
    its-reason d.index d.common d.count d.today d.shared.items d.accounts.items c.args.self.now.state c.args.given.now.post.now c.len.result c.open_reason.result c.self.invariant (state_by _ _ c.self.view_is)
    (c.len.ensures ∙ c.self.inside.accounts.ok.0) c.open_reason.ensures.value ∙ c.in-None.is

pub returns-in-Some-clause-carried : goal.returns-in-Some-clause-carried
returns-in-Some-clause-carried g c =
    let s = c.args.self.now.state in
    let d = c.self.inside in
    let name = c.args.given.now.account.now in
    let key = c.args.given.now.key.now in
    let p = c.args.given.now.post.now in
    let rows = g.K.Keeper.rows c.args.keeper.now in
    let absent = (no_place name 0 s.accounts c.requires.absent).0 in
    let reason = its-reason d.index d.common d.count d.today d.shared.items d.accounts.items s p c.len.result c.open_reason.result c.self.invariant (state_by _ _ c.self.view_is)
    (c.len.ensures ∙ c.self.inside.accounts.ok.0) c.open_reason.ensures.value ∙ c.in-Some.is in
    let outcome = open_refused s name key p c.in-Some.refusal absent (sym c.is_open.ensures ∙ c.if-not-is_open.false) reason in
    answered (g.K.Keeper.rows c.args.keeper.now) (g.K.Keeper.faults c.args.keeper.now) s c.args.given.now.request.now (reply.Refused c.in-Some.refusal)
    (subst (λ (x : Request). Steps rows rows s x s (reply.Refused c.in-Some.refusal)) (sym c.requires.request) (post_refused rows s name key c.args.given.now.post.now c.in-Some.refusal c.requires.asked.fits outcome))

pub returns-then-not-is_open-clause-carried : goal.returns-then-not-is_open-clause-carried
returns-then-not-is_open-clause-carried g c =
    let s = c.args.self.now.state in
    let name = c.args.given.now.account.now in
    let key = c.args.given.now.key.now in
    let p = c.args.given.now.post.now in
    let rows = g.K.Keeper.rows c.args.keeper.now in
    let absent = (no_place name 0 s.accounts c.requires.absent).0 in
    answered rows (g.K.Keeper.faults c.args.keeper.now) s c.args.given.now.request.now (reply.Refused refusal.UnknownAccount)
    (subst (λ (x : Request). Steps rows rows s x s (reply.Refused refusal.UnknownAccount)) (sym c.requires.request)
    (post_refused rows s name key p refusal.UnknownAccount c.requires.asked.fits (unknown_refused s name key p absent (sym c.is_open.ensures ∙ c.if-not-is_open.true))))

-- ---- the days that accounts have reached
pub returns-in-Some-clause-reached : goal.returns-in-Some-clause-reached
returns-in-Some-clause-reached g c =
    let s = c.args.self.now.state in
    let d = c.self.inside in
    let name = c.args.given.now.account.now in
    let key = c.args.given.now.key.now in
    let p = c.args.given.now.post.now in
    let absent = (no_place name 0 s.accounts c.requires.absent).0 in
    let reason = its-reason d.index d.common d.count d.today d.shared.items d.accounts.items s p c.len.result c.open_reason.result c.self.invariant (state_by _ _ c.self.view_is)
    (c.len.ensures ∙ c.self.inside.accounts.ok.0) c.open_reason.ensures.value ∙ c.in-Some.is in
    let outcome = open_refused s name key p c.in-Some.refusal absent (sym c.is_open.ensures ∙ c.if-not-is_open.false) reason in
    done-moves _ None _ _ _ (away-moves c.args.self.now (outcome_in s name key c.args.given.now.post.now) c.in-Some.refusal outcome)

pub returns-then-not-is_open-clause-reached : goal.returns-then-not-is_open-clause-reached
returns-then-not-is_open-clause-reached g c =
    let s = c.args.self.now.state in
    let name = c.args.given.now.account.now in
    let key = c.args.given.now.key.now in
    let p = c.args.given.now.post.now in
    let absent = (no_place name 0 s.accounts c.requires.absent).0 in
    done-moves _ None _ _ _ (away-moves c.args.self.now (outcome_in s name key p) refusal.UnknownAccount (unknown_refused s name key p absent (sym c.is_open.ensures ∙ c.if-not-is_open.true)))
