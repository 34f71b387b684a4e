use Rattle.std.proofs.Common.{◌≡◌, ℕ, Some, sym, ap, subst, ◌∙◌}
use Rattle.std.proofs.lemmas.List.{length-map}
use Rattle.card_account.specs.Accounts.{OpenAccount}
use Rattle.std.specs.Prelude.{nat_lt, length}
use Rattle.card_events.specs.declared.reply.Reply.TheVariants as reply
use Rattle.card_events.specs.declared.request.Request.{Request}
use Rattle.card_model.specs.Machine.{State, shared_reason, has_accounts}
use Rattle.card_desk.specs.Applied.{Steps}
use Rattle.card_desk.specs.Desks.{state_of}
use Rattle.card_desk.proofs.StepLemmas.{answered, shared_refused}
use Rattle.card_desk.proofs.DeskLemmas.{state_by}
use Rattle.card_desk.proofs.desk.Desk.share.Goals as goal

pub returns-in-Some-clause-carried : goal.returns-in-Some-clause-carried
returns-in-Some-clause-carried g c =
    let s = c.args.self.now.state in
    let r = c.args.shared.now in
    let inside : State = state_of c.self.inside.today c.self.inside.shared.items c.self.inside.accounts.items in
    let many : c.len.result ≡ length inside.accounts = c.len.ensures ∙ c.self.inside.accounts.ok.0 ∙ sym (length-map c.self.inside.accounts.items (λ (x : OpenAccount). x.named)) in
    let reason : shared_reason s.today (has_accounts s) r ≡ Some c.in-Some.refusal =
    ap (λ (x : State). shared_reason x.today (has_accounts x) r) (sym (state_by _ _ c.self.view_is))
    ∙ ap (λ (n : ℕ). shared_reason inside.today (nat_lt 0 n) r) (sym many) ∙ sym c.shared_reason.ensures ∙ c.in-Some.is in
    answered (g.K.Keeper.rows c.args.keeper.now) (g.K.Keeper.faults c.args.keeper.now) s c.args.request.now (reply.Refused c.in-Some.refusal)
    (subst (λ (x : Request). Steps (g.K.Keeper.rows c.args.keeper.now) (g.K.Keeper.rows c.args.keeper.now) s x s (reply.Refused c.in-Some.refusal)) (sym c.requires.request) (shared_refused _ s r c.in-Some.refusal c.requires.asked.fits reason))

pub keep_shared-requires-clause-no_reason : goal.keep_shared-requires-clause-no_reason
keep_shared-requires-clause-no_reason g c =
    let r = c.args.shared.now in
    let inside : State = state_of c.self.inside.today c.self.inside.shared.items c.self.inside.accounts.items in
    let many : c.len.result ≡ length inside.accounts = c.len.ensures ∙ c.self.inside.accounts.ok.0 ∙ sym (length-map c.self.inside.accounts.items (λ (x : OpenAccount). x.named)) in
    ap (λ (x : State). shared_reason x.today (has_accounts x) r) (sym (state_by _ _ c.self.view_is))
    ∙ ap (λ (n : ℕ). shared_reason inside.today (nat_lt 0 n) r) (sym many) ∙ sym c.shared_reason.ensures ∙ c.in-None.is
