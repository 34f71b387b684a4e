use Rattle.std.proofs.Common.{◌≡◌, ℕ, ◌+◌, ◌++◌, [], ◌∷◌, List, sym, ap, subst, ◌∙◌}
use Rattle.card_desk.specs.Applied.{Steps}
use Rattle.card_desk.specs.Desks.{IsDesk, named_all, state_of}
use Rattle.card_desk.specs.Kept.{row_of, accepted_count}
use Rattle.card_desk.specs.Shares.{loaded}
use Rattle.card_desk.proofs.DeskLemmas.{count_shared, state_by}
use Rattle.card_desk.proofs.ShareLemmas.{loadable, loaded_desk}
use Rattle.card_desk.proofs.StepLemmas.{goes_on, kept, shared_accepted}
use Rattle.card_events.specs.Dated.{is_dated}
use Rattle.card_events.specs.SharedRows.{SharedRows}
use Rattle.card_events.specs.declared.reply.Reply.TheVariants as reply
use Rattle.card_events.specs.declared.request.Request.{Request}
use Rattle.card_events.specs.declared.request.Shared.{Shared}
use Rattle.card_model.specs.Machine.{State, has_accounts, rolled, shared_reason}
use Rattle.card_rows.specs.Held.{is_request}
use Rattle.card_desk.proofs.desk.Desk.keep_shared.Goals as goal

pub loaded-requires : goal.loaded-requires
loaded-requires g c =
    let s = c.args.self.now.state in loadable s.today (has_accounts s) c.args.shared.now (ap is_dated (sym c.requires.request) ∙ c.requires.asked.dated) c.requires.no_reason

pub keep_row-requires : goal.keep_row-requires
keep_row-requires g c = goes_on _ c.args.self.now.state c.args.request.now c.in_ok-row.row c.requires.asked.fits c.in_ok-row.ensures.value

pub invariant_of-self-2 : goal.invariant_of-self-2
invariant_of-self-2 g c =
    let d = c.self.inside in
    let r = c.args.shared.now in
    let lists : c.push_shared.new.list.items ≡ d.shared.items ++ r ∷ [] = c.push_shared.ensures ∙ ap (λ l. l ++ r ∷ []) c.in_ok-reserve.ensures.items in
    let common : c.load.new.common ≡ loaded r d.common = c.load.ensures ∙ c.in_ok-common.ensures in
    let held = ap is_request (sym c.requires.request) ∙ c.in_ok-row.ensures.held in
    let none = ap (λ (x : State). shared_reason x.today (has_accounts x) r) (state_by _ _ c.self.view_is) ∙ c.requires.no_reason in
    subst (λ (x : SharedRows). IsDesk d.index x (d.count + 1) c.rolled-self-inside.result c.push_shared.new.list.items d.accounts.items) (sym common)
    (subst (λ (n : ℕ). IsDesk d.index (loaded r d.common) (d.count + 1) n c.push_shared.new.list.items d.accounts.items) (sym c.rolled-self-inside.ensures)
    (subst (λ (l : List Shared). IsDesk d.index (loaded r d.common) (d.count + 1) (rolled d.today r) l d.accounts.items) (sym lists)
    (loaded_desk d.index d.common d.count d.today d.shared.items d.accounts.items r c.self.invariant held none)))

pub returns-clause-carried : goal.returns-clause-carried
returns-clause-carried g c =
    let s = c.args.self.now.state in
    let d = c.self.inside in
    let r = c.args.shared.now in
    let t : State = state_of c.rolled-self-inside.result c.push_shared.new.list.items d.accounts.items in
    let lists = c.push_shared.ensures ∙ ap (λ l. l ++ r ∷ []) (c.in_ok-reserve.ensures.items ∙ ap (λ (x : State). x.shared) (state_by _ _ c.self.view_is)) in
    let accounts = ap (λ (x : State). x.accounts) (state_by _ _ c.self.view_is) in
    let own : t ≡ record { today = c.rolled-self-inside.result; shared = s.shared ++ r ∷ []; accounts = s.accounts } =
    ap (λ l. record { today = c.rolled-self-inside.result; shared = l; accounts = named_all d.accounts.items }) lists ∙ ap (λ l. record { today = c.rolled-self-inside.result; shared = s.shared ++ r ∷ []; accounts = l }) accounts in
    let today : c.rolled-self-inside.result ≡ rolled s.today r = c.rolled-self-inside.ensures ∙ ap (λ (x : State). rolled x.today r) (state_by _ _ c.self.view_is) in
    let state : t ≡ record { today = rolled s.today r; shared = s.shared ++ r ∷ []; accounts = s.accounts } =
    own ∙ ap (λ n. record { today = n; shared = s.shared ++ r ∷ []; accounts = s.accounts }) today in
    kept (g.K.Keeper.rows c.args.keeper.now) (g.K.Keeper.rows c.keep_row.new.keeper) (g.K.Keeper.faults c.args.keeper.now) (g.K.Keeper.faults c.keep_row.new.keeper) s t c.args.request.now reply.Done c.keep_row.ensures.told c.in_ok-keep_row.ensures.counts.unfailed
    (subst (λ (x : Request). Steps (g.K.Keeper.rows c.args.keeper.now) (g.K.Keeper.rows c.keep_row.new.keeper) s x t reply.Done) (sym c.requires.request)
    (shared_accepted _ _ s t r c.in_ok-row.row c.keep_row.ensures.told c.in_ok-keep_row.ensures.ok
    (c.in_ok-row.ensures.value ∙ ap (λ (x : Request). row_of (accepted_count s + 1) x) c.requires.request) c.requires.no_reason state (count_shared s t r own)))
