use Rattle.std.proofs.Common.{refl, ◌<◌, [], Option, length, ap, sym, subst, ◌∙◌}
use Rattle.card_account.specs.Entries.{AccountEntries}
use Rattle.card_desk.specs.Views.{listed}
use Rattle.card_desk.specs.declared.view.View.TheVariants as view
use Rattle.card_desk.proofs.DeskLemmas.{found_at, found_none, placed_at, state_by}
use Rattle.card_desk.proofs.Left.{few_to_tell, none_to_tell}
use Rattle.card_desk.proofs.PlaceLemmas.{no_place}
use Rattle.card_desk.specs.Desks.{named_all, state_of}
use Rattle.card_desk.specs.Places.{IsPlace, place_from}
use Rattle.card_model.specs.Machine.{NamedAccount, State, lists_of}
use Rattle.card_model.specs.Refusals.{Lists}
use Rattle.card_desk.proofs.Moves.{absent-moves, answered-moves, named-moves, wanting-moves}
use Rattle.card_desk.proofs.Unmade.{absent-made, answered-made, named-made, wanting-made}
use Rattle.card_desk.proofs.desk.Desk.entries.Goals as goal

pub entries_at-requires : goal.entries_at-requires
entries_at-requires g c =
    let place = found_at c.self.inside.index (named_all c.self.inside.accounts.items) c.args.account.now c.bytes.result.now c.in-Some.at c.self.invariant.index c.bytes.ensures.value c.in-Some.ensures in
    record { place = subst (λ (s : State). c.in-Some.at < length s.accounts) (state_by _ _ c.self.view_is) place.bound }

pub returns-in-None-clause-view : goal.returns-in-None-clause-view
returns-in-None-clause-view g c =
    let d = c.self.inside in
    let absent = found_none d.index (named_all d.accounts.items) c.args.account.now c.bytes.result.now c.self.invariant.index c.bytes.ensures.value c.in-None.ensures in
    ap (λ (o : Option Lists). listed (state_of d.today d.shared.items d.accounts.items) o) (sym (no_place c.args.account.now 0 (named_all d.accounts.items) absent).0)
    ∙ ap (λ (s : State). listed s (lists_of c.args.account.now s.accounts)) (state_by _ _ c.self.view_is)

pub returns-in-None-clause-most : goal.returns-in-None-clause-most
returns-in-None-clause-most g c =
    let d = c.self.inside in
    let absent = found_none d.index (named_all d.accounts.items) c.args.account.now c.bytes.result.now c.self.invariant.index c.bytes.ensures.value c.in-None.ensures in
    none_to_tell c.args.self.now c.args.account.now c.args.steps.now (ap (λ (s : State). place_from c.args.account.now 0 s.accounts) (sym (state_by _ _ c.self.view_is)) ∙ absent)

pub returns-in_err-entries-in-Some-clause-most : goal.returns-in_err-entries-in-Some-clause-most
returns-in_err-entries-in-Some-clause-most g c =
    let place = placed_at c.self.inside.index (named_all c.self.inside.accounts.items) c.args.account.now c.bytes.result.now c.in-Some.at c.self.invariant.index c.bytes.ensures.value c.in-Some.ensures in
    few_to_tell c.args.self.now c.args.account.now c.in-Some.at c.args.steps.now c.entries_at.new.steps (ap (λ (s : State). place_from c.args.account.now 0 s.accounts) (sym (state_by _ _ c.self.view_is)) ∙ place) c.entries_at.ensures.most

pub returns-in_ok-entries-in-Some-clause-most : goal.returns-in_ok-entries-in-Some-clause-most
returns-in_ok-entries-in-Some-clause-most g c =
    let place = placed_at c.self.inside.index (named_all c.self.inside.accounts.items) c.args.account.now c.bytes.result.now c.in-Some.at c.self.invariant.index c.bytes.ensures.value c.in-Some.ensures in
    few_to_tell c.args.self.now c.args.account.now c.in-Some.at c.args.steps.now c.entries_at.new.steps (ap (λ (s : State). place_from c.args.account.now 0 s.accounts) (sym (state_by _ _ c.self.view_is)) ∙ place) c.entries_at.ensures.most

pub returns-in_ok-entries-in-Some-clause-view : goal.returns-in_ok-entries-in-Some-clause-view
returns-in_ok-entries-in-Some-clause-view g c =
    let s = c.args.self.now.state in
    let name = c.args.account.now in
    let none : NamedAccount = record { name = []; lists = record { posts = []; issued = [] } } in
    let place : IsPlace name s.accounts c.in-Some.at = subst (λ (x : State). IsPlace name x.accounts c.in-Some.at) (state_by _ _ c.self.view_is) (found_at c.self.inside.index (named_all c.self.inside.accounts.items) c.args.account.now c.bytes.result.now c.in-Some.at c.self.invariant.index c.bytes.ensures.value c.in-Some.ensures) in
    ap (λ (l : AccountEntries). view.Entries l) (c.in_ok-entries-in-Some.ensures.value none) ∙ ap (λ (l : Option Lists). listed s l) (sym (place.there none))

-- ---- the day that it has reached
pub returns-in-None-clause-reached : goal.returns-in-None-clause-reached
returns-in-None-clause-reached g c =
    let d = c.self.inside in
    let absent = found_none d.index (named_all d.accounts.items) c.args.account.now c.bytes.result.now c.self.invariant.index c.bytes.ensures.value c.in-None.ensures in
    absent-moves _ _ _ c.args.account.now (ap (λ (s : State). place_from c.args.account.now 0 s.accounts) (sym (state_by _ _ c.self.view_is)) ∙ absent) refl

pub returns-in_err-entries-in-Some-clause-reached : goal.returns-in_err-entries-in-Some-clause-reached
returns-in_err-entries-in-Some-clause-reached g c =
    let place = ap (λ (s : State). place_from c.args.account.now 0 s.accounts) (sym (state_by _ _ c.self.view_is)) ∙ placed_at c.self.inside.index (named_all c.self.inside.accounts.items) c.args.account.now c.bytes.result.now c.in-Some.at c.self.invariant.index c.bytes.ensures.value c.in-Some.ensures in
    named-moves _ _ _ c.args.account.now c.in-Some.at place (wanting-moves _ _ _ _ c.from_residual.ensures.0 c.in_err-entries-in-Some.ensures.reached.wanting)

pub returns-in_ok-entries-in-Some-clause-reached : goal.returns-in_ok-entries-in-Some-clause-reached
returns-in_ok-entries-in-Some-clause-reached g c =
    let place = ap (λ (s : State). place_from c.args.account.now 0 s.accounts) (sym (state_by _ _ c.self.view_is)) ∙ placed_at c.self.inside.index (named_all c.self.inside.accounts.items) c.args.account.now c.bytes.result.now c.in-Some.at c.self.invariant.index c.bytes.ensures.value c.in-Some.ensures in
    named-moves _ _ _ c.args.account.now c.in-Some.at place (answered-moves _ _ _ _ c.in_ok-entries-in-Some.ensures.reached.answered)

-- ---- what a load put off
pub returns-in-None-clause-unmade : goal.returns-in-None-clause-unmade
returns-in-None-clause-unmade g c =
    let d = c.self.inside in
    let absent = found_none d.index (named_all d.accounts.items) c.args.account.now c.bytes.result.now c.self.invariant.index c.bytes.ensures.value c.in-None.ensures in
    absent-made _ _ _ c.args.account.now (ap (λ (s : State). place_from c.args.account.now 0 s.accounts) (sym (state_by _ _ c.self.view_is)) ∙ absent) refl

pub returns-in_err-entries-in-Some-clause-unmade : goal.returns-in_err-entries-in-Some-clause-unmade
returns-in_err-entries-in-Some-clause-unmade g c =
    let place = ap (λ (s : State). place_from c.args.account.now 0 s.accounts) (sym (state_by _ _ c.self.view_is))
    ∙ placed_at c.self.inside.index (named_all c.self.inside.accounts.items) c.args.account.now c.bytes.result.now c.in-Some.at c.self.invariant.index c.bytes.ensures.value c.in-Some.ensures in
    named-made _ _ _ c.args.account.now c.in-Some.at place (wanting-made c.entries_at.result _ _ _ _ c.from_residual.ensures.0 c.entries_at.ensures.unmade)

pub returns-in_ok-entries-in-Some-clause-unmade : goal.returns-in_ok-entries-in-Some-clause-unmade
returns-in_ok-entries-in-Some-clause-unmade g c =
    let place = ap (λ (s : State). place_from c.args.account.now 0 s.accounts) (sym (state_by _ _ c.self.view_is))
    ∙ placed_at c.self.inside.index (named_all c.self.inside.accounts.items) c.args.account.now c.bytes.result.now c.in-Some.at c.self.invariant.index c.bytes.ensures.value c.in-Some.ensures in
    named-made _ _ _ c.args.account.now c.in-Some.at place (answered-made _ _ _ _ c.entries_at.ensures.unmade.made c.in_ok-entries-in-Some.ensures.unmade.answered)
