use Rattle.std.proofs.Common.{ap, subst, sym, ◌∙◌}
use Rattle.card_model.specs.Machine.{State}
use Rattle.card_desk.specs.Desks.{named_all}
use Rattle.card_desk.specs.Places.{IsPlace, place_from}
use Rattle.card_desk.proofs.DeskLemmas.{found_at, found_none, state_by}
use Rattle.card_desk.proofs.desk.Desk.post_loaded.Goals as goal

pub take_loaded-requires-clause-place : goal.take_loaded-requires-clause-place
take_loaded-requires-clause-place g c =
    subst (λ (s : State). IsPlace c.args.given.now.account.now s.accounts c.in-Some.at) (state_by _ _ c.self.view_is)
    (found_at c.self.inside.index (named_all c.self.inside.accounts.items) c.args.given.now.account.now c.bytes.result.now c.in-Some.at c.self.invariant.index c.bytes.ensures.value c.in-Some.ensures)

pub open_loaded-requires-clause-absent : goal.open_loaded-requires-clause-absent
open_loaded-requires-clause-absent g c =
    ap (λ (s : State). place_from c.args.given.now.account.now 0 s.accounts) (sym (state_by _ _ c.self.view_is))
    ∙ found_none c.self.inside.index (named_all c.self.inside.accounts.items) c.args.given.now.account.now c.bytes.result.now c.self.invariant.index c.bytes.ensures.value c.in-None.ensures
