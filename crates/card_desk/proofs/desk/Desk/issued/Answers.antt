use Rattle.std.proofs.Common.{refl, ◌<◌, ℕ, [], Option, length, ap, sym, subst, ◌∙◌}
use Rattle.card_daily.specs.declared.track.Statement.{Statement}
use Rattle.card_model.specs.Machine.{NamedAccount, State, lists_of}
use Rattle.card_model.specs.Refusals.{Lists}
use Rattle.card_desk.specs.Desks.{named_all}
use Rattle.card_desk.specs.Places.{IsPlace, place_from}
use Rattle.card_desk.specs.Views.{issued, stated}
use Rattle.card_desk.proofs.DeskLemmas.{found_at, found_none, placed_at, state_by}
use Rattle.card_desk.proofs.Left.{few_to_tell, none_to_tell}
use Rattle.card_desk.proofs.PlaceLemmas.{no_place}
use Rattle.card_desk.specs.PutOff.{IsIdleAt}
use Rattle.card_desk.proofs.Unmade.{absent-made, answered-made, named-made, wanting-made}
use Rattle.card_desk.proofs.desk.Desk.issued.Goals as goal

pub issued_at-requires : goal.issued_at-requires
issued_at-requires g c =
    let place = found_at c.self.inside.index (named_all c.self.inside.accounts.items) c.args.account.now c.bytes.result.now c.in-Some.at c.self.invariant.index c.bytes.ensures.value c.in-Some.ensures in
    record { place = subst (λ (s : State). c.in-Some.at < length s.accounts) (state_by _ _ c.self.view_is) place.bound }

pub returns-in-None-clause-view : goal.returns-in-None-clause-view
returns-in-None-clause-view g c =
    let d = c.self.inside in
    let absent = found_none d.index (named_all d.accounts.items) c.args.account.now c.bytes.result.now c.self.invariant.index c.bytes.ensures.value c.in-None.ensures in
    ap (λ (o : Option Lists). issued c.args.cycle o) (sym (no_place c.args.account.now 0 (named_all d.accounts.items) absent).0)
    ∙ ap (λ (s : State). issued c.args.cycle (lists_of c.args.account.now s.accounts)) (state_by _ _ c.self.view_is)

pub returns-in_ok-statement-in-Some-clause-view : goal.returns-in_ok-statement-in-Some-clause-view
returns-in_ok-statement-in-Some-clause-view g c =
    let s = c.args.self.now.state in
    let name = c.args.account.now in
    let none : NamedAccount = record { name = []; lists = record { posts = []; issued = [] } } in
    let place : IsPlace name s.accounts c.in-Some.at = subst (λ (x : State). IsPlace name x.accounts c.in-Some.at) (state_by _ _ c.self.view_is) (found_at c.self.inside.index (named_all c.self.inside.accounts.items) c.args.account.now c.bytes.result.now c.in-Some.at c.self.invariant.index c.bytes.ensures.value c.in-Some.ensures) in
    c.stated.ensures ∙ (ap (λ (o : Option Statement). stated o) (c.in_ok-statement-in-Some.ensures.value none) ∙ ap (λ (l : Option Lists). issued c.args.cycle l) (sym (place.there none)))

-- ---- what a load put off
pub returns-in-None-clause-unmade : goal.returns-in-None-clause-unmade
returns-in-None-clause-unmade g c =
    let d = c.self.inside in
    let absent = found_none d.index (named_all d.accounts.items) c.args.account.now c.bytes.result.now c.self.invariant.index c.bytes.ensures.value c.in-None.ensures in
    absent-made _ _ _ c.args.account.now (ap (λ (s : State). place_from c.args.account.now 0 s.accounts) (sym (state_by _ _ c.self.view_is)) ∙ absent) refl

pub returns-in_err-statement-in-Some-clause-unmade : goal.returns-in_err-statement-in-Some-clause-unmade
returns-in_err-statement-in-Some-clause-unmade g c =
    let place = ap (λ (s : State). place_from c.args.account.now 0 s.accounts) (sym (state_by _ _ c.self.view_is))
    ∙ placed_at c.self.inside.index (named_all c.self.inside.accounts.items) c.args.account.now c.bytes.result.now c.in-Some.at c.self.invariant.index c.bytes.ensures.value c.in-Some.ensures in
    named-made _ _ _ c.args.account.now c.in-Some.at place (wanting-made c.issued_at.result _ _ _ _ c.from_residual.ensures.0 c.issued_at.ensures.unmade)

pub returns-in_ok-statement-in-Some-clause-unmade : goal.returns-in_ok-statement-in-Some-clause-unmade
returns-in_ok-statement-in-Some-clause-unmade g c =
    let place = ap (λ (s : State). place_from c.args.account.now 0 s.accounts) (sym (state_by _ _ c.self.view_is))
    ∙ placed_at c.self.inside.index (named_all c.self.inside.accounts.items) c.args.account.now c.bytes.result.now c.in-Some.at c.self.invariant.index c.bytes.ensures.value c.in-Some.ensures in
    named-made _ _ _ c.args.account.now c.in-Some.at place (answered-made _ _ _ _ c.issued_at.ensures.unmade.made c.in_ok-statement-in-Some.ensures.unmade.answered)

-- ---- its steps
pub returns-in-None-clause-put_off : goal.returns-in-None-clause-put_off
returns-in-None-clause-put_off g c =
    let d = c.self.inside in
    let absent = found_none d.index (named_all d.accounts.items) c.args.account.now c.bytes.result.now c.self.invariant.index c.bytes.ensures.value c.in-None.ensures in
    let none = ap (λ (s : State). place_from c.args.account.now 0 s.accounts) (sym (state_by _ _ c.self.view_is)) ∙ absent in
    record { few = none_to_tell c.args.self.now c.args.account.now c.args.put_off.now none; idle = subst (λ (o : Option ℕ). IsIdleAt o c.args.self.now c.args.put_off.now c.args.put_off.now) (sym none) refl }

pub returns-in_err-statement-in-Some-clause-put_off : goal.returns-in_err-statement-in-Some-clause-put_off
returns-in_err-statement-in-Some-clause-put_off g c =
    let place = ap (λ (s : State). place_from c.args.account.now 0 s.accounts) (sym (state_by _ _ c.self.view_is))
    ∙ placed_at c.self.inside.index (named_all c.self.inside.accounts.items) c.args.account.now c.bytes.result.now c.in-Some.at c.self.invariant.index c.bytes.ensures.value c.in-Some.ensures in
    record {
      few = few_to_tell c.args.self.now c.args.account.now c.in-Some.at c.args.put_off.now c.issued_at.new.put_off place c.issued_at.ensures.most;
      idle = subst (λ (o : Option ℕ). IsIdleAt o c.args.self.now c.args.put_off.now c.issued_at.new.put_off) (sym place) c.issued_at.ensures.idle;
    }

pub returns-in_ok-statement-in-Some-clause-put_off : goal.returns-in_ok-statement-in-Some-clause-put_off
returns-in_ok-statement-in-Some-clause-put_off g c =
    let place = ap (λ (s : State). place_from c.args.account.now 0 s.accounts) (sym (state_by _ _ c.self.view_is))
    ∙ placed_at c.self.inside.index (named_all c.self.inside.accounts.items) c.args.account.now c.bytes.result.now c.in-Some.at c.self.invariant.index c.bytes.ensures.value c.in-Some.ensures in
    record {
      few = few_to_tell c.args.self.now c.args.account.now c.in-Some.at c.args.put_off.now c.issued_at.new.put_off place c.issued_at.ensures.most;
      idle = subst (λ (o : Option ℕ). IsIdleAt o c.args.self.now c.args.put_off.now c.issued_at.new.put_off) (sym place) c.issued_at.ensures.idle;
    }
