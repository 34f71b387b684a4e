use Rattle.std.proofs.Common.{◌≡◌, ◌+◌, ℕ, None, Option, Some, ap, refl, subst, sym, ◌∙◌}
use Rattle.card_model.specs.Machine.{State, outcome_in}
use Rattle.card_desk.specs.Desks.{named_all}
use Rattle.card_desk.specs.Places.{IsPlace, place_from}
use Rattle.card_desk.proofs.DeskLemmas.{found_at, found_none, placed_at, state_by}
use Rattle.card_desk.proofs.Left.{few_on_there, idle_on_absent, idle_on_there, none_on_absent}
use Rattle.card_desk.specs.Steps.{AreFewToApply, IsIdleToApply}
use Rattle.card_desk.specs.PutOff.{AreOwedToApply, AreTakenOn, MakesOn, MakesToApply}
use Rattle.card_events.specs.declared.request.Request.{Request}
use Rattle.card_desk.proofs.Moves.{named-applied}
use Rattle.card_desk.specs.Reached.{MovesToApply}
use Rattle.card_desk.specs.Recorded.{AppliedStays, StaysBut}
use Rattle.card_desk.proofs.desk.Desk.post.Goals as goal

pub post_known-requires-clause-place : goal.post_known-requires-clause-place
post_known-requires-clause-place g c =
    subst (λ (s : State). IsPlace c.args.given.now.account.now s.accounts c.in-Some.at) (state_by _ _ c.self.view_is)
    (found_at c.self.inside.index (named_all c.self.inside.accounts.items) c.args.given.now.account.now c.bytes.result.now c.in-Some.at c.self.invariant.index c.bytes.ensures.value c.in-Some.ensures)

pub post_unknown-requires-clause-absent : goal.post_unknown-requires-clause-absent
post_unknown-requires-clause-absent g c =
    ap (λ (s : State). place_from c.args.given.now.account.now 0 s.accounts) (sym (state_by _ _ c.self.view_is))
    ∙ found_none c.self.inside.index (named_all c.self.inside.accounts.items) c.args.given.now.account.now c.bytes.result.now c.self.invariant.index c.bytes.ensures.value c.in-None.ensures

pub returns-in-Some-clause-most : goal.returns-in-Some-clause-most
returns-in-Some-clause-most g c =
    let there = ap (λ (s : State). place_from c.args.given.now.account.now 0 s.accounts) (sym (state_by _ _ c.self.view_is))
    ∙ placed_at c.self.inside.index (named_all c.self.inside.accounts.items) c.args.given.now.account.now c.bytes.result.now c.in-Some.at c.self.invariant.index c.bytes.ensures.value c.in-Some.ensures in
    subst (λ (r : Request). AreFewToApply c.args.self.now r c.args.steps.now c.post_known.new.steps) (sym c.requires.request)
    (few_on_there c.args.self.now c.args.given.now.account.now c.args.given.now.key.now c.args.given.now.post.now c.in-Some.at c.args.steps.now c.post_known.new.steps there c.post_known.ensures.most)

pub returns-in-None-clause-most : goal.returns-in-None-clause-most
returns-in-None-clause-most g c =
    let absent = ap (λ (s : State). place_from c.args.given.now.account.now 0 s.accounts) (sym (state_by _ _ c.self.view_is))
    ∙ found_none c.self.inside.index (named_all c.self.inside.accounts.items) c.args.given.now.account.now c.bytes.result.now c.self.invariant.index c.bytes.ensures.value c.in-None.ensures in
    subst (λ (r : Request). AreFewToApply c.args.self.now r c.args.steps.now c.args.steps.now) (sym c.requires.request)
    (none_on_absent c.args.self.now c.args.given.now.account.now c.args.given.now.key.now c.args.given.now.post.now c.args.steps.now absent)

pub returns-in-Some-clause-both : goal.returns-in-Some-clause-both
returns-in-Some-clause-both g c =
    let there = ap (λ (s : State). place_from c.args.given.now.account.now 0 s.accounts) (sym (state_by _ _ c.self.view_is))
    ∙ placed_at c.self.inside.index (named_all c.self.inside.accounts.items) c.args.given.now.account.now c.bytes.result.now c.in-Some.at c.self.invariant.index c.bytes.ensures.value c.in-Some.ensures in
    subst (λ (r : Request). AreFewToApply c.args.self.now r (c.args.steps.now + c.args.put_off.now) (c.post_known.new.steps + c.post_known.new.put_off)) (sym c.requires.request)
    (few_on_there c.args.self.now c.args.given.now.account.now c.args.given.now.key.now c.args.given.now.post.now c.in-Some.at (c.args.steps.now + c.args.put_off.now) (c.post_known.new.steps + c.post_known.new.put_off) there c.post_known.ensures.both)

pub returns-in-None-clause-both : goal.returns-in-None-clause-both
returns-in-None-clause-both g c =
    let absent = ap (λ (s : State). place_from c.args.given.now.account.now 0 s.accounts) (sym (state_by _ _ c.self.view_is))
    ∙ found_none c.self.inside.index (named_all c.self.inside.accounts.items) c.args.given.now.account.now c.bytes.result.now c.self.invariant.index c.bytes.ensures.value c.in-None.ensures in
    subst (λ (r : Request). AreFewToApply c.args.self.now r (c.args.steps.now + c.args.put_off.now) (c.args.steps.now + c.args.put_off.now)) (sym c.requires.request)
    (none_on_absent c.args.self.now c.args.given.now.account.now c.args.given.now.key.now c.args.given.now.post.now (c.args.steps.now + c.args.put_off.now) absent)

pub returns-in-Some-clause-idle : goal.returns-in-Some-clause-idle
returns-in-Some-clause-idle g c =
    let there = ap (λ (s : State). place_from c.args.given.now.account.now 0 s.accounts) (sym (state_by _ _ c.self.view_is))
    ∙ placed_at c.self.inside.index (named_all c.self.inside.accounts.items) c.args.given.now.account.now c.bytes.result.now c.in-Some.at c.self.invariant.index c.bytes.ensures.value c.in-Some.ensures in
    subst (λ (r : Request). IsIdleToApply c.args.self.now r c.args.steps.now c.post_known.new.steps) (sym c.requires.request)
    (idle_on_there c.args.self.now c.args.given.now.account.now c.args.given.now.key.now c.args.given.now.post.now c.in-Some.at c.args.steps.now c.post_known.new.steps there c.post_known.ensures.idle)

pub returns-in-None-clause-idle : goal.returns-in-None-clause-idle
returns-in-None-clause-idle g c =
    let absent = ap (λ (s : State). place_from c.args.given.now.account.now 0 s.accounts) (sym (state_by _ _ c.self.view_is))
    ∙ found_none c.self.inside.index (named_all c.self.inside.accounts.items) c.args.given.now.account.now c.bytes.result.now c.self.invariant.index c.bytes.ensures.value c.in-None.ensures in
    subst (λ (r : Request). IsIdleToApply c.args.self.now r c.args.steps.now c.args.steps.now) (sym c.requires.request)
    (idle_on_absent c.args.self.now c.args.given.now.account.now c.args.given.now.key.now c.args.given.now.post.now c.args.steps.now absent)

pub returns-in-Some-clause-reached : goal.returns-in-Some-clause-reached
returns-in-Some-clause-reached g c =
    let there = ap (λ (s : State). place_from c.args.given.now.account.now 0 s.accounts) (sym (state_by _ _ c.self.view_is))
    ∙ placed_at c.self.inside.index (named_all c.self.inside.accounts.items) c.args.given.now.account.now c.bytes.result.now c.in-Some.at c.self.invariant.index c.bytes.ensures.value c.in-Some.ensures in
    subst (λ (r : Request). MovesToApply r c.post_known.result c.args.self.now c.post_known.new.self) (sym c.requires.request)
    (named-applied c.post_known.result c.args.self.now c.post_known.new.self c.args.given.now.account.now c.args.given.now.key.now c.args.given.now.post.now (Some c.in-Some.at) there c.post_known.ensures.reached)

pub returns-in-None-clause-reached : goal.returns-in-None-clause-reached
returns-in-None-clause-reached g c =
    let absent = ap (λ (s : State). place_from c.args.given.now.account.now 0 s.accounts) (sym (state_by _ _ c.self.view_is))
    ∙ found_none c.self.inside.index (named_all c.self.inside.accounts.items) c.args.given.now.account.now c.bytes.result.now c.self.invariant.index c.bytes.ensures.value c.in-None.ensures in
    subst (λ (r : Request). MovesToApply r c.post_unknown.result c.args.self.now c.post_unknown.new.self) (sym c.requires.request)
    (named-applied c.post_unknown.result c.args.self.now c.post_unknown.new.self c.args.given.now.account.now c.args.given.now.key.now c.args.given.now.post.now None absent c.post_unknown.ensures.reached)

-- ---- what is recorded
pub returns-in-Some-clause-recorded : goal.returns-in-Some-clause-recorded
unfolding AppliedStays
returns-in-Some-clause-recorded g c =
    let there : place_from c.args.given.now.account.now 0 c.args.self.now.state.accounts ≡ Some c.in-Some.at = ap (λ (s : State). place_from c.args.given.now.account.now 0 s.accounts) (sym (state_by _ _ c.self.view_is))
    ∙ placed_at c.self.inside.index (named_all c.self.inside.accounts.items) c.args.given.now.account.now c.bytes.result.now c.in-Some.at c.self.invariant.index c.bytes.ensures.value c.in-Some.ensures in
    subst (λ (r : Request). AppliedStays c.args.self.now r c.post_known.new.self) (sym c.requires.request)
    (subst (λ (o : Option ℕ). StaysBut o c.args.self.now.recorded c.post_known.new.self.recorded) (sym there) c.post_known.ensures.recorded)

pub returns-in-None-clause-recorded : goal.returns-in-None-clause-recorded
unfolding AppliedStays
returns-in-None-clause-recorded g c =
    let absent : place_from c.args.given.now.account.now 0 c.args.self.now.state.accounts ≡ None = ap (λ (s : State). place_from c.args.given.now.account.now 0 s.accounts) (sym (state_by _ _ c.self.view_is))
    ∙ found_none c.self.inside.index (named_all c.self.inside.accounts.items) c.args.given.now.account.now c.bytes.result.now c.self.invariant.index c.bytes.ensures.value c.in-None.ensures in
    subst (λ (r : Request). AppliedStays c.args.self.now r c.post_unknown.new.self) (sym c.requires.request)
    (subst (λ (o : Option ℕ). StaysBut o c.args.self.now.recorded c.post_unknown.new.self.recorded) (sym absent) c.post_unknown.ensures.recorded)

-- ---- what a load put off
pub returns-in-Some-clause-unmade : goal.returns-in-Some-clause-unmade
unfolding MakesToApply
returns-in-Some-clause-unmade g c =
    let there : place_from c.args.given.now.account.now 0 c.args.self.now.state.accounts ≡ Some c.in-Some.at = ap (λ (s : State). place_from c.args.given.now.account.now 0 s.accounts) (sym (state_by _ _ c.self.view_is))
    ∙ placed_at c.self.inside.index (named_all c.self.inside.accounts.items) c.args.given.now.account.now c.bytes.result.now c.in-Some.at c.self.invariant.index c.bytes.ensures.value c.in-Some.ensures in
    subst (λ (r : Request). MakesToApply r c.args.self.now c.post_known.new.self) (sym c.requires.request)
    (subst (λ (o : Option ℕ). MakesOn o c.args.self.now c.post_known.new.self) (sym there) c.post_known.ensures.unmade)

pub returns-in-None-clause-unmade : goal.returns-in-None-clause-unmade
unfolding MakesToApply
returns-in-None-clause-unmade g c =
    let absent : place_from c.args.given.now.account.now 0 c.args.self.now.state.accounts ≡ None = ap (λ (s : State). place_from c.args.given.now.account.now 0 s.accounts) (sym (state_by _ _ c.self.view_is))
    ∙ found_none c.self.inside.index (named_all c.self.inside.accounts.items) c.args.given.now.account.now c.bytes.result.now c.self.invariant.index c.bytes.ensures.value c.in-None.ensures in
    subst (λ (r : Request). MakesToApply r c.args.self.now c.post_unknown.new.self) (sym c.requires.request)
    (subst (λ (o : Option ℕ). MakesOn o c.args.self.now c.post_unknown.new.self) (sym absent) c.post_unknown.ensures.unmade)

pub returns-in-Some-clause-put_off : goal.returns-in-Some-clause-put_off
unfolding AreOwedToApply
returns-in-Some-clause-put_off g c =
    let there : place_from c.args.given.now.account.now 0 c.args.self.now.state.accounts ≡ Some c.in-Some.at = ap (λ (s : State). place_from c.args.given.now.account.now 0 s.accounts) (sym (state_by _ _ c.self.view_is))
    ∙ placed_at c.self.inside.index (named_all c.self.inside.accounts.items) c.args.given.now.account.now c.bytes.result.now c.in-Some.at c.self.invariant.index c.bytes.ensures.value c.in-Some.ensures in
    subst (λ (r : Request). AreOwedToApply r c.post_known.result c.args.self.now c.post_known.new.self c.args.put_off.now c.post_known.new.put_off) (sym c.requires.request)
    (subst (λ (o : Option ℕ). AreTakenOn o c.args.given.now.post.now (outcome_in c.args.self.now.state c.args.given.now.account.now c.args.given.now.key.now c.args.given.now.post.now) c.post_known.result c.args.self.now c.post_known.new.self c.args.put_off.now c.post_known.new.put_off) (sym there) c.post_known.ensures.put_off)

pub returns-in-None-clause-put_off : goal.returns-in-None-clause-put_off
unfolding AreOwedToApply
returns-in-None-clause-put_off g c =
    let absent : place_from c.args.given.now.account.now 0 c.args.self.now.state.accounts ≡ None = ap (λ (s : State). place_from c.args.given.now.account.now 0 s.accounts) (sym (state_by _ _ c.self.view_is))
    ∙ found_none c.self.inside.index (named_all c.self.inside.accounts.items) c.args.given.now.account.now c.bytes.result.now c.self.invariant.index c.bytes.ensures.value c.in-None.ensures in
    subst (λ (r : Request). AreOwedToApply r c.post_unknown.result c.args.self.now c.post_unknown.new.self c.args.put_off.now c.args.put_off.now) (sym c.requires.request)
    (subst (λ (o : Option ℕ). AreTakenOn o c.args.given.now.post.now (outcome_in c.args.self.now.state c.args.given.now.account.now c.args.given.now.key.now c.args.given.now.post.now) c.post_unknown.result c.args.self.now c.post_unknown.new.self c.args.put_off.now c.args.put_off.now) (sym absent) refl)
