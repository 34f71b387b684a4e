use Rattle.std.proofs.Common.{refl, arith, subst, ap, eqb}
use Rattle.std.proofs.lemmas.Option.{get_or_from_slice_get, slice_get_read, slice_get_within}
use Rattle.card_rates.specs.Next.{IsNext}
use Rattle.card_dayend.proofs.Issues.{issue-next, issue-none}
use Rattle.card_dayend.proofs.break_day.next_issue.Goals as goal

pub returns-in-Some : goal.returns-in-Some
returns-in-Some c =
    let rows = c.args.issued.now in
    let place = c.count_before_near-place.result in
    let r = c.in-Some.row.now in
    let found = slice_get_read rows _ place r refl c.in-Some.ensures.lookup.3.0 c.in-Some.ensures.lookup.1 in
    let within = slice_get_within rows place r found in
    let is = get_or_from_slice_get rows place r r found in
    let begun = c.count_before_near-place.ensures.back place r (omega arith) within in
    let same = ap (λ x. x.day) is in
    issue-next rows place r c.args.first c.args.end c.next_at.result c.requires.turn c.count_before_near-place.ensures.front (omega (arith, begun, same)) within is
    (subst (λ d. IsNext (λ x. eqb d x) c.args.first c.args.end c.next_at.result) (ap (λ x. x.day) c.row.view_is) c.next_at.ensures)

pub returns-in-None : goal.returns-in-None
returns-in-None c = issue-none c.args.issued.now c.count_before_near-place.result c.args.first c.args.end c.requires.order c.count_before_near-place.ensures.front c.in-None.ensures.lookup.3
