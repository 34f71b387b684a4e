use Rattle.std.proofs.Common.{length, sym, ap, ◌∙◌, subst}
use Rattle.card_segments.specs.Parts.{AreOnSegments, parts_sum}
use Rattle.std.specs.Prelude.{◌≤◌}
use Rattle.card_effects.proofs.Back.{back-small, back-stands, both-ok}
use Rattle.card_effects.specs.Returned.{parts_of}
use Rattle.card_effects.proofs.returns.put_parts_back.Goals as goal
use Rattle.card_model.specs.Limits.{balance_limit}

pub returns-clause-stands : goal.returns-clause-stands
returns-clause-stands c =
    both-ok c.put_back.result _ _ _ c.put_back.ensures.ok c.put_back.ensures.entries
    (λ ok entries a seen p b s those is.
    back-stands a seen p b c.args.rates.now c.args.segments.now c.put_back.new.s c.args.out.now.items c.put_back.new.out.items c.args.slot.now c.args.payment c.newest-newest.result c.note_of-note.result c.in_ok-parts.parts
    c.requires.rated.numbers s those is c.note_of-note.ensures c.newest-newest.ensures.value (c.in_ok-parts.ensures ∙ ap (parts_of c.args.payment) c.deref.ensures.value)
    (record { known = c.newest-newest.ensures.billed.known; moved = ok; grown = entries }))

pub returns-clause-small : goal.returns-clause-small
returns-clause-small c =
    let same = sym (c.in_ok-parts.ensures ∙ ap (parts_of c.args.payment) c.deref.ensures.value) in
    let on = subst (λ ps. AreOnSegments (length c.args.segments.now.balances) ps) same c.requires.parts.on_segments in
    let sum = subst (λ ps. parts_sum ps ≤ balance_limit) same c.requires.parts.limit in
    both-ok c.put_back.result _ _ _ c.put_back.ensures.ok c.put_back.ensures.entries
    (λ ok entries. back-small c.note_of-note.result c.newest-newest.result c.in_ok-parts.parts c.args.segments.now c.put_back.new.s c.newest-newest.ensures.billed.known on sum c.requires.small ok)
