use Rattle.std.proofs.Common.{length, sym, ap, subst, ◌∙◌}
use Rattle.card_daily.specs.declared.track.Track.{Track}
use Rattle.card_book.specs.Stands.{StandsFor}
use Rattle.card_past.proofs.Grown.{past-then, past-with}
use Rattle.card_past.proofs.NextClosing.{closes-last, count-more}
use Rattle.card_past.specs.declared.past.Past.{Past}
use Rattle.card_past.proofs.folding.fold_closing.Goals as goal

pub advance-requires-clause-stands : goal.advance-requires-clause-stands
advance-requires-clause-stands g c = c.requires.folded.stands

pub advance-requires-clause-opened : goal.advance-requires-clause-opened
advance-requires-clause-opened g c = c.requires.folded.opened

pub advance-requires-clause-later : goal.advance-requires-clause-later
advance-requires-clause-later g c = c.requires.folded.later

pub advance-requires-clause-last : goal.advance-requires-clause-last
advance-requires-clause-last g c = c.requires.folded.last

pub mark-requires-clause-closed : goal.mark-requires-clause-closed
mark-requires-clause-closed g c =
    closes-last c.args.inputs.now c.advance.new.self c.args.past.now c.advance.new.track c.args.day c.anchor-opened.ensures.sound c.in_ok-advance.ensures.stands c.in_ok-advance.ensures.day
    c.requires.folded.last c.advance.ensures.begins c.requires.folded.marks c.requires.closing

pub returns-clause-stands : goal.returns-clause-stands
returns-clause-stands g c = subst (λ (t : Track). StandsFor c.args.inputs.now c.advance.new.self t) (sym c.mark.ensures.track) c.in_ok-advance.ensures.stands

pub returns-clause-closed : goal.returns-clause-closed
returns-clause-closed g c =
    ap (λ (t : Track). length t.cycles.items) c.mark.ensures.track
    ∙ count-more c.args.inputs.now c.advance.new.self c.advance.new.track c.args.day (length c.args.past.now.track.cycles.items) c.anchor-opened.ensures.sound c.in_ok-advance.ensures.stands
    c.in_ok-advance.ensures.day c.requires.folded.last c.requires.closing

pub returns-clause-begins : goal.returns-clause-begins
returns-clause-begins g c =
    let p = c.args.past.now in
    let mid : Past = record { track = c.advance.new.track; since = p.since; accrued = p.accrued } in
    past-then p mid c.mark.new.past (past-with p c.advance.new.track c.advance.ensures.begins) c.mark.ensures.begins

pub returns-in_err-advance-clause-begins : goal.returns-in_err-advance-clause-begins
returns-in_err-advance-clause-begins g c = past-with c.args.past.now c.advance.new.track c.advance.ensures.begins

pub returns-in_err-mark-clause-begins : goal.returns-in_err-mark-clause-begins
returns-in_err-mark-clause-begins g c =
    let p = c.args.past.now in
    let mid : Past = record { track = c.advance.new.track; since = p.since; accrued = p.accrued } in
    past-then p mid c.mark.new.past (past-with p c.advance.new.track c.advance.ensures.begins) c.mark.ensures.begins
