use Rattle.std.proofs.Common.{◌+◌, ◌-◌, ◌++◌, [], ◌∷◌, length, length-append, sym, ap, ◌∙◌, subst, arith}
use Rattle.std.proofs.lemmas.List.{length-take-le}
use Rattle.card_waits.specs.Waits.{AreWaits, HasSpare, IsReplaced, Waits, awaited, waiting_from}
use Rattle.card_waits.proofs.WaitLemmas.{earlier-last, ends-more, left, waiting-more}
use Rattle.card_waits.proofs.wait_table.WaitTable.leave.Goals as goal

pub leave_waiting-requires : goal.leave_waiting-requires
leave_waiting-requires c = record { spare = λ e. subst HasSpare (sym c.self.view_is) (c.requires.waits.spare (ends-more c.args.history.now c.args.last.now ∙ e)) }

pub leave_by-requires : goal.leave_by-requires
leave_by-requires c =
    let long = length-append c.args.history.now (c.args.last.now ∷ []) in
    let same = ap (λ (w : Waits). length w.by) c.self.view_is in
    omega (arith, c.requires.waits.long, long, same)

pub replace-requires : goal.replace-requires
replace-requires c =
    let low = earlier-last 1 c.args.history.now c.args.last.now c.requires.waits.earlier in
    let long = length-append c.args.history.now (c.args.last.now ∷ []) in
    let same = ap (λ (w : Waits). length w.by) c.self.view_is in
    let popped = ap length c.leave_by.ensures.items ∙ length-take-le (length c.self.inside.by.items - 1) c.self.inside.by.items (omega arith) in
    omega (arith, c.requires.waits.long, long, same, low, popped, c.awaited.ensures)

pub returns-clause-waits : goal.returns-clause-waits
returns-clause-waits c =
    let w = subst (AreWaits (c.args.history.now ++ c.args.last.now ∷ [])) (sym c.self.view_is) c.requires.waits in
    let marks : IsReplaced (awaited c.args.last.now.post) (length c.args.history.now + 1) 0 c.leave_by.new.by.items c.replace.new.by.items =
    subst (λ t. IsReplaced t (length c.args.history.now + 1) 0 c.leave_by.new.by.items c.replace.new.by.items) c.awaited.ensures c.replace.ensures.items in
    left c.args.history.now c.args.last.now _ _ (length c.args.history.now + 1) c.leave_by.new.by.items w (omega arith) c.leave_waiting.ensures.items
    (c.leave_waiting.ensures.room (waiting_from 1 c.args.history.now) (1 + length c.args.history.now) (w.waiting ∙ waiting-more 1 c.args.history.now c.args.last.now)) c.leave_by.ensures.items marks

pub returns-clause-room : goal.returns-clause-room
returns-clause-room c =
    let w = subst (AreWaits (c.args.history.now ++ c.args.last.now ∷ [])) (sym c.self.view_is) c.requires.waits in
    record {
      waiting_room = c.leave_waiting.ensures.room (waiting_from 1 c.args.history.now) (1 + length c.args.history.now) (w.waiting ∙ waiting-more 1 c.args.history.now c.args.last.now);
      room = omega (arith, c.leave_by.ensures.room, c.replace.ensures.len, c.replace.ensures.capacity);
    }
