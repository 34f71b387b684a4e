use Rattle.std.proofs.Common.{rules, ◌≡◌, List, [], ◌∷◌, ◌++◌, ℕ, ap, sym, ◌∙◌, subst}
use Rattle.card_ports.specs.Visits.{wire}
use Rattle.card_wire.specs.Heads.{Before, IsPendingBefore, Pending}
use Rattle.card_wire.specs.Links.{Read}
use Rattle.card_wire.specs.Places.{IsAt}
use Rattle.card_wire.proofs.HeadLemmas.{pending_more}
use Rattle.card_wire.proofs.LinkLemmas.{read_more}
use Rattle.card_wire.proofs.heading.read_head.Goals as goal

pub returns-in-Ended-clause-before : goal.returns-in-Ended-clause-before
returns-in-Ended-clause-before g c = subst Before (sym c.examine.ensures.kept) (record { few = c.loop-end.invariant.few; pending = c.loop-end.invariant.before })

pub returns-then-is_full-clause-before : goal.returns-then-is_full-clause-before
returns-then-is_full-clause-before g c = subst Before (sym c.examine.ensures.kept) (record { few = c.loop-end.invariant.few; pending = c.loop-end.invariant.before })

pub returns-in_err-byte-clause-before : goal.returns-in_err-byte-clause-before
returns-in_err-byte-clause-before g c = subst Before (sym c.examine.ensures.kept) (record { few = c.loop-end.invariant.few; pending = c.loop-end.invariant.before })

pub loop-end-preserved : goal.loop-end-preserved
loop-end-preserved g c =
    let at = wire g.C.Source.left g.C.Sink.taken g.C.Source.faults in
    let got = c.examine.new.got.items in
    let byte = c.in_ok-byte.byte in
    let kept : got ≡ c.loop-end.got.items = c.examine.ensures.kept in
    let far : Pending got × IsAt c.in-Wanted.next got = c.in-Wanted.ensures.far in
    let longer : c.push.new.self.items ≡ c.loop-end.got.items ++ byte ∷ [] = c.push.ensures.items ∙ ap (λ (l : List ℕ). l ++ byte ∷ []) kept in record {
      read = subst (Read (at c.args.link.now) (at c.read_byte.new.link)) (sym longer) (read_more _ _ _ _ _ c.loop-end.invariant.read c.in_ok-byte.ensures.ok);
      few = search rules;
      before = subst IsPendingBefore (sym c.push.ensures.items) (pending_more got byte (subst IsPendingBefore (sym kept) c.loop-end.invariant.before) far.0);
      at = subst (IsAt c.follow-place.result) (sym c.push.ensures.items) (c.follow-place.ensures got far.1);
    }
