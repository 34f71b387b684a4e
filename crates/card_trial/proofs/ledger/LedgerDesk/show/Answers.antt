use Rattle.std.proofs.Common.{ℕ, ◌<◌, ◌≤◌, ◌^◌, List, Option, drop, length, ap, sym, subst, arith}
use Rattle.std.proofs.lemmas.List.{drop_all, length-drop}
use Rattle.card_desk.specs.Reached.{MovesToTell}
use Rattle.card_desk.specs.Recorded.{ChangesAt, MayChange}
use Rattle.card_model.specs.declared.entry.Entry.{Entry}
use Rattle.card_trial.specs.Totals.{AreEntered, AreTotals}
use Rattle.card_trial.proofs.Applied.{as_long, read_there}
use Rattle.card_trial.proofs.Changed.{none-out, replaced, room-after}
use Rattle.card_trial.proofs.Fronts.{as-many, told-front}
use Rattle.card_trial.proofs.ledger.LedgerDesk.show.Goals as goal

pub recorded-requires : goal.recorded-requires
recorded-requires g c =
    let d = c.self.inside.desk in
    let new = c.show-result.new.self in
    let at = c.in-Some.at in
    let change : ChangesAt at d.recorded new.recorded = subst (λ (o : Option ℕ). MayChange o d.recorded new.recorded) (sym c.in-Some.ensures.value) c.show-result.ensures.recorded in
    omega (arith, c.in-Some.ensures.within, as_long at d.recorded new.recorded change)

pub behind-requires : goal.behind-requires
behind-requires g c =
    let d = c.self.inside.desk in
    let new = c.show-result.new.self in
    let es = c.recorded-entered.result.now in
    let fs = c.recorded.result.now in
    let moves = subst (λ (o : Option ℕ). MovesToTell o c.show-result.result d new) (sym c.in-Some.ensures.value) c.show-result.ensures.reached in
    let front = told-front d new c.in-Some.at c.show-result.result es fs c.show-result.ensures.state c.recorded-entered.ensures.reached moves c.recorded-entered.ensures.entries c.recorded.ensures.entries in
    as-many (length es) es fs (omega arith) front

pub put_in-requires : goal.put_in-requires
put_in-requires g c =
    let fs = c.recorded.result.now in
    let few : length c.self.inside.desk.recorded ≤ 1_000_000 = omega (arith, c.accounts-few.ensures.few, c.accounts-few.ensures.recorded) in
    let short : length c.behind.result.now < 2 ^ 32 = omega (arith, c.recorded.ensures.few, length-drop (length c.recorded-entered.result.now) fs, ap (λ (l : List Entry). length l) c.behind.ensures) in
    room-after c.self.inside.desk.recorded c.self.inside.totals (length c.behind.result.now) c.self.invariant few short

pub invariant_of-self : goal.invariant_of-self
invariant_of-self g c =
    let d = c.self.inside.desk in
    let new = c.show-result.new.self in
    let at = c.in-Some.at in
    let es = c.recorded-entered.result.now in
    let fs = c.recorded.result.now in
    let within = c.in-Some.ensures.within in
    let change : ChangesAt at d.recorded new.recorded = subst (λ (o : Option ℕ). MayChange o d.recorded new.recorded) (sym c.in-Some.ensures.value) c.show-result.ensures.recorded in
    let moves = subst (λ (o : Option ℕ). MovesToTell o c.show-result.result d new) (sym c.in-Some.ensures.value) c.show-result.ensures.reached in
    let front = told-front d new at c.show-result.result es fs c.show-result.ensures.state c.recorded-entered.ensures.reached moves c.recorded-entered.ensures.entries c.recorded.ensures.entries in
    let entered = subst (λ (l : List Entry). AreEntered l c.self.inside.totals c.put_in.new.self) c.behind.ensures c.put_in.ensures in
    subst (λ (ls : List (List Entry)). AreTotals ls c.put_in.new.self) (read_there at d.recorded new.recorded fs within change c.recorded.ensures.value)
    (replaced d.recorded at (length es) es fs c.self.inside.totals c.self.inside.totals c.put_in.new.self c.self.invariant within (c.recorded-entered.ensures.value es) front
    (none-out c.self.inside.totals (drop (length es) es) (drop_all (length es) es (omega arith))) entered c.recorded.ensures.few)
