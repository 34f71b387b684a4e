use Rattle.std.proofs.Common.{◌≡◌, ℕ, ◌<◌, ◌≤◌, ◌^◌, List, length, get_or, ap, sym, ◌∙◌, subst, arith}
use Rattle.std.proofs.lemmas.List.{length-drop}
use Rattle.card_desk.specs.Recorded.{ChangesAt, MayGrow}
use Rattle.card_model.specs.declared.entry.Entry.{Entry}
use Rattle.card_trial.specs.Totals.{AreEnough, AreEntered, AreTotals, IsTakenOut}
use Rattle.card_trial.proofs.Applied.{as_long, changed, grown, none_came, read_behind, read_there, shared_same}
use Rattle.card_trial.proofs.Changed.{enough-at, entered-behind, replaced, room-after, room-without}
use Rattle.card_trial.proofs.Fronts.{applied-front, as-many}
use Rattle.card_trial.proofs.ledger.LedgerDesk.apply.Goals as goal

-- ---- a shared request
pub invariant_of-self : goal.invariant_of-self
invariant_of-self g c =
    let same = shared_same c.self.inside.desk c.apply.new.self c.args.request.now c.in-Shared.field-0 c.in-Shared.is c.apply.ensures.recorded in
    subst (λ (ls : List (List Entry)). AreTotals ls c.self.inside.totals) (sym same) c.self.invariant

-- ---- a post of an account that is there
pub behind-requires : goal.behind-requires
behind-requires g c = omega (arith, c.standing-standing.ensures.stay.within, ap (λ (l : List Entry). length l) c.recorded.ensures.entries)

pub take_out-requires : goal.take_out-requires
take_out-requires g c =
    let es = c.recorded.result.now in
    subst (λ (l : List Entry). AreEnough l c.self.inside.totals) (sym c.behind.ensures)
    (enough-at c.self.inside.desk.recorded c.in-Some.at c.standing-standing.result es c.self.inside.totals c.self.invariant c.in-Some.ensures.within (c.recorded.ensures.value es))

pub recorded-requires-in-Some : goal.recorded-requires-in-Some
recorded-requires-in-Some g c =
    let d = c.self.inside.desk in
    let new = c.apply-result.new.self in
    let at = c.in-Some.at in
    let change : ChangesAt at d.recorded new.recorded = changed d new c.args.request.now c.in-Post.account c.in-Post.key c.in-Post.post at c.in-Post.is (sym c.in-Some.ensures.value) c.apply-result.ensures.recorded in
    omega (arith, c.in-Some.ensures.within, as_long at d.recorded new.recorded change)

pub behind-requires-in-Some : goal.behind-requires-in-Some
behind-requires-in-Some g c =
    let es = c.recorded.result.now in
    let fs = c.recorded-in-Some.result.now in
    let n = c.standing-standing.result in
    let front = applied-front _ _ c.self.inside.desk c.apply-result.new.self c.args.request.now c.in-Post.account c.in-Post.key c.in-Post.post c.in-Some.at n c.apply-result.result es fs c.in-Post.is (sym c.in-Some.ensures.value) c.standing-standing.ensures.stay
    c.apply-result.ensures.ok c.apply-result.ensures.err c.apply-result.ensures.reached c.recorded.ensures.entries c.recorded-in-Some.ensures.entries in
    as-many n es fs (omega (arith, c.standing-standing.ensures.stay.within, ap (λ (l : List Entry). length l) c.recorded.ensures.entries)) front

pub put_in-requires : goal.put_in-requires
put_in-requires g c =
    let fs = c.recorded-in-Some.result.now in
    let few : length c.self.inside.desk.recorded ≤ 1_000_000 = omega (arith, c.accounts-few.ensures.few, c.accounts-few.ensures.recorded) in
    let short : length c.behind-in-Some.result.now < 2 ^ 32 = omega (arith, c.recorded-in-Some.ensures.few, length-drop c.standing-standing.result fs, ap (λ (l : List Entry). length l) c.behind-in-Some.ensures) in
    room-without c.self.inside.desk.recorded c.behind.result.now c.self.inside.totals c.take_out.new.self (length c.behind-in-Some.result.now) c.self.invariant c.take_out.ensures few short

pub invariant_of-self-in-Some : goal.invariant_of-self-in-Some
invariant_of-self-in-Some g c =
    let d = c.self.inside.desk in
    let new = c.apply-result.new.self in
    let at = c.in-Some.at in
    let n = c.standing-standing.result in
    let es = c.recorded.result.now in
    let fs = c.recorded-in-Some.result.now in
    let within = c.in-Some.ensures.within in
    let change : ChangesAt at d.recorded new.recorded = changed d new c.args.request.now c.in-Post.account c.in-Post.key c.in-Post.post at c.in-Post.is (sym c.in-Some.ensures.value) c.apply-result.ensures.recorded in
    let front = applied-front _ _ d new c.args.request.now c.in-Post.account c.in-Post.key c.in-Post.post at n c.apply-result.result es fs c.in-Post.is (sym c.in-Some.ensures.value) c.standing-standing.ensures.stay
    c.apply-result.ensures.ok c.apply-result.ensures.err c.apply-result.ensures.reached c.recorded.ensures.entries c.recorded-in-Some.ensures.entries in
    let out = subst (λ (l : List Entry). IsTakenOut l c.self.inside.totals c.take_out.new.self) c.behind.ensures c.take_out.ensures in
    let entered = subst (λ (l : List Entry). AreEntered l c.take_out.new.self c.put_in.new.self) c.behind-in-Some.ensures c.put_in.ensures in
    subst (λ (ls : List (List Entry)). AreTotals ls c.put_in.new.self) (read_there at d.recorded new.recorded fs within change c.recorded-in-Some.ensures.value)
    (replaced d.recorded at n es fs c.self.inside.totals c.take_out.new.self c.put_in.new.self c.self.invariant within (c.recorded.ensures.value es) front out entered c.recorded-in-Some.ensures.few)

-- ---- of one that isn't
pub put_in-requires-then-accounts-before : goal.put_in-requires-then-accounts-before
put_in-requires-then-accounts-before g c =
    let few : length c.self.inside.desk.recorded ≤ 1_000_000 = omega (arith, c.accounts-before.ensures.few, c.accounts-before.ensures.recorded) in
    room-after c.self.inside.desk.recorded c.self.inside.totals (length c.recorded-then-accounts-before.result.now) c.self.invariant few c.recorded-then-accounts-before.ensures.few

pub invariant_of-self-then-accounts-before : goal.invariant_of-self-then-accounts-before
invariant_of-self-then-accounts-before g c =
    let d = c.self.inside.desk in
    let new = c.apply-result-in-None.new.self in
    let fs = c.recorded-then-accounts-before.result.now in
    let count : c.accounts-before.result ≡ length d.recorded = c.accounts-before.ensures.recorded in
    let more : length d.recorded < length new.recorded = omega (arith, count, c.accounts.ensures.recorded, c.if-accounts-before.true) in
    let grow : MayGrow d.recorded new.recorded = grown d new c.args.request.now c.in-Post.account c.in-Post.key c.in-Post.post c.in-Post.is (sym c.in-None.ensures.value) c.apply-result-in-None.ensures.recorded in
    subst (λ (ls : List (List Entry)). AreTotals ls c.put_in-then-accounts-before.new.self)
    (read_behind d.recorded new.recorded fs more grow (λ e. c.recorded-then-accounts-before.ensures.value e ∙ ap (λ (n : ℕ). get_or new.recorded n e) count))
    (entered-behind d.recorded fs c.self.inside.totals c.put_in-then-accounts-before.new.self c.self.invariant c.put_in-then-accounts-before.ensures c.recorded-then-accounts-before.ensures.few)

pub invariant_of-self-else-accounts-before : goal.invariant_of-self-else-accounts-before
invariant_of-self-else-accounts-before g c =
    let d = c.self.inside.desk in
    let new = c.apply-result-in-None.new.self in
    let few : length new.recorded ≤ length d.recorded = omega (arith, c.accounts-before.ensures.recorded, c.accounts.ensures.recorded, c.if-accounts-before.false) in
    let grow : MayGrow d.recorded new.recorded = grown d new c.args.request.now c.in-Post.account c.in-Post.key c.in-Post.post c.in-Post.is (sym c.in-None.ensures.value) c.apply-result-in-None.ensures.recorded in
    subst (λ (ls : List (List Entry)). AreTotals ls c.self.inside.totals) (sym (none_came d.recorded new.recorded few grow)) c.self.invariant
