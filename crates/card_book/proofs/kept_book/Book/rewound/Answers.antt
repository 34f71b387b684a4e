use Rattle.std.proofs.Common.{◌≡◌, ℕ, ◌-◌, ◌≤◌, ◌∙◌, List, drop, length, take, sym, ap, subst, arith, rules, true, Option, Some}
use Rattle.std.proofs.lemmas.List.{take_rest}
use Rattle.card_fees.specs.declared.tally.Tally.{Tally}
use Rattle.card_model.specs.Cycles.{Cycle}
use Rattle.card_model.specs.declared.entry.Entry.{Entry}
use Rattle.card_rates.specs.RateBooks.{AreByNumber}
use Rattle.card_segments.specs.Unposted.{MayGoBack}
use Rattle.card_daily.specs.declared.state.State.{State}
use Rattle.card_book.specs.Rewound.{GoesBack}
use Rattle.card_book.specs.Stands.{Summary}
use Rattle.card_book.proofs.Rewinding.{behind, numbered-in, rated-count, rewound-goes}
use Rattle.card_book.proofs.Told.{cycle-place}
use Rattle.card_book.proofs.kept_book.Book.rewound.Goals as goal

-- a slice from a number on
part : (xs es : List Entry) (n m : ℕ) → xs ≡ es → n ≡ m → take (length xs - n) (drop n xs) ≡ drop m es
part xs es n m e f = take_rest xs n ∙ (ap (λ (l : List Entry). drop n l) e ∙ ap (λ (k : ℕ). drop k es) f)

abbrev made : ℕ → State → Tally → Option ℕ → Summary
made day state tally since = record { day = Some day; state = state; tally = tally; credit_since = since; whole = true }

some-is : {x y : Cycle} → Some x ≡ Some y → x ≡ y
some-is e = cc

-- the entries behind the closing lie in the list
pub offset_bounds-deref-cycle-inside : goal.offset_bounds-deref-cycle-inside
offset_bounds-deref-cycle-inside c =
    let t = c.args.track.now in
    let cycle = c.cycle_in-cycle.result.now in
    let at = cycle-place c.args.number t.cycles.items cycle c.requires.first c.requires.closed ∙ ap Some (sym (c.cycle_in-cycle.ensures cycle)) in
    let within = (behind c.args.self.now t c.args.number cycle c.requires.folded at).within in
    let same = ap (λ (x : Cycle). x.entries) c.cycle.view_is in
    let long = ap (λ (l : List Entry). length l) c.deref.ensures.value in
    let low : c.cycle.inside.entries ≤ length c.deref.result.now = omega (arith, within, same, long) in
    search rules

pub slice_bounds-behind-count : goal.slice_bounds-behind-count
slice_bounds-behind-count c =
    let t = c.args.track.now in
    let cycle = c.cycle_in-cycle.result.now in
    let at = cycle-place c.args.number t.cycles.items cycle c.requires.first c.requires.closed ∙ ap Some (sym (c.cycle_in-cycle.ensures cycle)) in
    let within = (behind c.args.self.now t c.args.number cycle c.requires.folded at).within in
    let same = ap (λ (x : Cycle). x.entries) c.cycle.view_is in
    let long = ap (λ (l : List Entry). length l) c.deref.ensures.value in
    let low : c.cycle.inside.entries ≤ length c.deref.result.now = omega (arith, within, same, long) in
    search rules

pub slice_bounds-behind-start : goal.slice_bounds-behind-start
slice_bounds-behind-start c =
    let t = c.args.track.now in
    let cycle = c.cycle_in-cycle.result.now in
    let at = cycle-place c.args.number t.cycles.items cycle c.requires.first c.requires.closed ∙ ap Some (sym (c.cycle_in-cycle.ensures cycle)) in
    let within = (behind c.args.self.now t c.args.number cycle c.requires.folded at).within in
    let same = ap (λ (x : Cycle). x.entries) c.cycle.view_is in
    let long = ap (λ (l : List Entry). length l) c.deref.ensures.value in
    let low : c.cycle.inside.entries ≤ length c.deref.result.now = omega (arith, within, same, long) in
    search rules

-- state_at's conditions: each is a field of `behind` for the cycle
pub state_at-requires-clause-back : goal.state_at-requires-clause-back
state_at-requires-clause-back c =
    let t = c.args.track.now in
    let cycle = c.cycle_in-cycle.result.now in
    let at = cycle-place c.args.number t.cycles.items cycle c.requires.first c.requires.closed ∙ ap Some (sym (c.cycle_in-cycle.ensures cycle)) in
    let is = behind c.args.self.now t c.args.number cycle c.requires.folded at in
    let those = part c.deref.result.now t.entries.items c.cycle.inside.entries cycle.entries c.deref.ensures.value (ap (λ (x : Cycle). x.entries) c.cycle.view_is) in
    subst (λ (l : List Entry). MayGoBack l c.self.inside.state.segments.balances) (sym those)
    (subst (λ (b : Summary). MayGoBack (drop cycle.entries t.entries.items) b.state.segments.balances) (sym c.self.view_is) is.back)

pub state_at-requires-clause-last : goal.state_at-requires-clause-last
state_at-requires-clause-last c =
    let t = c.args.track.now in
    let cycle = c.cycle_in-cycle.result.now in
    let at = cycle-place c.args.number t.cycles.items cycle c.requires.first c.requires.closed ∙ ap Some (sym (c.cycle_in-cycle.ensures cycle)) in
    let last = (behind c.args.self.now t c.args.number cycle c.requires.folded at).last in
    let same = ap (λ (x : Cycle). x.closing) c.cycle.view_is in
    omega (arith, last, same)

pub state_at-requires-clause-rated : goal.state_at-requires-clause-rated
state_at-requires-clause-rated c =
    let folded = c.requires.folded in
    let rated = rated-count folded.given c.args.self.now c.args.track.now folded.stands in
    let all = c.len-count.ensures in
    let same = ap (λ (b : Summary). length b.state.rates.segments) c.self.view_is in
    let those = ap (λ (b : Summary). length b.state.segments.segments) c.self.view_is in
    omega (arith, rated, all.segments, all.balances, same, those)

pub state_at-requires-clause-numbered : goal.state_at-requires-clause-numbered
state_at-requires-clause-numbered c =
    let folded = c.requires.folded in
    let numbered = numbered-in folded.given c.args.self.now c.args.track.now folded.stands in
    subst (λ (b : Summary). AreByNumber 2 b.state.rates.segments) (sym c.self.view_is) numbered

-- the closing is a day of requests
pub invariant_of-result : goal.invariant_of-result
invariant_of-result c =
    let t = c.args.track.now in
    let cycle = c.cycle_in-cycle.result.now in
    let at = cycle-place c.args.number t.cycles.items cycle c.requires.first c.requires.closed ∙ ap Some (sym (c.cycle_in-cycle.ensures cycle)) in
    let last = (behind c.args.self.now t c.args.number cycle c.requires.folded at).last in
    let same = ap (λ (x : Cycle). x.closing) c.cycle.view_is in
    omega (arith, last, same)

pub returns-clause-day : goal.returns-clause-day
returns-clause-day c d e =
    let t = c.args.track.now in
    let cycle = c.cycle_in-cycle.result.now in
    let at = cycle-place c.args.number t.cycles.items cycle c.requires.first c.requires.closed ∙ ap Some (sym (c.cycle_in-cycle.ensures cycle)) in
    ap Some (ap (λ (x : Cycle). x.closing) (c.cycle.view_is ∙ some-is (sym at ∙ e)))

pub returns-clause-stands : goal.returns-clause-stands
returns-clause-stands c =
    let t = c.args.track.now in
    let cycle = c.cycle_in-cycle.result.now in
    let at = cycle-place c.args.number t.cycles.items cycle c.requires.first c.requires.closed ∙ ap Some (sym (c.cycle_in-cycle.ensures cycle)) in
    let did = c.in_ok-state_at.ensures in
    let those = part c.deref.result.now t.entries.items c.cycle.inside.entries cycle.entries c.deref.ensures.value (ap (λ (x : Cycle). x.entries) c.cycle.view_is) in
    subst (λ (b : Summary). GoesBack c.args.number b t c.args.since c.args.accrued.now (made c.cycle.inside.closing c.in_ok-state_at.field-0 c.start-uncounted.result c.args.since)) c.self.view_is
    (rewound-goes c.args.number cycle c.cycle.inside.closing _ c.args.since c.args.accrued.now _ t c.in_ok-state_at.field-0 c.start-uncounted.result (ap (λ (x : Cycle). x.closing) c.cycle.view_is) those
    (λ day e. c.requires.folded.last day (ap (λ (b : Summary). b.day) (sym c.self.view_is) ∙ e)) at did.segments did.rates did.rows did.accruals c.start-uncounted.ensures)
