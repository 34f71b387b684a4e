use Rattle.std.proofs.Common.{◌≡◌, ℕ, ◌+◌, length, map, refl, ap, sym, subst, ◌∙◌, arith, true, Option, Some}
use Rattle.card_closing.specs.Rows.{no_rows}
use Rattle.card_fees.specs.declared.tally.Tally.{Tally}
use Rattle.card_daily.specs.declared.state.State.{State}
use Rattle.card_book.proofs.Renewing.{renewed_books_stand}
use Rattle.card_book.proofs.StateParts.{fewer-segments}
use Rattle.card_book.specs.Renewed.{IsRenewed}
use Rattle.card_book.specs.Stands.{Summary}
use Rattle.card_book.proofs.kept_book.Book.renewed.Goals as goal

abbrev made : Option ℕ → State → Tally → Option ℕ → Summary
made day state tally since = record { day = day; state = state; tally = tally; credit_since = since; whole = true }

some-is : {x y : ℕ} → Some x ≡ Some y → x ≡ y
some-is e = cc

pub renewed_state-requires : goal.renewed_state-requires
renewed_state-requires c =
    let h = c.requires.posts in
    let fewer = fewer-segments h.old c.args.inputs.now h.day c.args.self.now h.track h.posts in
    let all = c.len-count.ensures in
    let those = ap (λ (b : Summary). length b.state.segments.segments) c.self.view_is in
    record { fewer = omega (arith, fewer, all.segments, all.balances, those) }

pub returns-clause-stands : goal.returns-clause-stands
returns-clause-stands c old day t h =
    let g = c.args.inputs.now in
    let did = c.in_ok-renewed_state-in-Some.ensures in
    let new = made c.self.inside.day c.in_ok-renewed_state-in-Some.field-0 c.self.inside.tally c.self.inside.credit_since in
    let same : c.in-Some.day ≡ day = some-is (sym c.in-Some.is ∙ (ap (λ (b : Summary). b.day) c.self.view_is ∙ h.day)) in
    let next : c.next.result ≡ day + 1 = c.next.ensures ∙ ap (λ (d : ℕ). d + 1) same in
    renewed_books_stand old g day c.args.self.now new t h
    (subst (λ (b : Summary). IsRenewed g day b new) c.self.view_is
    (record {
      day = refl;
      rates = did.rates;
      segments = did.segments;
      balances = did.balances;
      rows = did.rows ∙ ap (λ (d : ℕ). map (λ x. no_rows d) c.in_ok-renewed_state-in-Some.field-0.rates.segments) next;
      accruals = did.accruals;
      since = refl;
      tally = refl;
    }))
