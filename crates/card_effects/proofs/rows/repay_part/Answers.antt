use Rattle.std.proofs.Common.{◌≡◌, ◌≤◌, ◌-◌, [], ◌∷◌, ℕ, ap, ◌∙◌, sym, subst, refl, inl, inr, arith, w64, to_z, set, get_or, map}
use Rattle.std.specs.Prelude.{unsigned_abs}
use Rattle.std.proofs.lemmas.Int.{to_z_pos}
use Rattle.card_closing.specs.Rows.{Rows, with_repayment, without_post}
use Rattle.card_closing.specs.declared.rows.Repayment.{Repayment}
use Rattle.card_effects.specs.Repaid.{AreRepaid}
use Rattle.card_effects.proofs.Carried.{none-repaid, one-repaid, others-stay}
use Rattle.card_effects.proofs.rows.repay_part.Goals as goal
use Rattle.card_effects.proofs.rows.repay_part.Goals.{then-segment-lt2-via-then-segment-lt2, then-segment-lt2-via-else-segment-lt2+then-cents-eq0}
use Rattle.card_model.specs.Limits.{balance_limit}

handed : (n : ℕ) → n ≤ balance_limit → unsigned_abs (to_z w64 n) ≡ n
handed n l = ap unsigned_abs (to_z_pos w64 n (omega (arith, l)))

pub returns-then-segment-lt2-clause-repaid : goal.returns-then-segment-lt2-clause-repaid
returns-then-segment-lt2-clause-repaid c =
    elim c.then-segment-lt2.branch [
      | then-segment-lt2-via-then-segment-lt2 w ↦ none-repaid c.args.slot.now.day c.args.slot.now.number c.args.segment c.args.cents c.args.rows.now (inr (omega (arith, w.if-segment-lt2)))
      | then-segment-lt2-via-else-segment-lt2+then-cents-eq0 w ↦ none-repaid c.args.slot.now.day c.args.slot.now.number c.args.segment c.args.cents c.args.rows.now (inl (omega (arith, w.if-cents-eq0)))
    ]

pub returns-clause-repaid : goal.returns-clause-repaid
returns-clause-repaid c =
    let rows = c.args.rows.now in
    let place = c.args.segment - 2 in
    let old = get_or rows place c.index-rows-segment.result in
    let grown = c.in_ok-repaid.ensures.ok ∙ ap (λ (n : ℕ). with_repayment (record { day = c.args.slot.now.day; cents = n; post = c.args.slot.now.number }) old) (handed c.args.cents c.requires.limit) in
    subst (λ (x : Rows). AreRepaid c.args.slot.now.day c.args.slot.now.number ((c.args.segment, c.args.cents) ∷ []) rows (set rows place x)) (sym grown)
    (one-repaid c.args.slot.now.day c.args.slot.now.number c.args.segment c.args.cents c.index-rows-segment.result rows (omega (arith, c.if-segment-lt2.false)) c.requires.known (omega (arith, c.if-cents-eq0.false)))

pub returns-clause-others : goal.returns-clause-others
returns-clause-others c =
    let rows = c.args.rows.now in
    let post = c.args.slot.now.number in
    let repayment : Repayment = record { day = c.args.slot.now.day; cents = unsigned_abs (to_z w64 c.args.cents); post = post } in
    ap (λ (x : Rows). map (without_post post) (set rows (c.args.segment - 2) x)) c.in_ok-repaid.ensures.ok ∙ others-stay post repayment rows (c.args.segment - 2) c.index-rows-segment.result refl
