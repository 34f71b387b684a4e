use Rattle.std.proofs.Common.{◌+◌, List, ℕ, Option, ap, sym, ◌∙◌}
use Rattle.std.specs.Prelude.{nat_le, nat_lt, [], ◌∷◌}
use Rattle.std.specs.List.{count_by}
use Rattle.std.specs.Option.{option_or}
use Rattle.card_events.specs.Later.{year_after}
use Rattle.card_events.specs.declared.anchor.Anchor.{Anchor}
use Rattle.card_events.specs.History.{adds_segment, anchor_of}
use Rattle.card_events.specs.declared.kept.Kept.{Kept}
use Rattle.card_events.specs.declared.reply.Refusal.{Refusal}
use Rattle.card_events.specs.declared.reply.Refusal.TheVariants as refusal
use Rattle.card_model.specs.Refusals.{first_reason, where_true}
use Rattle.card_reasons.proofs.NoticeLemmas.{when_effective}
use Rattle.card_reasons.proofs.notice.noticed.Goals as goal

pub returns : goal.returns
returns c now rate same =
    let day = c.args.day in
    let effective = c.args.effective in
    let full = c.has_all_segments-full.result in
    let first = c.year_after-first.result in
    c.first_of.ensures
    ∙ ap (λ (o : Option Refusal). option_or o c.pending_reason.result)
    (c.reason_for-soon.ensures
    ∙ ap (λ (x : ℕ). first_reason (where_true full refusal.SegmentsFull ∷ where_true (nat_lt effective x) (refusal.NoticeTooShort x) ∷ where_true (nat_lt effective first) (refusal.FirstYear first) ∷ [])) c.noticed_day.ensures)
    ∙ when_effective now day rate effective c.args.category full first c.pending_reason.result
    (c.has_all_segments-full.ensures ∙ ap (λ (h : List Kept). nat_le 64 (5 + count_by (λ (k : Kept). adds_segment k.post) h)) (sym same))
    (c.year_after-first.ensures ∙ ap (λ (a : Anchor). year_after a.opened) (c.requires.anchor ∙ ap anchor_of (sym same))) (c.pending_reason.ensures now rate effective same)
