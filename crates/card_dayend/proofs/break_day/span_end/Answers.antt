use Rattle.std.specs.List.Sorted.{IsNonDecreasingBy}
use Rattle.std.specs.Prelude.{IfSome}
use Rattle.std.proofs.Common.{◌≡◌, List, refl, sym, ap, ◌∙◌, subst, arith}
use Rattle.std.proofs.lemmas.Bool.Decides.{nat_tests}
use Rattle.card_events.specs.declared.anchor.Anchor.{Anchor}
use Rattle.card_events.specs.History.{CorrectedPost, anchor_of, corrected}
use Rattle.card_events.specs.declared.kept.Kept.{Kept}
use Rattle.card_model.specs.Cycles.{IssuedRow}
use Rattle.card_events.specs.SharedRows.{IndexRow}
use Rattle.card_rates.specs.Next.{IsNext, changes, index_changes}
use Rattle.card_dayend.specs.Spans.{AreDatesOf, HoldDay, closes, follows_due, has_issue, has_post}
use Rattle.card_dayend.proofs.BreakDays.{next-at-once, span-next}
use Rattle.card_dayend.proofs.break_day.span_end.Goals as goal

pub next_issue-issued-requires-clause-turn : goal.next_issue-issued-requires-clause-turn
next_issue-issued-requires-clause-turn c =
    subst (λ (rs : List IssuedRow). IsNonDecreasingBy (λ (r : IssuedRow). r.day) rs) (sym c.issued.ensures) c.anchor-anchor.ensures.sound.in_turn.issued

pub returns-then-eq-clause-next : goal.returns-then-eq-clause-next
returns-then-eq-clause-next c =
    let g = c.args.inputs.now in
    let first = c.args.first in
    let holidays = g.shared.holidays in
    let a = anchor_of g.history in
    let is = c.if-eq.true in
    let means = c.eq.ensures in
    let same : c.next_post-posted.result ≡ first = grind (arith, nat_tests, is, means) in
    let list : c.posts.result.now.corrected ≡ corrected a holidays g.history =
    c.posts.ensures.stands ∙ ap (λ (h : List Kept). corrected (anchor_of h) holidays h) c.posts.ensures.history in
    span-next g c.args.rates.now.penalties c.args.rates.now first c.args.to first first first first first first c.requires.rates refl c.requires.variable
    (subst (λ (ps : List CorrectedPost). IsNext (has_post ps) first c.args.to first) list
    (subst (λ d. IsNext (has_post c.posts.result.now.corrected) first c.args.to d) same (c.next_post-posted.ensures holidays c.posts.ensures.stands)))
    (next-at-once (closes a) first) (next-at-once (follows_due a) first) (next-at-once (has_issue g.issued) first) (next-at-once (changes c.args.rates.now) first) (next-at-once (index_changes a.opened g.shared.index c.args.rates.now) first)

pub returns-clause-next : goal.returns-clause-next
returns-clause-next c =
    let g = c.args.inputs.now in
    let first = c.args.first in
    let posted = c.next_post-posted.result in
    let closing = c.next_closing-closing.result in
    let due = c.next_after_due-due.result in
    let issued = c.next_issue-issued.result in
    let a = anchor_of g.history in
    let holds : HoldDay a c.dates_at-dates.result first = subst (λ (x : Anchor). HoldDay x c.dates_at-dates.result first) c.anchor-anchor.ensures.value c.dates_at-dates.ensures in
    let holidays = g.shared.holidays in
    let list : c.posts.result.now.corrected ≡ corrected (anchor_of g.history) holidays g.history =
    c.posts.ensures.stands ∙ ap (λ (h : List Kept). corrected (anchor_of h) holidays h) c.posts.ensures.history in
    span-next g c.args.rates.now.penalties c.args.rates.now first c.args.to posted closing due issued c.next_change-changed.result c.next_index.result c.requires.rates refl c.requires.variable
    (subst (λ (ps : List CorrectedPost). IsNext (has_post ps) first c.args.to posted) list (c.next_post-posted.ensures holidays c.posts.ensures.stands))
    (c.next_closing-closing.ensures.next a holds)
    (c.next_after_due-due.ensures a holds (c.next_closing-closing.ensures.within a holds))
    (subst (λ (rs : List IssuedRow). IsNext (has_issue rs) first due issued) c.issued.ensures c.next_issue-issued.ensures)
    c.next_change-changed.ensures
    (subst (λ (x : Anchor). IsNext (index_changes x.opened g.shared.index c.args.rates.now) first c.next_change-changed.result c.next_index.result) c.anchor-anchor.ensures.value
    (subst (λ (rows : List IndexRow). IsNext (index_changes c.anchor-anchor.result.opened rows c.args.rates.now) first c.next_change-changed.result c.next_index.result) c.index.ensures c.next_index.ensures))

pub dates_at-dates-requires-clause-read : goal.dates_at-dates-requires-clause-read
dates_at-dates-requires-clause-read c = subst (λ (a : Anchor). IfSome c.args.cursor.now.cycle (AreDatesOf a)) (sym c.anchor-anchor.ensures.value) c.requires.cursor

pub next_after_due-due-requires : goal.next_after_due-due-requires
next_after_due-due-requires c = (c.next_closing-closing.ensures.next c.anchor-anchor.result c.dates_at-dates.ensures).low

pub next_issue-issued-requires-clause-order : goal.next_issue-issued-requires-clause-order
next_issue-issued-requires-clause-order c =
    let a = c.anchor-anchor.result in
    let holds = c.dates_at-dates.ensures in
    (c.next_after_due-due.ensures a holds (c.next_closing-closing.ensures.within a holds)).low

pub returns-clause-cursor : goal.returns-clause-cursor
returns-clause-cursor c = subst (λ (a : Anchor). AreDatesOf a c.dates_at-dates.result) c.anchor-anchor.ensures.value c.dates_at-dates.ensures.dates
