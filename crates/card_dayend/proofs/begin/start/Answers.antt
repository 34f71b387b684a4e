use Rattle.std.proofs.Common.{◌-◌, [], length, replicate, ap, ◌∙◌}
use Rattle.card_events.specs.declared.anchor.Anchor.{Anchor}
use Rattle.card_closing.specs.Accruals.{nothing_accrued}
use Rattle.card_closing.specs.Rows.{no_rows}
use Rattle.card_rates.specs.RateBooks.{rates_of}
use Rattle.card_rates.specs.Segments.{account_segments}
use Rattle.card_dayend.proofs.Opened.{starts}
use Rattle.card_dayend.proofs.begin.start.Goals as goal

pub returns : goal.returns
returns c t blank =
    let g = c.args.inputs.now in
    starts g (record { segments = c.in_ok-segments.segments; rates = c.in_ok-of.field-0; rows = c.in_ok-empty_rows.field-0; accruals = c.in_ok-no_accruals.field-0 }) t c.anchor-opened.ensures.sound
    (record {
      segments = c.in_ok-segments.ensures.segments g.shared.holidays ∙ ap (account_segments g.shared.holidays) c.posts.ensures.history;
      unused = c.in_ok-segments.ensures.unused;
      rates = c.in_ok-of.ensures g.shared.holidays ∙ ap (λ h. rates_of g.shared.holidays h []) c.posts-2.ensures.history;
      rows =
          c.in_ok-empty_rows.ensures
          ∙ (ap (λ n. replicate (n - 2) (no_rows c.anchor-opened.result.opened)) c.len.ensures.segments
          ∙ ap (λ (a : Anchor). replicate (length c.in_ok-segments.segments.segments - 2) (no_rows a.opened)) c.anchor-opened.ensures.value);
      accruals = c.in_ok-no_accruals.ensures ∙ ap (λ n. replicate (n - 2) nothing_accrued) c.len.ensures.segments;
    })
    blank
