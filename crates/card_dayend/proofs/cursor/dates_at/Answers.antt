use Rattle.std.proofs.Common.{refl, subst}
use Rattle.std.specs.Prelude.{IfSome}
use Rattle.card_dayend.specs.Spans.{AreDatesOf}
use Rattle.card_dayend.proofs.cursor.dates_at.Goals as goal

pub returns-then-hold : goal.returns-then-hold
returns-then-hold c =
    record {
      dates = subst (λ o. IfSome o (AreDatesOf c.args.anchor.now)) c.in-Some.is c.requires.read;
      first = c.if-hold.ensures.first refl;
      upto = c.if-hold.ensures.upto refl;
      last = c.requires.last;
    }
