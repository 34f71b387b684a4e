use Rattle.std.proofs.Common.{◌≡◌, ◌∙◌, ◌+◌, ◌<◌, ◌≤◌, ◌^◌, List, ap, arith, length, get_or, rules, subst, sym, take}
use Rattle.std.specs.Prelude.{nat_abs}
use Rattle.std.specs.List.{All}
use Rattle.card_model.specs.declared.entry.Entry.{Entry}
use Rattle.card_statement.specs.Gathering.{sizes, with_if}
use Rattle.card_model.specs.declared.lines.Move.{Move}
use Rattle.card_statement.proofs.LatestDay.{none-yet, others-at, went-on-at}
use Rattle.card_statement.proofs.Steps.{gathered-more, if-small, none-gathered, room}
use Rattle.card_statement.proofs.moves.gather.Goals as goal

pub loop-i-init : goal.loop-i-init
loop-i-init c =
    record {
      gathered = none-gathered c.new-moves.result.items c.new-moves.ensures.items;
      small = λ k d l. let n = ap length c.new-moves.ensures.items in absurd (omega (arith, n, l));
      up_to = none-yet c.first-latest.result c.new-moves.result.items c.new-moves.ensures.items;
    }

pub add_if-requires : goal.add_if-requires
add_if-requires c =
    let es = c.args.entries.now in
    let e = c.index-entries-i.result in
    let ok = c.loop-i.moves.ok.0 in
    let count : c.len.result ≡ length c.loop-i.moves.items = omega (arith, c.len.ensures, ok) in
    let below : c.loop-i.i < length es = search rules in
    record {
      small = λ k d l.
          subst (λ (x : Entry). nat_abs (get_or c.loop-i.moves.items k d).cents + nat_abs x.cents ≤ 10 ^ 17) (sym c.index-entries-i.is)
          (room es c.loop-i.i e (nat_abs (get_or c.loop-i.moves.items k d).cents) below c.requires.small (c.loop-i.invariant.small k d l));
      others = others-at c.loop-i.latest c.loop-i.from c.len.result c.beginning-from.result e c.loop-i.moves.items c.loop-i.invariant.up_to count c.beginning-from.ensures;
    }

pub loop-i-preserved : goal.loop-i-preserved
loop-i-preserved c =
    let es = c.args.entries.now in
    let i = c.loop-i.i in
    let e = c.index-entries-i.result in
    let ok = c.loop-i.moves.ok.0 in
    let count : c.len.result ≡ length c.loop-i.moves.items = omega (arith, c.len.ensures, ok) in
    let below : i < length es = search rules in
    let new : c.add_if.new.moves.items ≡ with_if (get_or es i e) c.loop-i.moves.items = c.in_ok-add_if.ensures ∙ ap (λ (x : Entry). with_if x c.loop-i.moves.items) c.index-entries-i.is in
    record {
      gathered = new ∙ (ap (with_if (get_or es i e)) c.loop-i.invariant.gathered ∙ gathered-more es i e below);
      small = subst (λ (l : List Move). All (λ m. nat_abs m.cents ≤ sizes (take (i + 1) es)) l) (sym new) (if-small es i e c.loop-i.moves.items below c.loop-i.invariant.small);
      up_to =
          went-on-at c.loop-i.latest c.loop-i.from c.len.result c.beginning-from.result c.later-latest.result e c.loop-i.moves.items c.add_if.new.moves.items c.loop-i.invariant.up_to count
          c.beginning-from.ensures c.later-latest.ensures c.in_ok-add_if.ensures;
    }
