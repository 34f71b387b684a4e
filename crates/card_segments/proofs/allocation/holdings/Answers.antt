use Rattle.std.proofs.Common.{◌≡◌, ◌++◌, [], ◌∷◌, ◌<◌, ◌∙◌, sym, length, arith, None}
use Rattle.std.proofs.lemmas.List.Elements.{All-append, All-cons, All-nil}
use Rattle.card_segments.specs.declared.rank.Rank.{Rank}
use Rattle.card_segments.proofs.HoldingLists.{holdings-passed, holdings-pushed}
use Rattle.card_segments.proofs.Turn.{Roomy}
use Rattle.card_segments.proofs.allocation.holdings.Goals as goal
use Rattle.card_segments.proofs.allocation.holdings.Goals.{then-has_balance+in_ok-push, else-has_balance}

pub loop-id-preserved : goal.loop-id-preserved
loop-id-preserved c =
    let i = c.loop-id.id in
    let bs = c.args.s.now.balances in
    let xs = c.loop-id.list.items in
    let none : Rank = record { rate = 0; last_two = None } in
    let in_balances : i < length bs = omega (arith, c.len-id-end.ensures.balances) in
    let in_ranks : i < length c.args.ranks.now = omega (arith, c.requires) in
    elim c.if-has_balance.branch [
      | then-has_balance+in_ok-push w ↦
          let h = w.holding.result in
          let pushed : w.push.new.self.items ≡ xs ++ h ∷ [] = w.in_ok-push.ensures.items in
          record {
            items = rw (w.list-is, pushed) (holdings-pushed c.args.place.now xs _ h i bs c.args.ranks.now none in_balances in_ranks (sym c.has_balance.ensures ∙ w.if-has_balance.true) (w.holding.ensures.value none) c.loop-id.invariant.items);
            room = rw (w.list-is, pushed) (All-append Roomy xs (h ∷ []) c.loop-id.invariant.room (All-cons Roomy h [] w.holding.ensures.room (All-nil Roomy)));
          }
      | else-has_balance w ↦
          record {
            items = rw w.list-is (holdings-passed c.args.place.now xs _ i bs c.args.ranks.now none in_balances in_ranks (sym c.has_balance.ensures ∙ w.if-has_balance.false) c.loop-id.invariant.items);
            room = rw w.list-is c.loop-id.invariant.room;
          }
    ]
