use Rattle.std.proofs.Common.{◌≡◌, ℕ, List, length, get_or, ap, ◌∙◌}
use Rattle.std.specs.Prelude.{replicate}
use Rattle.std.proofs.lemmas.List.{get_or-replicate, length-replicate}
use Rattle.card_keys.specs.Buckets.{earlier_from, last_in}
use Rattle.card_keys.proofs.key_table.KeyTable.new.Goals as goal

pub returns : goal.returns
unfolding last_in earlier_from
returns c =
    let zeros : c.in_ok-vec.field-0.items ≡ replicate c.args.buckets 0 = c.in_ok-vec.ensures.items_if_clones_equal (λ y e. e) in
    record {
      size = c.args.buckets;
      some = c.requires;
      long = ap (λ (xs : List ℕ). length xs) zeros ∙ length-replicate c.args.buckets 0;
      last = λ b d l. ap (λ (xs : List ℕ). get_or xs b d) zeros ∙ get_or-replicate c.args.buckets b 0 d l;
      earlier = c.new.ensures.items;
    }
