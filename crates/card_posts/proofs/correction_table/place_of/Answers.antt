use Rattle.std.proofs.Common.{◌≡◌, ℕ, ◌<◌, ◌≤◌, true, false, nat_lt, rules, arith}
use Rattle.std.proofs.lemmas.Bool.Decides.{nat_tests}
use Rattle.std.proofs.lemmas.List.Sorted.{IsPartitionPoint-from_clause}
use Rattle.card_posts.specs.declared.correction_table.Said.{Said}
use Rattle.card_posts.proofs.Sparse.{ascending-parted}
use Rattle.card_posts.proofs.correction_table.place_of.Goals as goal

less : (a b : ℕ) → nat_lt a b ≡ true → a < b
less a b e = grind (arith, nat_tests, e)

least : (a b : ℕ) → nat_lt a b ≡ false → b ≤ a
least a b e = grind (arith, nat_tests, e)

pub returns : goal.returns
returns c =
    let point = IsPartitionPoint-from_clause (λ (s : Said). nat_lt s.number c.args.number) _ _ c.partition_point.ensures.partitioned (ascending-parted c.args.number 1 c.args.said.now c.requires) (λ a r q k. search rules) in
    record {
      front = λ k d l m. less _ _ (point.0 k d (omega arith) l);
      back = λ k d l m. least _ _ (point.1 k d l m);
      within = c.partition_point.ensures.bound;
    }
