use Rattle.std.proofs.Common.{◌≡◌, ap₂, subst, sym}
use Rattle.sqlite_trees.specs.Objects.{catalog_tree}
use Rattle.sqlite_catalog.specs.Listing.{Lists}
use Rattle.sqlite_catalog.proofs.ReadLemmas.{lists_once}
use Rattle.sqlite.specs.Effect.{Database}
use Rattle.sqlite.specs.Files.{file_state}
use Rattle.sqlite.proofs.Callers.{finds_again}
use Rattle.card_sqlite.specs.Kept.{AreKept, Keeps}
use Rattle.card_sqlite.proofs.laws.rows_survive_close.Goals as goal

pub returns : goal.returns
returns g c = record {
  rows = λ old new files rows closed found.
      let same = finds_again old new files closed found in
      (subst (λ t. AreKept t rows) (sym same), subst (λ t. AreKept t rows) same);
  table = λ old new files rows live closed found opened.
      let before = (file_state old).committed in
      let after = (file_state new).committed in
      let trees : after.trees ≡ before.trees = finds_again old new files closed found in
      let mine = (live (closed found.honest).was_open).1 in
      let its = (opened.1 opened.0.is_open).1 in
      let schema : after.schema ≡ before.schema = lists_once (before.trees catalog_tree) after.schema before.schema (subst (λ t. Lists (t catalog_tree) after.schema) trees its.lists) mine.lists in
      let same : after ≡ before = ap₂ (λ s t. record { schema = s; trees = t }) schema trees in
      (subst (λ (d : Database). Keeps d rows) (sym same), subst (λ (d : Database). Keeps d rows) same);
}
