use Rattle.std.proofs.Common.{cond, Some, ◌∙◌, ap}
use Rattle.std.specs.Str.{bytes_eq}
use Rattle.card_desk.specs.IndexPlaces.{place_of}
use Rattle.card_desk.proofs.MapLemmas.{updated}
use Rattle.card_desk.proofs.index.NameIndex.insert.Goals as goal

pub returns-clause-ok : goal.returns-clause-ok
returns-clause-ok c q =
    let old = c.self.inside.places.entries in
    let updates = c.in_ok-insert.ensures.updates in
    updated c.of.result old _ (Some c.args.place) updates.3 updates.1 q
    ∙ ap (λ n. cond (bytes_eq q n) (Some c.args.place) (place_of q old)) c.of.ensures
    ∙ ap (λ l. cond (bytes_eq q c.args.name.now) (Some c.args.place) (place_of q l)) c.self.view_is
