use Rattle.std.proofs.Common.{cond, None, ◌∙◌, ap}
use Rattle.std.specs.Str.{bytes_eq}
use Rattle.card_desk.specs.IndexPlaces.{place_of}
use Rattle.card_desk.proofs.MapLemmas.{updated}
use Rattle.card_desk.proofs.index.NameIndex.remove.Goals as goal

pub returns : goal.returns
returns c q =
    let old = c.self.inside.places.entries in
    let updates = c.remove.ensures.updates in
    updated c.of.result old c.remove.new.self.entries None updates.3 updates.1 q
    ∙ ap (λ n. cond (bytes_eq q n) None (place_of q old)) c.of.ensures
    ∙ ap (λ l. cond (bytes_eq q c.args.name.now) None (place_of q l)) c.self.view_is
