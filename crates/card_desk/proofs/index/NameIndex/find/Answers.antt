use Rattle.std.proofs.Common.{◌∙◌, ap}
use Rattle.card_desk.specs.IndexPlaces.{place_of}
use Rattle.card_desk.proofs.MapLemmas.{found}
use Rattle.card_desk.proofs.index.NameIndex.find.Goals as goal

pub returns : goal.returns
returns c =
    let entries = c.self.inside.places.entries in
    c.copied.ensures ∙ c.get.ensures.value ∙ found c.of.result entries ∙ ap (λ n. place_of n entries) c.of.ensures ∙ ap (place_of c.args.name.now) c.self.view_is
