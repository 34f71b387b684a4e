use Rattle.std.proofs.Common.{ℕ, List, ap, sym, ◌∙◌, subst, arith}
use Rattle.matchit.specs.Params.{AllText, walk}
use Rattle.matchit.specs.Router.{RouteOf}
use Rattle.matchit.specs.Rows.{RowsOf}
use Rattle.matchit.specs.Seek.{first}
use Rattle.card_wire.specs.Taken.{placed_route}
use Rattle.card_wire.specs.declared.routes.Place.{Place}
use Rattle.card_wire.proofs.TakenLemmas.{found_gives, missing_none, text_of}
use Rattle.card_wire.proofs.routes.Routes.find.Goals as goal

pub route_at-requires : goal.route_at-requires
route_at-requires c =
    let path = c.args.path.now in
    let p = c.in-Ok.found.params in
    let bytes = text_of path (λ i. omega (arith, c.type_inv.path i)) in
    let at = ap (λ (rows : RowsOf (RouteOf Place)). first rows path) (sym c.self.invariant) ∙ c.in-Ok.ensures.found in
    let given = found_gives path bytes c.utf8.path _ at in
    record { text = subst (λ (l : List ℕ). AllText (walk p.pattern.now p.text.now l p.names.now 0 0)) (sym c.in-Ok.ensures.path) given.text }

pub returns-in-Ok : goal.returns-in-Ok
returns-in-Ok c =
    let path = c.args.path.now in
    let p = c.in-Ok.found.params in
    let bytes = text_of path (λ i. omega (arith, c.type_inv.path i)) in
    let at = ap (λ (rows : RowsOf (RouteOf Place)). first rows path) (sym c.self.invariant) ∙ c.in-Ok.ensures.found in
    let given = found_gives path bytes c.utf8.path _ at in
    c.route_at.ensures ∙ ap (λ (l : List ℕ). placed_route c.in-Ok.found.value.now (walk p.pattern.now p.text.now l p.names.now 0 0)) c.in-Ok.ensures.path ∙ given.route

pub returns-in-Err : goal.returns-in-Err
returns-in-Err c =
    let path = c.args.path.now in
    let bytes = text_of path (λ i. omega (arith, c.type_inv.path i)) in
    let at = ap (λ (rows : RowsOf (RouteOf Place)). first rows path) (sym c.self.invariant) ∙ c.in-Err.ensures.missing in
    sym (missing_none path bytes at)
