use Rattle.std.proofs.Common.{◌≡◌, ℕ, List, [], ◌∷◌, ◌++◌, sym, ◌∙◌, subst}
use Rattle.card_wire.specs.Heads.{Parses}
use Rattle.card_wire.specs.Places.{EndsLine, IsAt}
use Rattle.card_wire.proofs.PlaceLemmas.{ends_line, taken_away}
use Rattle.card_wire.proofs.heading.behind_line.Goals as goal

pub returns-clause-at : goal.returns-clause-at
returns-clause-at c =
    let got = c.args.got.now.items in
    let fields = c.parse-end.new.fields in
    let bytes : c.as_slice-2.result.now ≡ got ++ 10 ∷ [] = c.as_slice-2.ensures.value ∙ c.push.ensures.items in
    let parsed = subst (λ (l : List ℕ). Parses l fields c.parse-end.result) bytes c.parse-end.ensures in
    let line = ends_line got c.as_slice.result.now c.as_slice-else-is_full.result.now c.ends_with.result c.if-not-ends_with.false c.ends_with.ensures.value c.as_slice.ensures.value c.as_slice-else-is_full.ensures in
    let ends : EndsLine got fields = record { before = c.requires.before; pending = c.requires.pending; room = c.parse-end.array_long; line = line } in
    let kept = taken_away got c.push.new.self.items c.pop.new.self.items c.pop.ensures.rest c.push.ensures.items in
    subst (IsAt c.line_or_elsewhere.result) (sym kept) (c.line_or_elsewhere.ensures got fields ends parsed)
