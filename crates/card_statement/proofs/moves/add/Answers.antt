use Rattle.std.proofs.Common.{◌≡◌, ◌∙◌, ◌++◌, [], ◌∷◌, ◌<◌, ◌≤◌, ap, length, refl, rules, set, subst, sym}
use Rattle.std.proofs.Common.{List, get_or}
use Rattle.std.proofs.lemmas.List.{get_or_default}
use Rattle.card_statement.specs.Gathering.{raised_by}
use Rattle.card_model.specs.Sheets.{is_of_move}
use Rattle.card_model.specs.declared.lines.Move.{Move}
use Rattle.card_statement.proofs.Steps.{ended, found, passed}
use Rattle.card_statement.proofs.LatestDay.{skipped}
use Rattle.card_statement.proofs.moves.add.Goals as goal

pub returns-then-is_of_move : goal.returns-then-is_of_move
returns-then-is_of_move c =
    let e = c.args.entry.now in
    let old = c.args.moves.now.items in
    let i = c.loop-i.i in
    let m = c.index.result.now in
    let here : m ≡ get_or old i m = subst (λ (l : List Move). m ≡ get_or l i m) c.loop-i.invariant.same c.index.ensures in
    let q = ap (is_of_move e) (sym here) ∙ (sym c.is_of_move.ensures ∙ c.if-is_of_move.true) in
    let below : i < length old = search rules in
    let n = c.index_mut.result.now in
    let there : n ≡ get_or old i n = subst (λ (l : List Move). n ≡ get_or l i n) c.loop-i.invariant.same c.index_mut.ensures.value in
    let new : c.raise.new.line ≡ raised_by e (get_or old i m) = c.raise.ensures ∙ ap (raised_by e) (there ∙ get_or_default old i n m below) in
    ap (λ (l : List Move). set l i c.raise.new.line) c.loop-i.invariant.same ∙ (ap (set old i) new ∙ found e old i m below q c.loop-i.invariant.left)

pub loop-i-preserved : goal.loop-i-preserved
loop-i-preserved c =
    let e = c.args.entry.now in
    let old = c.args.moves.now.items in
    let i = c.loop-i.i in
    let m = c.index.result.now in
    let here : m ≡ get_or old i m = subst (λ (l : List Move). m ≡ get_or l i m) c.loop-i.invariant.same c.index.ensures in
    let q = ap (is_of_move e) (sym here) ∙ (sym c.is_of_move.ensures ∙ c.if-is_of_move.false) in
    let below : i < length old = search rules in
    record { same = c.loop-i.invariant.same; left = passed e old i m below q c.loop-i.invariant.left }

pub returns : goal.returns
returns c =
    let e = c.args.entry.now in
    let old = c.args.moves.now.items in
    let past : length old ≤ c.loop-i.i = search rules in
    c.in_ok-push.ensures.items
    ∙ (ap (λ (l : List Move). l ++ c.begun.result ∷ []) c.loop-i.invariant.same
    ∙ (ap (λ (x : Move). old ++ x ∷ []) c.begun.ensures ∙ ended e old c.loop-i.i past c.loop-i.invariant.left))

pub loop-i-init : goal.loop-i-init
loop-i-init c = record { same = refl; left = skipped c.args.entry.now c.args.moves.now.items c.args.from c.requires.others }
