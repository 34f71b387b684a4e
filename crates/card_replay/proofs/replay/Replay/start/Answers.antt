use Rattle.std.proofs.Common.{◌≡◌, ◌+◌, ◌≤◌, false, List, [], ◌∷◌, refl, sym, ap, subst, ◌∙◌, arith, None}
use Rattle.card_events.specs.History.{anchor_of, corrected}
use Rattle.card_events.specs.declared.kept.Kept.{Kept}
use Rattle.card_model.specs.Machine.{kept_as}
use Rattle.card_model.specs.Refusals.{Lists}
use Rattle.card_daily.specs.Given.{Given, opened_in}
use Rattle.card_replay.proofs.Committing.{lists_by}
use Rattle.card_replay.proofs.Reached.{begun, begun-before, folding_of, started, started-reach}
use Rattle.card_replay.specs.Owes.{Late}
use Rattle.card_replay.specs.Replays.{Folding, IsFolding, IsReplay, MayReach, day_of, day_reached, given_of, opened_lists}
use Rattle.card_replay.proofs.replay.Replay.start.Goals as goal

pub returns-clause-lists : goal.returns-clause-lists
returns-clause-lists c =
    ap (λ hs. lists_by hs c.none.result.rows) c.in_ok-start.ensures.history ∙ ap (lists_by (kept_as 1 c.args.key.now c.args.today c.args.post.now ∷ [])) c.none.ensures

-- the day before the opening
pub returns-clause-reached : goal.returns-clause-reached
returns-clause-reached c =
    let first = c.requires.sound.opening.first in
    let g : Given = given_of (opened_lists c.args.key.now c.args.today c.args.post.now) c.args._shared.now in
    ap (λ (hs : List Kept). day_reached (anchor_of hs).opened (day_of c.none-2.result) + 1) c.in_ok-start.ensures.history
    ∙ begun-before (opened_in g) c.none-2.result (omega (arith, first)) c.none-2.ensures

pub returns-clause-replay : goal.returns-clause-replay
returns-clause-replay c =
    let shared = c.args._shared.now in
    let key = c.args.key.now in
    let today = c.args.today in
    let p = c.args.post.now in
    let b = c.none-2.result in
    let past = c.nothing.result in
    let g : Given = given_of (opened_lists key today p) shared in
    let posts = c.in_ok-start.ensures.history in
    let first = c.requires.sound.opening.first in
    let some : 1 ≤ opened_in g = omega (arith, first) in
    let f : Folding = folding_of c.in_ok-start.field-0.history b past None in
    let folding : IsFolding g f = subst (λ (hs : List Kept). IsFolding g (folding_of hs b past None)) (sym posts) (begun g (opened_in g) b past refl some c.none-2.ensures c.nothing.ensures) in
    let reached : f.reached + 1 ≡ opened_in g = ap (λ (hs : List Kept). day_reached (anchor_of hs).opened (day_of b) + 1) posts ∙ begun-before (opened_in g) b some c.none-2.ensures in
    let late : Late = record { made = c.new.result.items; owed = c.new-2.result.items } in
    let lists = ap (λ hs. lists_by hs c.none.result.rows) posts ∙ ap (lists_by (kept_as 1 key today p ∷ [])) c.none.ensures in
    let stands = c.in_ok-start.ensures.stands shared.holidays ∙ ap (λ (hs : List Kept). corrected (anchor_of hs) shared.holidays hs) posts in
    subst (λ (l : Lists). IsReplay shared (record { lists = l; corrected = c.in_ok-start.field-0.corrected; has_room = false; late = late; folding = f })) (sym lists)
    (started shared key today p c.in_ok-start.field-0.corrected false late f c.new.ensures.items c.new-2.ensures.items c.requires.opens c.requires.opened c.requires.dated c.requires.sound stands reached folding)

pub returns-clause-reach : goal.returns-clause-reach
returns-clause-reach c =
    let key = c.args.key.now in
    let today = c.args.today in
    let p = c.args.post.now in
    let b = c.none-2.result in
    let g : Given = given_of (opened_lists key today p) c.args._shared.now in
    let posts = c.in_ok-start.ensures.history in
    let first = c.requires.sound.opening.first in
    let some : 1 ≤ opened_in g = omega (arith, first) in
    let f : Folding = folding_of c.in_ok-start.field-0.history b c.nothing.result None in
    let reached : f.reached + 1 ≡ opened_in g = ap (λ (hs : List Kept). day_reached (anchor_of hs).opened (day_of b) + 1) posts ∙ begun-before (opened_in g) b some c.none-2.ensures in
    let late : Late = record { made = c.new.result.items; owed = c.new-2.result.items } in
    let lists = ap (λ hs. lists_by hs c.none.result.rows) posts ∙ ap (lists_by (kept_as 1 key today p ∷ [])) c.none.ensures in
    subst (λ (l : Lists). MayReach today (record { lists = l; corrected = c.in_ok-start.field-0.corrected; has_room = false; late = late; folding = f })) (sym lists)
    (started-reach key today p c.in_ok-start.field-0.corrected false late f c.requires.opened c.requires.dated reached)
