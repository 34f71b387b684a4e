use Rattle.std.proofs.Common.{◌≡◌, ◌≤◌, List, length, refl, sym, ap, ◌∙◌, subst, Some}
use Rattle.std.specs.Prelude.{slice_get}
use Rattle.std.proofs.lemmas.Option.{get_or_from_slice_get, slice_get_read, slice_get_within}
use Rattle.card_events.specs.History.{CorrectedPost, anchor_of, corrected}
use Rattle.card_events.specs.declared.kept.Slot.{Slot}
use Rattle.card_posts.specs.Posted.{folding_order}
use Rattle.card_rates.specs.Next.{IsNext}
use Rattle.card_rates.specs.Days.{place_of}
use Rattle.card_dayend.specs.Spans.{has_post}
use Rattle.card_dayend.proofs.BreakDays.{post-next, post-none}
use Rattle.card_dayend.proofs.break_day.next_post.Goals as goal

pub returns-in-Some : goal.returns-in-Some
returns-in-Some c = λ holidays stands.
    let history = c.args.posts.now.history in
    let a = anchor_of history in
    let posts = corrected a holidays history in
    let first = c.args.first in
    let s = c.in-Some.slot.now in
    let order : c.in_order.result.now ≡ folding_order posts = c.in_order.ensures.order ∙ ap folding_order stands in
    let place : c.place_near-place.result ≡ place_of first posts = c.place_near-place.ensures holidays stands ∙ ap (place_of first) stands in
    let read = slice_get_read c.in_order.result.now _ c.place_near-place.result s refl c.in-Some.ensures.lookup.3.0 c.in-Some.ensures.lookup.1 in
    let found : slice_get (folding_order posts) (place_of first posts) ≡ Some s = ap (λ xs. slice_get xs (place_of first posts)) (sym order) ∙ (ap (slice_get c.in_order.result.now) (sym place) ∙ read) in
    subst (λ (ps : List CorrectedPost). IsNext (has_post ps) first c.args.end c.next_at.result) (sym stands)
    (post-next a holidays history first c.args.end c.next_at.result s (slice_get_within (folding_order posts) (place_of first posts) s found) (get_or_from_slice_get (folding_order posts) (place_of first posts) s s found) c.next_at.ensures)

pub returns-in-None : goal.returns-in-None
returns-in-None c = λ holidays stands.
    let history = c.args.posts.now.history in
    let a = anchor_of history in
    let posts = corrected a holidays history in
    let first = c.args.first in
    let order : c.in_order.result.now ≡ folding_order posts = c.in_order.ensures.order ∙ ap folding_order stands in
    let place : c.place_near-place.result ≡ place_of first posts = c.place_near-place.ensures holidays stands ∙ ap (place_of first) stands in
    let past = subst (λ (xs : List Slot). length xs ≤ place_of first posts) order (subst (λ n. length c.in_order.result.now ≤ n) place c.in-None.ensures.lookup.3) in
    subst (λ (ps : List CorrectedPost). IsNext (has_post ps) first c.args.end c.args.end) (sym stands) (post-none a holidays history first c.args.end c.requires past)
