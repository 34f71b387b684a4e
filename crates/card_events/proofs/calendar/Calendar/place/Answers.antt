use Rattle.std.proofs.Common.{ℕ, List, subst, MatchResult}
use Rattle.std.specs.List.Sorted.{IsBinarySearchResult}
use Rattle.std.specs.Ordering.{nat_cmp}
use Rattle.card_events.specs.Kept.{IsPlaceOf, IsGapFor}
use Rattle.card_events.proofs.Holidays.{placed}
use Rattle.card_events.proofs.calendar.Calendar.place.Goals as goal

pub returns-clause-place : goal.returns-clause-place
returns-clause-place c =
    let position : IsBinarySearchResult (λ y. nat_cmp y c.args.day) c.deref.result.now c.binary_search.result = c.binary_search.ensures.position in
    let search = subst (λ (xs : List ℕ). IsBinarySearchResult (λ y. nat_cmp y c.args.day) xs c.binary_search.result) c.deref.ensures.value position in
    let at = placed c.binary_search.result c.self.inside.holidays.items c.args.day c.self.invariant search in
    subst (λ (xs : List ℕ). MatchResult c.binary_search.result (IsPlaceOf xs c.args.day) (IsGapFor xs c.args.day)) c.self.view_is at
