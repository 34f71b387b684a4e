-- Balances are small at every point of the fold.
use Rattle.std.proofs.Common.{◌≡◌, ℕ, suc, ◌+◌, ◌≤◌, List, [], ◌∷◌, ◌++◌, refl, ap, ◌∙◌, arith, Option}
use Rattle.card_bounds.specs.Bounds.{InterestKeepsRoom, PostsHaveRoom, RoomIsSmall, SmallAtEachStep, most_moved, moved}
use Rattle.card_events.specs.History.{CorrectedPost, anchor_of}
use Rattle.card_model.specs.Allocation.{parts}
use Rattle.card_model.specs.Books.{Account, Book, account_of, present_cycle}
use Rattle.card_model.specs.Caps.{row_for}
use Rattle.card_model.specs.Cycles.{IssuedRow, Seen, last_cycle, posts_on, seen_on}
use Rattle.card_model.specs.DueDates.{on_due}
use Rattle.card_model.specs.Effects.{after_posts, effect}
use Rattle.card_model.specs.Entries.{balance}
use Rattle.card_model.specs.Folds.{book_after}
use Rattle.card_model.specs.Interest.{row}
use Rattle.card_bounds.proofs.Bounded.{book-bounded, posts-bounded, due-bounded, moved-append, interest-bounded}
use Rattle.card_bounds.proofs.Totals.{interest-step}
use Rattle.card_bounds.proofs.Whole.{moved_of-small, small-high, small-low}
use Rattle.card_bounds.proofs.Dated.{posts-added, posted-moved, next}

posts-append : (issued : Option IssuedRow) (a : Account) (seen : Seen) (xs ys : List CorrectedPost) (b : Book) → after_posts issued a seen (xs ++ ys) b ≡ after_posts issued a seen ys (after_posts issued a seen xs b)
unfolding after_posts
posts-append issued a seen [] ys b = refl
posts-append issued a seen (x ∷ xs) ys b = posts-append issued a seen xs ys (effect issued a seen x x.post b)

some-moved : (issued : Option IssuedRow) (a : Account) (seen : Seen) (xs ys : List CorrectedPost) (b : Book) → moved (after_posts issued a seen xs b).entries ≤ moved (after_posts issued a seen (xs ++ ys) b).entries
some-moved issued a seen xs ys b =
    let d = posts-added issued a seen ys (after_posts issued a seen xs b) in
    let e = ap (λ (b : Book). moved b.entries) (posts-append issued a seen xs ys b) ∙ (ap moved d.is ∙ moved-append (after_posts issued a seen xs b).entries d.rest) in
    omega arith

posts_have_room : PostsHaveRoom
posts_have_room posts history issued shared day n l below done rest parts =
    let a = account_of history in
    let s = seen_on (anchor_of history) shared history issued in
    let seen = s ((anchor_of history).opened + n) in
    let b = book_after issued a s n in
    let row = row_for (present_cycle b) issued in
    let due = on_due row a seen b (last_cycle b.cycles) in
    let whole = moved_of-small posts history issued shared (suc n) day l (omega (arith, l.days)) in
    let ended = next issued a s n (most_moved posts) whole in
    let posted = posted-moved row a seen b in
    let some = some-moved row a seen done rest due in
    let all = ap (λ ss. moved (after_posts row a seen ss due).entries) parts in
    record {
      bounded = posts-bounded row a seen done due (due-bounded row a seen b (last_cycle b.cycles) (book-bounded issued a s n));
      moved = chain (moved (after_posts row a seen done due).entries) (moved (after_posts row a seen (done ++ rest) due).entries) (moved (after_posts row a seen (posts_on seen) due).entries) _ (most_moved posts) some all posted ended;
    }
  where
    chain : (x y z w m : ℕ) → x ≤ y → z ≡ y → z ≤ w → w ≤ m → x + 0 ≤ m
    chain x y z w m a b c d = omega arith

interest_keeps_room : InterestKeepsRoom
interest_keeps_room row seen amount gs p posts left h =
    let k = interest-step row seen amount gs p in
    record { bounded = interest-bounded row seen amount gs p h.bounded; moved = let e = k.moves in omega (arith, h.moved) }

room_is_small : RoomIsSmall
room_is_small posts left es k h s =
    let bounds = h.bounded s in
    let few : moved es ≤ most_moved posts = omega (arith, h.moved) in
    (small-low (balance s es) (moved es) posts bounds.low few k, small-high (balance s es) (moved es) posts bounds.high few k)

pub small_at_each_step : SmallAtEachStep
small_at_each_step = record { posts = posts_have_room; interest = interest_keeps_room; small = room_is_small }
