-- What a Bill issues.
use Rattle.std.proofs.Common.{◌≡◌, ℕ, ◌+◌, List, length, refl, ap, true}
use Rattle.card_events.specs.SharedRows.{SharedRows}
use Rattle.card_events.specs.declared.post.Post.{Post}
use Rattle.card_events.specs.declared.post.Post.TheVariants as post
use Rattle.card_model.specs.Cycles.{Cycle}
use Rattle.card_model.specs.Folds.{cycle_at, row_of_cycle}
use Rattle.card_model.specs.Machine.{issues}
use Rattle.card_model.specs.Refusals.{Lists, book_today}
use Rattle.card_replay.specs.Changes.{issued_from, sheet_on}
use Rattle.card_replay.specs.Needs.{needs_today}
use Rattle.card_replay.specs.Replays.{given_of, present_of}

pub issues-are : (today : ℕ) (shared : SharedRows) (lists : Lists) (cycles : List Cycle) (p : Post) → (needs_today p ≡ true → cycles ≡ (book_today (present_of today shared lists)).cycles)
    → issued_from (given_of lists shared) cycles (length lists.posts + 1) today p ≡ issues (present_of today shared lists) p
issues-are today shared lists cycles (post.Bill cycle) e = ap (λ cs. row_of_cycle cycle (length lists.posts + 1) today (sheet_on (given_of lists shared) today) (cycle_at cycle cs)) (e refl)
issues-are today shared lists cycles (post.Open d t) e = refl
issues-are today shared lists cycles (post.OpenVariable d t) e = refl
issues-are today shared lists cycles (post.Charge d q c) e = refl
issues-are today shared lists cycles (post.Credit d q c) e = refl
issues-are today shared lists cycles (post.Payment d m y c) e = refl
issues-are today shared lists cycles (post.Return d t) e = refl
issues-are today shared lists cycles (post.Plan d k r w f) e = refl
issues-are today shared lists cycles (post.Notice d y r w) e = refl
issues-are today shared lists cycles (post.Lower d y r) e = refl
issues-are today shared lists cycles post.Penalty e = refl
issues-are today shared lists cycles (post.Review d f) e = refl
issues-are today shared lists cycles (post.Dispute d t c) e = refl
issues-are today shared lists cycles (post.Ack d t) e = refl
issues-are today shared lists cycles (post.Resolve d t c) e = refl
issues-are today shared lists cycles (post.AskRefund d) e = refl
issues-are today shared lists cycles (post.Refund c) e = refl
issues-are today shared lists cycles (post.Amend t d c) e = refl
