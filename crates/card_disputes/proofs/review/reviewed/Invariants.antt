use Rattle.std.proofs.Common.{◌≡◌, max, take}
use Rattle.std.specs.List.{filter_map, fold}
use Rattle.card_model.specs.Deadlines.{review_of}
use Rattle.card_disputes.proofs.review.reviewed.Given as goal

abbrev pub invariant-loop-i : goal.invariant-loop-i
invariant-loop-i l = l.last ≡ fold max l.fn.day (filter_map (λ k. review_of k.post) (take l.i l.posts.history))
