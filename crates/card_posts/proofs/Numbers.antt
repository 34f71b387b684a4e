-- Numbers of posts.
use Rattle.std.proofs.Common.{◌≡◌, ℕ, suc, ◌+◌, ◌<◌, ◌≤◌, List, [], ◌∷◌, ◌++◌, length, length-append, arith}
use Rattle.card_events.specs.Limits.{post_limit}
use Rattle.card_events.specs.declared.kept.Kept.{Kept}
use Rattle.card_posts.specs.Posted.{AreNumbered}

pub numbered-more : (n : ℕ) (ks : List Kept) (k : Kept) → AreNumbered n ks → k.number ≡ n + length ks → AreNumbered n (ks ++ k ∷ [])
unfolding AreNumbered
numbered-more n [] k h e = (omega (arith, e), tt)
numbered-more n (q ∷ ks) k h e = (h.0, numbered-more (suc n) ks k h.1 (omega (arith, e)))

-- one more post, at the end of the first ones
pub one-more : (new old : List Kept) (k : Kept) → new ≡ old ++ k ∷ [] → length old < post_limit → AreNumbered 1 old → k.number ≡ length old + 1 → (length new ≤ post_limit) × AreNumbered 1 new
one-more new old k is few h e =
    let long : length (old ++ k ∷ []) ≡ length old + 1 = length-append old (k ∷ []) in
    rw is (omega (arith, long, few), numbered-more 1 old k h (omega (arith, e)))
