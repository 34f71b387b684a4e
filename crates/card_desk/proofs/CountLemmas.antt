-- How many posts accounts have.
use Rattle.std.proofs.Common.{◌≡◌, ℕ, zero, suc, ◌+◌, ◌*◌, ◌<◌, ◌≤◌, Bool, true, List, [], ◌∷◌, ◌++◌, length, get_or, set, refl, arith}
use Rattle.std.specs.Prelude.{nat_le, ◌&&◌}
use Rattle.std.proofs.lemmas.Bool.{and_parts, leb-true, le-leb}
use Rattle.card_events.specs.Limits.{post_limit}
use Rattle.card_model.specs.Machine.{NamedAccount}
use Rattle.card_desk.specs.Applied.{are_short}
use Rattle.card_desk.specs.Kept.{posts_in}

pub short_sum : (accounts : List NamedAccount) → are_short accounts ≡ true → posts_in accounts ≤ post_limit * length accounts
unfolding posts_in
short_sum [] short = omega arith
short_sum (a ∷ others) short =
    let parts = and_parts _ _ short in
    let here : length a.lists.posts ≤ post_limit = leb-true _ _ parts.0 in
    let rest = short_sum others parts.1 in
    omega (arith, here, rest)

and_true : (a b : Bool) → a ≡ true → b ≡ true → (a && b) ≡ true
and_true a b p q = rw (p, q) refl

pub short_pushed : (accounts : List NamedAccount) (a : NamedAccount) → are_short accounts ≡ true → length a.lists.posts ≤ post_limit → are_short (accounts ++ a ∷ []) ≡ true
short_pushed [] a short few = and_true (nat_le (length a.lists.posts) post_limit) true (le-leb _ _ few) refl
short_pushed (b ∷ others) a short few = let parts = and_parts _ _ short in and_true _ _ parts.0 (short_pushed others a parts.1 few)

pub short_set : (accounts : List NamedAccount) (i : ℕ) (a : NamedAccount) → are_short accounts ≡ true → length a.lists.posts ≤ post_limit → are_short (set accounts i a) ≡ true
short_set [] i a short few = refl
short_set (b ∷ others) zero a short few = let parts = and_parts _ _ short in and_true _ _ (le-leb _ _ few) parts.1
short_set (b ∷ others) (suc i) a short few = let parts = and_parts _ _ short in and_true _ _ parts.0 (short_set others i a parts.1 few)

pub sum_pushed : (accounts : List NamedAccount) (a : NamedAccount) → posts_in (accounts ++ a ∷ []) ≡ posts_in accounts + length a.lists.posts
unfolding posts_in
sum_pushed [] a = omega arith
sum_pushed (b ∷ others) a = omega (arith, sum_pushed others a)

pub sum_set : (accounts : List NamedAccount) (i : ℕ) (a d : NamedAccount) → i < length accounts → length a.lists.posts ≡ length (get_or accounts i d).lists.posts + 1
    → posts_in (set accounts i a) ≡ posts_in accounts + 1
unfolding posts_in
sum_set [] i a d low more = absurd (omega arith)
sum_set (b ∷ others) zero a d low more = omega (arith, more)
sum_set (b ∷ others) (suc i) a d low more = omega (arith, sum_set others i a d (omega arith) more)
