-- The keys of a history with one more post.
use Rattle.std.proofs.Common.{◌≡◌, ℕ, suc, ◌+◌, Bool, true, false, cond, List, [], ◌∷◌, ◌++◌, length, Some, None, refl, ap, ◌∙◌, arith}
use Rattle.std.specs.Cmp.Lexicographic.{bytes_decides}
use Rattle.std.specs.Option.{option_or}
use Rattle.std.specs.Str.{bytes_eq}
use Rattle.card_events.specs.Keys.{key_from}
use Rattle.card_events.specs.declared.kept.Kept.{Kept}

pub same_bytes : (x y : List ℕ) → bytes_eq x y ≡ true → x ≡ y
same_bytes x y e = (bytes_decides x y).0 e

pub keys-more : (q : List ℕ) (n : ℕ) (h : List Kept) (k : Kept) → key_from q n (h ++ k ∷ []) ≡ option_or (key_from q n h) (cond (bytes_eq k.key q) (Some (n + length h)) None)
unfolding key_from
keys-more q n [] k = let z : n ≡ n + 0 = omega arith in ap (λ m. cond (bytes_eq k.key q) (Some m) None) z
keys-more q n (j ∷ h) k = at (bytes_eq j.key q) (keys-more q (n + 1) h k ∙ ap (λ m. option_or (key_from q (n + 1) h) (cond (bytes_eq k.key q) (Some m) None)) next)
  where
    next : (n + 1) + length h ≡ n + suc (length h)
    next = omega arith

    at : (b : Bool) → key_from q (n + 1) (h ++ k ∷ []) ≡ option_or (key_from q (n + 1) h) (cond (bytes_eq k.key q) (Some (n + suc (length h))) None)
        → cond b (Some n) (key_from q (n + 1) (h ++ k ∷ [])) ≡ option_or (cond b (Some n) (key_from q (n + 1) h)) (cond (bytes_eq k.key q) (Some (n + suc (length h))) None)
    at true r = refl
    at false r = r
