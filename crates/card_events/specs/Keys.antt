-- The keys of an account's posts.
use Rattle.std.specs.Prelude.{ℕ, ◌+◌, if◌then◌else◌, List, [], ◌∷◌, Option, Some, None}
use Rattle.std.specs.Str.{bytes_eq}
use Rattle.card_events.specs.declared.kept.Kept.{Kept}

-- the number of the first post with a key, where the first of the list has number n
unfoldable pub key_from : List ℕ → ℕ → List Kept → Option ℕ
key_from key n [] = None
key_from key n (k ∷ ks) = let later = key_from key (n + 1) ks in if bytes_eq k.key key then Some n else later

-- the number of the post with a key
abbrev pub with_key : List ℕ → List Kept → Option ℕ
with_key key posts = key_from key 1 posts
