-- One line more is written, or read.
use Rattle.std.proofs.Common.{◌≡◌, ℕ, zero, suc, ◌+◌, ◌-◌, ◌<◌, List, [], ◌∷◌, ◌++◌, length, take, drop, get_or, subst, sym, ap, ◌∙◌, arith, append_assoc}
use Rattle.std.specs.Prelude.{flat_map}
use Rattle.std.specs.List.{All}
use Rattle.card_statement.specs.Packing.{behind, lines_in}
use Rattle.std.proofs.lemmas.List.{append-nil, flat_map_more, take_more}
use Rattle.std.proofs.lemmas.List.Elements.{All-more}

pub line-written : {A : Type 0} (Held : A → Type 0) (words : A → List ℕ) (xs : List A) (i : ℕ) (x d : A) (old before after : List ℕ) → i < length xs → x ≡ get_or xs i d
    → (before ≡ old ++ flat_map words (take i xs)) × All Held (take i xs) → after ≡ before ++ words x → Held x
    → (after ≡ old ++ flat_map words (take (i + 1) xs)) × All Held (take (i + 1) xs)
line-written Held words xs i x d old before after there is h written held =
    let more = take_more xs i d there ∙ ap (λ y. take i xs ++ y ∷ []) (sym is) in (
      written ∙ ap (λ ws. ws ++ words x) h.0 ∙ flat_map_more words old (take i xs) x ∙ ap (λ ys. old ++ flat_map words ys) (sym more),
      All-more Held xs i d there h.1 (subst Held is held),
    )

-- of so many lines, k were read from words, and the others follow
abbrev pub Reads : {A : Type 0} → (List ℕ → A) → ℕ → ℕ → ℕ → List ℕ → List A → List ℕ → Type 0
Reads line size count k words got rest = (lines_in line size count words ≡ got ++ lines_in line size (count - k) rest) × (behind size count words ≡ behind size (count - k) rest)

left : (count k : ℕ) → k < count → count - k ≡ suc (count - (k + 1))
left count k l = omega (arith, l)

pub line-read : {A : Type 0} (line : List ℕ → A) (size count k : ℕ) (words : List ℕ) (got : List A) (rest : List ℕ) (x : A) (after : List A) (next : List ℕ) → k < count
    → Reads line size count k words got rest → x ≡ line rest → after ≡ got ++ x ∷ [] → next ≡ drop size rest → Reads line size count (k + 1) words after next
unfolding lines_in behind
line-read line size count k words got rest x after next l h is pushed dropped =
    let one = left count k l in
    let lines : lines_in line size (count - k) rest ≡ line rest ∷ lines_in line size (count - (k + 1)) (drop size rest) = ap (λ n. lines_in line size n rest) one in
    let words_left : behind size (count - k) rest ≡ behind size (count - (k + 1)) (drop size rest) = ap (λ n. behind size n rest) one in (
      h.0 ∙ ap (λ ys. got ++ ys) lines ∙ sym (append_assoc got (line rest ∷ []) (lines_in line size (count - (k + 1)) (drop size rest)))
          ∙ ap (λ y. (got ++ y ∷ []) ++ lines_in line size (count - (k + 1)) (drop size rest)) (sym is)
          ∙ ap (λ ys. ys ++ lines_in line size (count - (k + 1)) (drop size rest)) (sym pushed)
          ∙ ap (λ ws. after ++ lines_in line size (count - (k + 1)) ws) (sym dropped),
      h.1 ∙ words_left ∙ ap (λ ws. behind size (count - (k + 1)) ws) (sym dropped),
    )

pub lines-read : {A : Type 0} (line : List ℕ → A) (size count k : ℕ) (words : List ℕ) (got : List A) (rest : List ℕ) → k ≡ count → Reads line size count k words got rest
    → (got ≡ lines_in line size count words) × (rest ≡ behind size count words)
unfolding lines_in behind
lines-read line size count k words got rest e h =
    let none : count - k ≡ 0 = omega (arith, e) in (
      sym (h.0 ∙ ap (λ n. got ++ lines_in line size n rest) none ∙ append-nil got),
      sym (h.1 ∙ ap (λ n. behind size n rest) none),
    )

pub ruleset pieces = append_assoc
