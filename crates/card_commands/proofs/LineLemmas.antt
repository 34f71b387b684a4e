-- Lines, cut from left to right.
use Rattle.std.proofs.Common.{◌≡◌, ℕ, ◌+◌, ◌<◌, ◌≤◌, Bool, true, false, ◌||◌, eqb, ltb, cond, ◌⊎◌, List, [], ◌∷◌, ◌++◌, length, map, take, refl, ap, sym, ◌∙◌, arith, append_assoc, append-nil, length-append, inl, inr}
use Rattle.std.proofs.lemmas.Bool.{ltb-true, ltb-false, lt-ltb}
use Rattle.std.proofs.lemmas.List.{take_all, take-append-le, length-take}
use Rattle.card_desk.proofs.MapLemmas.{by_test}
use Rattle.card_lines.specs.Lines.{line_of}
use Rattle.card_commands.specs.Input.{first_part, other_parts, ended, unended, ended_line, last_line}
use Rattle.card_commands.specs.Feed.{Progress, feed, next_item, longer_line, line_done, feed_text, line_text, feed_rows, line_kept, feed_all, text_all, rows_all}
use Rattle.card_lines.specs.declared.line.Line.{Line}
use Rattle.card_commands.specs.Answers.{answer_text, item_rows}
use Rattle.card_commands.specs.Items.{numbered}
use Rattle.card_commands.specs.Run.{after, text_of, rows_kept, any_refused}
use Rattle.card_text.specs.declared.item.Item.{Item}

-- the parts that line feeds end, where u came before; and what none ends
abbrev pub cut : List ℕ → List ℕ → List (List ℕ)
cut u [] = []
cut u (b ∷ bs) = cond (eqb b 10) (u ∷ cut [] bs) (cut (u ++ b ∷ []) bs)

abbrev pub left_over : List ℕ → List ℕ → List ℕ
left_over u [] = u
left_over u (b ∷ bs) = cond (eqb b 10) (left_over [] bs) (left_over (u ++ b ∷ []) bs)

pub cut_is : (u bs : List ℕ) → ended (u ++ first_part bs) (other_parts bs) ≡ cut u bs
cut_is u [] = refl
cut_is u (b ∷ bs) = elim (by_test (eqb b 10)) [
  | inl t ↦ rw t (λ i. append-nil u i ∷ cut_is [] bs i)
  | inr f ↦ rw f (ap (λ l. ended l (other_parts bs)) (sym (append_assoc u (b ∷ []) (first_part bs))) ∙ cut_is (u ++ b ∷ []) bs)
]

pub left_over_is : (u bs : List ℕ) → unended (u ++ first_part bs) (other_parts bs) ≡ left_over u bs
left_over_is u [] = append-nil u
left_over_is u (b ∷ bs) = elim (by_test (eqb b 10)) [
  | inl t ↦ rw t (left_over_is [] bs)
  | inr f ↦ rw f (ap (λ l. unended l (other_parts bs)) (sym (append_assoc u (b ∷ []) (first_part bs))) ∙ left_over_is (u ++ b ∷ []) bs)
]

pub cut-append : (u xs ys : List ℕ) → cut u (xs ++ ys) ≡ cut u xs ++ cut (left_over u xs) ys
cut-append u [] ys = refl
cut-append u (b ∷ xs) ys = elim (by_test (eqb b 10)) [
  | inl t ↦ rw t (ap (λ l. u ∷ l) (cut-append [] xs ys))
  | inr f ↦ rw f (cut-append (u ++ b ∷ []) xs ys)
]

pub left_over-append : (u xs ys : List ℕ) → left_over u (xs ++ ys) ≡ left_over (left_over u xs) ys
left_over-append u [] ys = refl
left_over-append u (b ∷ xs) ys = elim (by_test (eqb b 10)) [
  | inl t ↦ rw t (left_over-append [] xs ys)
  | inr f ↦ rw f (left_over-append (u ++ b ∷ []) xs ys)
]

-- ---- what is kept of a line says what the whole line says

pub kept_longer : (u : List ℕ) (b : ℕ) → longer_line (take 513 u) b ≡ take 513 (u ++ b ∷ [])
kept_longer u b = elim (by_test (ltb 512 (length (take 513 u)))) [
  | inl t ↦
      let long : 513 ≤ length u = omega (arith, ltb-true 512 (length (take 513 u)) t, length-take {A = ℕ}) in
      rw t (sym (take-append-le 513 u (b ∷ []) long))
  | inr f ↦
      let short : length u ≤ 512 = omega (arith, ltb-false 512 (length (take 513 u)) f, length-take {A = ℕ}) in
      let whole : take 513 u ≡ u = take_all 513 u (omega arith) in
      rw f (ap (λ l. l ++ b ∷ []) whole ∙ sym (take_all 513 (u ++ b ∷ []) (omega (arith, length-append u (b ∷ [])))))
]

pub kept_ended : (u : List ℕ) → ended_line (take 513 u) ≡ ended_line u
unfolding ended_line
kept_ended u = elim (by_test (ltb 512 (length u))) [
  | inl t ↦
      let long : 512 < length (take 513 u) = omega (arith, ltb-true 512 (length u) t, length-take {A = ℕ}) in
      let too : ltb 512 (length (take 513 u)) ≡ true = lt-ltb 512 (length (take 513 u)) long in
      rw (t, too) refl
  | inr f ↦
      let short : length u ≤ 512 = ltb-false 512 (length u) f in
      ap ended_line (take_all 513 u (omega arith))
]

kept_line : (u : List ℕ) → line_of (take 513 u) ≡ line_of u
unfolding line_of
kept_line u = elim (by_test (ltb 512 (length u))) [
  | inl t ↦
      let long : 512 < length (take 513 u) = omega (arith, ltb-true 512 (length u) t, length-take {A = ℕ}) in
      let too : ltb 512 (length (take 513 u)) ≡ true = lt-ltb 512 (length (take 513 u)) long in
      rw (t, too) refl
  | inr f ↦
      let short : length u ≤ 512 = ltb-false 512 (length u) f in
      ap line_of (take_all 513 u (omega arith))
]

pub kept_last : (u : List ℕ) → last_line (take 513 u) ≡ last_line u
kept_last [] = refl
kept_last (b ∷ u) = ap (λ l. l ∷ []) (kept_line (b ∷ u))

-- ---- bytes that are fed are lines that are handled

-- the items of the lines that end in these bytes, where u came before
abbrev pub items_in : Progress → List ℕ → List ℕ → List Item
items_in p u bs = numbered (p.number + 1) (map ended_line (cut u bs))

pub record IsFed (p : Progress) (u bs : List ℕ) : Type 0 where
  pub ledger : (feed_all p bs).ledger ≡ after p.ledger (items_in p u bs)
  pub number : (feed_all p bs).number ≡ p.number + length (cut u bs)
  pub refused : (feed_all p bs).refused ≡ (p.refused || any_refused p.ledger (items_in p u bs))
  pub line : (feed_all p bs).line ≡ take 513 (left_over u bs)
  pub text : text_all p bs ≡ text_of p.ledger (items_in p u bs)
  pub kept : rows_all p bs ≡ rows_kept p.ledger (items_in p u bs)

or_false : (b : Bool) → (b || false) ≡ b
or_false true = refl
or_false false = refl

or_assoc : (a b c : Bool) → ((a || b) || c) ≡ (a || (b || c))
or_assoc true b c = refl
or_assoc false b c = refl

fed_none : (p : Progress) (u : List ℕ) → p.line ≡ take 513 u → IsFed p u []
unfolding feed_all text_all rows_all
fed_none p u is = record { ledger = refl; number = omega arith; refused = sym (or_false p.refused); line = is; text = refl; kept = refl }

-- the items of a line and of those behind it
abbrev pub items_from : Progress → Line → List ℕ → List Item
items_from p l bs = next_item p l ∷ numbered (p.number + 1 + 1) (map ended_line (cut [] bs))

-- after a line
fed_line : (p : Progress) (u bs : List ℕ) → p.line ≡ take 513 u → IsFed (line_done p) [] bs
    → ((feed_all (line_done p) bs).ledger ≡ after p.ledger (items_from p (ended_line u) bs))
    × ((feed_all (line_done p) bs).number ≡ p.number + length (u ∷ cut [] bs))
    × ((feed_all (line_done p) bs).refused ≡ (p.refused || any_refused p.ledger (items_from p (ended_line u) bs)))
    × ((line_text p ++ text_all (line_done p) bs) ≡ text_of p.ledger (items_from p (ended_line u) bs))
    × ((line_kept p ++ rows_all (line_done p) bs) ≡ rows_kept p.ledger (items_from p (ended_line u) bs))
unfolding line_done line_text line_kept
fed_line p u bs is rest =
    let same : ended_line p.line ≡ ended_line u = ap ended_line is ∙ kept_ended u in
    let here = next_item p (ended_line p.line) in (
      rest.ledger ∙ ap (λ l. after p.ledger (items_from p l bs)) same,
      omega (arith, rest.number),
      rest.refused ∙ or_assoc p.refused _ _ ∙ ap (λ l. p.refused || any_refused p.ledger (items_from p l bs)) same,
      ap (λ t. answer_text p.ledger here ++ t) rest.text ∙ ap (λ l. text_of p.ledger (items_from p l bs)) same,
      ap (λ t. item_rows p.ledger here ++ t) rest.kept ∙ ap (λ l. rows_kept p.ledger (items_from p l bs)) same,
    )

done_line : (p : Progress) → (line_done p).line ≡ take 513 []
unfolding line_done
done_line p = refl

cut_lf : (u : List ℕ) (b : ℕ) (bs : List ℕ) → eqb b 10 ≡ true → cut u (b ∷ bs) ≡ u ∷ cut [] bs
cut_lf u b bs t = rw t refl

cut_other : (u : List ℕ) (b : ℕ) (bs : List ℕ) → eqb b 10 ≡ false → cut u (b ∷ bs) ≡ cut (u ++ b ∷ []) bs
cut_other u b bs f = rw f refl

left_lf : (u : List ℕ) (b : ℕ) (bs : List ℕ) → eqb b 10 ≡ true → left_over u (b ∷ bs) ≡ left_over [] bs
left_lf u b bs t = rw t refl

left_other : (u : List ℕ) (b : ℕ) (bs : List ℕ) → eqb b 10 ≡ false → left_over u (b ∷ bs) ≡ left_over (u ++ b ∷ []) bs
left_other u b bs f = rw f refl

pub feed_lf : (p : Progress) (b : ℕ) → eqb b 10 ≡ true → feed p b ≡ line_done p
unfolding feed
feed_lf p b t = rw t refl

pub feed_other : (p : Progress) (b : ℕ) → eqb b 10 ≡ false → feed p b ≡ record p { line = longer_line p.line b }
unfolding feed
feed_other p b f = rw f refl

pub text_lf : (p : Progress) (b : ℕ) → eqb b 10 ≡ true → feed_text p b ≡ line_text p
unfolding feed_text
text_lf p b t = rw t refl

pub text_other : (p : Progress) (b : ℕ) → eqb b 10 ≡ false → feed_text p b ≡ []
unfolding feed_text
text_other p b f = rw f refl

pub rows_lf : (p : Progress) (b : ℕ) → eqb b 10 ≡ true → feed_rows p b ≡ line_kept p
unfolding feed_rows
rows_lf p b t = rw t refl

pub rows_other : (p : Progress) (b : ℕ) → eqb b 10 ≡ false → feed_rows p b ≡ []
unfolding feed_rows
rows_other p b f = rw f refl

feed_cons : (p : Progress) (b : ℕ) (bs : List ℕ) → feed_all p (b ∷ bs) ≡ feed_all (feed p b) bs
unfolding feed_all
feed_cons p b bs = refl

text_cons : (p : Progress) (b : ℕ) (bs : List ℕ) → text_all p (b ∷ bs) ≡ feed_text p b ++ text_all (feed p b) bs
unfolding text_all
text_cons p b bs = refl

rows_cons : (p : Progress) (b : ℕ) (bs : List ℕ) → rows_all p (b ∷ bs) ≡ feed_rows p b ++ rows_all (feed p b) bs
unfolding rows_all
rows_cons p b bs = refl

pub fed : (p : Progress) (u bs : List ℕ) → p.line ≡ take 513 u → IsFed p u bs
fed p u [] is = fed_none p u is
fed p u (b ∷ bs) is = elim (by_test (eqb b 10)) [
  | inl t ↦
      let rest = fed (line_done p) [] bs (done_line p) in
      let parts = fed_line p u bs is rest in
      let here = feed_cons p b bs ∙ ap (λ (q : Progress). feed_all q bs) (feed_lf p b t) in
      let lines = ap (map ended_line) (sym (cut_lf u b bs t)) in
      record {
        ledger = ap (λ (q : Progress). q.ledger) here ∙ parts.0 ∙ ap (λ l. after p.ledger (numbered (p.number + 1) l)) lines;
        number = ap (λ (q : Progress). q.number) here ∙ parts.1 ∙ ap (λ l. p.number + length l) (sym (cut_lf u b bs t));
        refused = ap (λ (q : Progress). q.refused) here ∙ parts.2 ∙ ap (λ l. p.refused || any_refused p.ledger (numbered (p.number + 1) l)) lines;
        line = ap (λ (q : Progress). q.line) here ∙ rest.line ∙ ap (take 513) (sym (left_lf u b bs t));
        text = text_cons p b bs ∙ ap (λ x. x ++ text_all (feed p b) bs) (text_lf p b t) ∙ ap (λ (q : Progress). line_text p ++ text_all q bs) (feed_lf p b t) ∙ parts.3 ∙ ap (λ l. text_of p.ledger (numbered (p.number + 1) l)) lines;
        kept = rows_cons p b bs ∙ ap (λ x. x ++ rows_all (feed p b) bs) (rows_lf p b t) ∙ ap (λ (q : Progress). line_kept p ++ rows_all q bs) (feed_lf p b t) ∙ parts.4 ∙ ap (λ l. rows_kept p.ledger (numbered (p.number + 1) l)) lines;
      }
  | inr f ↦
      let q : Progress = record p { line = longer_line p.line b } in
      let longer : longer_line p.line b ≡ take 513 (u ++ b ∷ []) = ap (λ l. longer_line l b) is ∙ kept_longer u b in
      let rest = fed q (u ++ b ∷ []) bs longer in
      let here = feed_cons p b bs ∙ ap (λ (r : Progress). feed_all r bs) (feed_other p b f) in
      let lines = ap (map ended_line) (sym (cut_other u b bs f)) in
      record {
        ledger = ap (λ (r : Progress). r.ledger) here ∙ rest.ledger ∙ ap (λ l. after p.ledger (numbered (p.number + 1) l)) lines;
        number = ap (λ (r : Progress). r.number) here ∙ rest.number ∙ ap (λ l. p.number + length l) (sym (cut_other u b bs f));
        refused = ap (λ (r : Progress). r.refused) here ∙ rest.refused ∙ ap (λ l. p.refused || any_refused p.ledger (numbered (p.number + 1) l)) lines;
        line = ap (λ (r : Progress). r.line) here ∙ rest.line ∙ ap (take 513) (sym (left_other u b bs f));
        text = text_cons p b bs ∙ ap (λ x. x ++ text_all (feed p b) bs) (text_other p b f) ∙ ap (λ (r : Progress). text_all r bs) (feed_other p b f) ∙ rest.text ∙ ap (λ l. text_of p.ledger (numbered (p.number + 1) l)) lines;
        kept = rows_cons p b bs ∙ ap (λ x. x ++ rows_all (feed p b) bs) (rows_other p b f) ∙ ap (λ (r : Progress). rows_all r bs) (feed_other p b f) ∙ rest.kept ∙ ap (λ l. rows_kept p.ledger (numbered (p.number + 1) l)) lines;
      }
]
