-- From bytes to items.
use Rattle.std.proofs.Common.{◌≡◌, ℕ, zero, suc, ◌+◌, ◌-◌, ◌≤◌, Bool, true, false, ◌||◌, eqb, ◌⊎◌, List, [], ◌∷◌, ◌++◌, length, map, take, drop, get_or, refl, ap, sym, ◌∙◌, subst, arith, append_assoc, append-nil, length-append, take-append-drop, inl, inr}
use Rattle.std.proofs.lemmas.List.{map-append, length-map, take-append-le, take_more}
use Rattle.std.proofs.lemmas.Bool.{ne_eqb}
use Rattle.card_desk.proofs.MapLemmas.{by_test}
use Rattle.card_model.specs.Machine.{State}
use Rattle.card_ports.specs.Bytes.{IsFront}
use Rattle.card_lines.specs.declared.line.Line.{Line}
use Rattle.card_lines.specs.Lines.{line_of}
use Rattle.card_commands.specs.Input.{first_part, other_parts, unended, ended_line, ended_lines, last_line, ended_items, all_items}
use Rattle.card_commands.specs.Feed.{Progress, next_item, feed_all, text_all, rows_all, new_run, end_text, end_rows, end_refused, end_ledger}
use Rattle.card_commands.specs.Answers.{next, answer_text, is_refused, item_rows}
use Rattle.card_commands.specs.Items.{item_of, numbered}
use Rattle.card_text.specs.declared.item.Item.{Item}
use Rattle.card_commands.specs.Outside.{AreFirst, but_last}
use Rattle.card_commands.specs.Run.{after, text_of, rows_kept, any_refused}
use Rattle.card_commands.proofs.LineLemmas.{fed, cut, cut_is, cut-append, left_over, left_over_is, kept_last}

pub text_of-append : (s : State) (xs ys : List Item) → text_of s (xs ++ ys) ≡ text_of s xs ++ text_of (after s xs) ys
text_of-append s [] ys = refl
text_of-append s (x ∷ xs) ys = ap (λ t. answer_text s x ++ t) (text_of-append (next s x) xs ys) ∙ sym (append_assoc (answer_text s x) (text_of (next s x) xs) (text_of (after (next s x) xs) ys))

pub rows_kept-append : (s : State) (xs ys : List Item) → rows_kept s (xs ++ ys) ≡ rows_kept s xs ++ rows_kept (after s xs) ys
rows_kept-append s [] ys = refl
rows_kept-append s (x ∷ xs) ys = ap (λ t. item_rows s x ++ t) (rows_kept-append (next s x) xs ys) ∙ sym (append_assoc (item_rows s x) (rows_kept (next s x) xs) (rows_kept (after (next s x) xs) ys))

pub after-append : (s : State) (xs ys : List Item) → after s (xs ++ ys) ≡ after (after s xs) ys
after-append s [] ys = refl
after-append s (x ∷ xs) ys = after-append (next s x) xs ys

numbered-append : (n : ℕ) (xs ys : List Line) → numbered n (xs ++ ys) ≡ numbered n xs ++ numbered (n + length xs) ys
numbered-append n [] ys = ap (λ (k : ℕ). numbered k ys) (omega arith)
numbered-append n (x ∷ xs) ys =
    let count : n + 1 + length xs ≡ n + suc (length xs) = omega arith in
    ap (λ l. item_of n x ∷ l) (numbered-append (n + 1) xs ys) ∙ ap (λ (k : ℕ). item_of n x ∷ (numbered (n + 1) xs ++ numbered k ys)) count

length-numbered : (n : ℕ) (ls : List Line) → length (numbered n ls) ≡ length ls
length-numbered n [] = refl
length-numbered n (l ∷ ls) = ap (λ (k : ℕ). suc k) (length-numbered (n + 1) ls)

pub or_assoc : (a b c : Bool) → ((a || b) || c) ≡ (a || (b || c))
or_assoc true b c = refl
or_assoc false b c = refl

pub or_false : (b : Bool) → (b || false) ≡ b
or_false true = refl
or_false false = refl

pub any_refused-append : (s : State) (xs ys : List Item) → any_refused s (xs ++ ys) ≡ (any_refused s xs || any_refused (after s xs) ys)
any_refused-append s [] ys = refl
any_refused-append s (x ∷ xs) ys = ap (λ b. is_refused s x || b) (any_refused-append (next s x) xs ys) ∙ sym (or_assoc (is_refused s x) (any_refused (next s x) xs) (any_refused (after (next s x) xs) ys))

-- the item of the last line, as a list of at most one
abbrev last_item : Progress → List ℕ → List Item
last_item p line = numbered (p.number + 1) (last_line line)

end_text_is : (p : Progress) (line : List ℕ) → p.line ≡ line → end_text p ≡ text_of p.ledger (last_item p line)
unfolding end_text
end_text_is p [] is = rw is refl
end_text_is p (b ∷ line) is = let some : eqb (length (b ∷ line)) 0 ≡ false = ne_eqb _ _ (λ (e : length (b ∷ line) ≡ 0). omega arith) in rw (is, some) (sym (append-nil (answer_text p.ledger (next_item p (line_of (b ∷ line))))))

end_rows_is : (p : Progress) (line : List ℕ) → p.line ≡ line → end_rows p ≡ rows_kept p.ledger (last_item p line)
unfolding end_rows
end_rows_is p [] is = rw is refl
end_rows_is p (b ∷ line) is = let some : eqb (length (b ∷ line)) 0 ≡ false = ne_eqb _ _ (λ (e : length (b ∷ line) ≡ 0). omega arith) in rw (is, some) (sym (append-nil (item_rows p.ledger (next_item p (line_of (b ∷ line))))))

end_refused_is : (p : Progress) (line : List ℕ) → p.line ≡ line → end_refused p ≡ (p.refused || any_refused p.ledger (last_item p line))
unfolding end_refused
end_refused_is p [] is = rw is (sym (or_false p.refused))
end_refused_is p (b ∷ line) is = let some : eqb (length (b ∷ line)) 0 ≡ false = ne_eqb _ _ (λ (e : length (b ∷ line) ≡ 0). omega arith) in rw (is, some) (ap (λ c. p.refused || c) (sym (or_false (is_refused p.ledger (next_item p (line_of (b ∷ line)))))))

end_ledger_is : (p : Progress) (line : List ℕ) → p.line ≡ line → end_ledger p ≡ after p.ledger (last_item p line)
unfolding end_ledger
end_ledger_is p [] is = rw is refl
end_ledger_is p (b ∷ line) is = let some : eqb (length (b ∷ line)) 0 ≡ false = ne_eqb _ _ (λ (e : length (b ∷ line) ≡ 0). omega arith) in rw (is, some) refl

lines_are : (bs : List ℕ) → map ended_line (cut [] bs) ≡ ended_lines bs
lines_are bs = ap (map ended_line) (sym (cut_is [] bs))

items_are : (bs : List ℕ) → numbered 1 (map ended_line (cut [] bs)) ≡ ended_items bs
items_are bs = ap (numbered 1) (lines_are bs)

last_is : (bs : List ℕ) → last_line (take 513 (left_over [] bs)) ≡ last_line (unended (first_part bs) (other_parts bs))
last_is bs = kept_last (left_over [] bs) ∙ ap last_line (sym (left_over_is [] bs))

pub text_is : (s : State) (bs : List ℕ) → text_all (new_run s) bs ≡ text_of s (ended_items bs)
text_is s bs = (fed (new_run s) [] bs refl).text ∙ ap (text_of s) (items_are bs)

pub rows_are : (s : State) (bs : List ℕ) → rows_all (new_run s) bs ≡ rows_kept s (ended_items bs)
rows_are s bs = (fed (new_run s) [] bs refl).kept ∙ ap (rows_kept s) (items_are bs)

ledger_is : (s : State) (bs : List ℕ) → (feed_all (new_run s) bs).ledger ≡ after s (ended_items bs)
ledger_is s bs = (fed (new_run s) [] bs refl).ledger ∙ ap (after s) (items_are bs)

number_is : (s : State) (bs : List ℕ) → (feed_all (new_run s) bs).number ≡ length (ended_lines bs)
number_is s bs =
    let n = (fed (new_run s) [] bs refl).number in
    let m : length (map ended_line (cut [] bs)) ≡ length (cut [] bs) = simp length-map in
    let l : length (map ended_line (cut [] bs)) ≡ length (ended_lines bs) = ap length (lines_are bs) in
    omega (arith, n, m, l)

-- the item of the line that the end of an input ends
abbrev pub rest_of : List ℕ → List Item
rest_of bs = numbered (1 + length (ended_lines bs)) (last_line (unended (first_part bs) (other_parts bs)))

pub all_are : (bs : List ℕ) → all_items bs ≡ ended_items bs ++ rest_of bs
all_are bs = numbered-append 1 (ended_lines bs) (last_line (unended (first_part bs) (other_parts bs)))

rest_is : (s : State) (bs : List ℕ) → last_item (feed_all (new_run s) bs) (take 513 (left_over [] bs)) ≡ rest_of bs
rest_is s bs =
    let q = feed_all (new_run s) bs in
    let count : q.number + 1 ≡ 1 + length (ended_lines bs) = omega (arith, number_is s bs) in
    ap (numbered (q.number + 1)) (last_is bs) ∙ ap (λ (n : ℕ). numbered n (last_line (unended (first_part bs) (other_parts bs)))) count

-- what is written for it, and kept of it
end_of : (s : State) (bs : List ℕ) → end_text (feed_all (new_run s) bs) ≡ text_of (after s (ended_items bs)) (rest_of bs)
end_of s bs =
    let q = feed_all (new_run s) bs in
    end_text_is q _ (fed (new_run s) [] bs refl).line ∙ ap (text_of q.ledger) (rest_is s bs) ∙ ap (λ t. text_of t (rest_of bs)) (ledger_is s bs)

end_rows_of : (s : State) (bs : List ℕ) → end_rows (feed_all (new_run s) bs) ≡ rows_kept (after s (ended_items bs)) (rest_of bs)
end_rows_of s bs =
    let q = feed_all (new_run s) bs in
    end_rows_is q _ (fed (new_run s) [] bs refl).line ∙ ap (rows_kept q.ledger) (rest_is s bs) ∙ ap (λ t. rows_kept t (rest_of bs)) (ledger_is s bs)

pub whole_text : (s : State) (bs : List ℕ) → text_all (new_run s) bs ++ end_text (feed_all (new_run s) bs) ≡ text_of s (all_items bs)
whole_text s bs =
    ap (λ t. text_all (new_run s) bs ++ t) (end_of s bs) ∙ ap (λ t. t ++ text_of (after s (ended_items bs)) (rest_of bs)) (text_is s bs)
    ∙ sym (text_of-append s (ended_items bs) (rest_of bs)) ∙ ap (text_of s) (sym (all_are bs))

pub whole_rows : (s : State) (bs : List ℕ) → rows_all (new_run s) bs ++ end_rows (feed_all (new_run s) bs) ≡ rows_kept s (all_items bs)
whole_rows s bs =
    ap (λ t. rows_all (new_run s) bs ++ t) (end_rows_of s bs) ∙ ap (λ t. t ++ rows_kept (after s (ended_items bs)) (rest_of bs)) (rows_are s bs)
    ∙ sym (rows_kept-append s (ended_items bs) (rest_of bs)) ∙ ap (rows_kept s) (sym (all_are bs))

pub whole_refused : (s : State) (bs : List ℕ) → end_refused (feed_all (new_run s) bs) ≡ any_refused s (all_items bs)
whole_refused s bs =
    let q = feed_all (new_run s) bs in
    let rest = rest_of bs in
    let last : end_refused q ≡ (q.refused || any_refused q.ledger rest) = end_refused_is q _ (fed (new_run s) [] bs refl).line ∙ ap (λ l. q.refused || any_refused q.ledger l) (rest_is s bs) in
    let first : q.refused ≡ any_refused s (ended_items bs) = (fed (new_run s) [] bs refl).refused ∙ ap (any_refused s) (items_are bs) in
    last ∙ ap (λ b. b || any_refused q.ledger rest) first ∙ ap (λ t. any_refused s (ended_items bs) || any_refused t rest) (ledger_is s bs)
    ∙ sym (any_refused-append s (ended_items bs) rest) ∙ ap (any_refused s) (sym (all_are bs))

pub whole_ledger : (s : State) (bs : List ℕ) → end_ledger (feed_all (new_run s) bs) ≡ after s (all_items bs)
whole_ledger s bs =
    let q = feed_all (new_run s) bs in
    end_ledger_is q _ (fed (new_run s) [] bs refl).line ∙ ap (after q.ledger) (rest_is s bs) ∙ ap (λ t. after t (rest_of bs)) (ledger_is s bs)
    ∙ sym (after-append s (ended_items bs) (rest_of bs)) ∙ ap (after s) (sym (all_are bs))

-- ---- the first lines of an input

-- the lines that end in the front of an input are its first lines
ended-append : (xs ys : List ℕ) → ended_lines (xs ++ ys) ≡ ended_lines xs ++ map ended_line (cut (left_over [] xs) ys)
ended-append xs ys = sym (lines_are (xs ++ ys)) ∙ ap (map ended_line) (cut-append [] xs ys) ∙ map-append ended_line (cut [] xs) (cut (left_over [] xs) ys) ∙ ap (λ l. l ++ map ended_line (cut (left_over [] xs) ys)) (lines_are xs)

-- one behind the other
pub items-append : (xs ys : List ℕ) → ended_items (xs ++ ys) ≡ ended_items xs ++ numbered (1 + length (ended_lines xs)) (map ended_line (cut (left_over [] xs) ys))
items-append xs ys = ap (numbered 1) (ended-append xs ys) ∙ numbered-append 1 (ended_lines xs) (map ended_line (cut (left_over [] xs) ys))

-- the items of the first bytes of an input are its first items
pub first_items : (n : ℕ) (bs : List ℕ) → AreFirst (ended_items (take n bs)) (ended_items bs)
first_items n bs = (numbered (1 + length (ended_lines (take n bs))) (map ended_line (cut (left_over [] (take n bs)) (drop n bs))), ap ended_items (sym (take-append-drop n bs)) ∙ items-append (take n bs) (drop n bs))

-- all are the first of themselves
pub all_first : (items : List Item) → AreFirst items items
all_first items = ([], sym (append-nil items))

-- ---- the last line that was handled

-- a byte ends at most one line
cut_one : (u : List ℕ) (b : ℕ) → length (cut u (b ∷ [])) ≤ 1
cut_one u b = elim (by_test (eqb b 10)) [
  | inl t ↦ rw t (omega arith)
  | inr f ↦ rw f (omega arith)
]

-- at most one more
pub record OneMore (fewer items : List Item) : Type 0 where
  pub more : List Item
  pub parts : items ≡ fewer ++ more
  pub one : length more ≤ 1

-- the items of the bytes before the last, and of the last one
pub one_byte : (c : ℕ) (bytes : List ℕ) → c ≤ length bytes → OneMore (ended_items (take (c - 1) bytes)) (ended_items (take c bytes))
one_byte zero bytes within = record { more = []; parts = refl; one = omega arith }
one_byte (suc n) bytes within =
    let back : suc n - 1 ≡ n = omega arith in
    let last = get_or bytes n 0 in
    let more = map ended_line (cut (left_over [] (take n bytes)) (last ∷ [])) in
    let items = numbered (1 + length (ended_lines (take n bytes))) more in
    let next : suc n ≡ n + 1 = omega arith in
    let split : take (suc n) bytes ≡ take n bytes ++ last ∷ [] = ap (λ (i : ℕ). take i bytes) next ∙ take_more bytes n 0 (omega (arith, within)) in
    let parts : ended_items (take (suc n) bytes) ≡ ended_items (take n bytes) ++ items = ap ended_items split ∙ items-append (take n bytes) (last ∷ []) in
    let same : length more ≡ length (cut (left_over [] (take n bytes)) (last ∷ [])) = simp length-map in
    let count : length items ≡ length more = length-numbered _ more in
    record {
      more = items;
      parts = parts ∙ ap (λ (i : ℕ). ended_items (take i bytes) ++ items) (sym back);
      one = omega (arith, same, count, cut_one (left_over [] (take n bytes)) last);
    }

-- the text of some first items is a front of the text of all
text_of_front : (s : State) (n : ℕ) (items : List Item) → IsFront (text_of s (take n items)) (text_of s items)
text_of_front s n items = (text_of (after s (take n items)) (drop n items), ap (text_of s) (sym (take-append-drop n items)) ∙ text_of-append s (take n items) (drop n items))

-- all items but the last are among those before it
pub low_front : (s : State) (fewer items : List Item) → OneMore fewer items → IsFront (text_of s (but_last items)) (text_of s fewer)
low_front s fewer items more =
    let n = length items - 1 in
    let less : n ≤ length fewer = omega (arith, ap length more.parts, length-append fewer more.more, more.one) in
    let same : take n items ≡ take n fewer = ap (take n) more.parts ∙ take-append-le n fewer more.more less in
    subst (λ (x : List Item). IsFront (text_of s x) (text_of s fewer)) (sym same) (text_of_front s n fewer)

-- the item of a line that the end of an input ends is the last one
pub last_more : (bs : List ℕ) → OneMore (ended_items bs) (all_items bs)
last_more bs = record { more = rest_of bs; parts = all_are bs; one = omega (arith, length-numbered (1 + length (ended_lines bs)) (last_line (unended (first_part bs) (other_parts bs))), last_one (unended (first_part bs) (other_parts bs))) }
  where
    last_one : (bs : List ℕ) → length (last_line bs) ≤ 1
    last_one [] = omega arith
    last_one (b ∷ bs) = omega arith

pub none_more : (items : List Item) → OneMore items items
none_more items = record { more = []; parts = sym (append-nil items); one = omega arith }
