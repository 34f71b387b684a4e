-- Runs of bytes without a line feed, which are taken at once.
use Rattle.std.proofs.Common.{◌≡◌, ℕ, suc, ◌+◌, ◌-◌, ◌<◌, ◌≤◌, Bool, true, false, eqb, ltb, ◌⊎◌, inl, inr, List, [], ◌∷◌, ◌++◌, length, take, drop, get_or, refl, ap, sym, ◌∙◌, subst, arith, append_assoc, append-nil, length-append, take-append-drop}
use Rattle.std.proofs.lemmas.Bool.{ltb-true, ltb-false, lt-ltb, ne_eqb, eq-eqb}
use Rattle.std.proofs.lemmas.List.{take_all, take_rest, length-take, length-drop, length-take-le, get_or-take, get_or_default}
use Rattle.std.proofs.Math.Seq.{take-add}
use Rattle.card_desk.proofs.MapLemmas.{by_test}
use Rattle.card_desk.specs.Kept.{Fits}
use Rattle.card_commands.specs.Feed.{Run, Progress, next_item, longer_line, kept_of, HasNoLineFeed, feed, feed_all, text_all, rows_all}
use Rattle.card_commands.specs.Input.{ended_line}
use Rattle.card_commands.specs.Answers.{answer_text, item_rows}
use Rattle.card_commands.specs.Ran.{Handled, Fed, FellAt}
use Rattle.card_commands.specs.Written.{Sides, FellIn}
use Rattle.card_commands.specs.declared.stop.Stop.{Stop}
use Rattle.card_text.specs.declared.item.Item.{Item}
use Rattle.card_commands.proofs.LineLemmas.{feed_other, text_other, rows_other}
use Rattle.card_commands.proofs.SideLemmas.{did_none, did_same, counts_refl}
use Rattle.card_commands.proofs.FeedLemmas.{fed_then, fell_then, fed_line_feed, fell_line_feed}
use Rattle.memchr.specs.Find.{Nowhere, Passes, is_byte}

-- ---- what is kept of a run

-- byte by byte
abbrev longer : List ℕ → List ℕ → List ℕ
longer line [] = line
longer line (b ∷ bs) = longer (longer_line line b) bs

longer_full : (line : List ℕ) (b : ℕ) → ltb 512 (length line) ≡ true → longer_line line b ≡ line
longer_full line b t = rw t refl

longer_room : (line : List ℕ) (b : ℕ) → ltb 512 (length line) ≡ false → longer_line line b ≡ line ++ b ∷ []
longer_room line b f = rw f refl

longer_is : (line run : List ℕ) → longer line run ≡ line ++ kept_of line run
longer_is line [] = sym (ap (λ l. line ++ l) (take_all (513 - length line) [] (omega arith)) ∙ append-nil line)
longer_is line (b ∷ bs) = elim (by_test (ltb 512 (length line))) [
  | inl t ↦
      let none : 513 - length line ≡ 0 = omega (arith, ltb-true 512 (length line) t) in
      ap (λ (l : List ℕ). longer l bs) (longer_full line b t) ∙ longer_is line bs ∙ ap (λ (n : ℕ). line ++ take n bs) none ∙ sym (ap (λ (n : ℕ). line ++ take n (b ∷ bs)) none)
  | inr f ↦
      let more : 513 - length line ≡ suc (513 - length (line ++ b ∷ [])) = omega (arith, ltb-false 512 (length line) f, length-append line (b ∷ [])) in
      ap (λ (l : List ℕ). longer l bs) (longer_room line b f) ∙ longer_is (line ++ b ∷ []) bs ∙ append_assoc line (b ∷ []) (kept_of (line ++ b ∷ []) bs) ∙ sym (ap (λ (n : ℕ). line ++ take n (b ∷ bs)) more)
]

-- what is kept says what all says
pub kept_says : (line run : List ℕ) → ended_line (line ++ kept_of line run) ≡ ended_line (line ++ run)
unfolding ended_line
kept_says line run = elim (by_test (ltb 512 (length (line ++ run)))) [
  | inl t ↦
      let long : 512 < length (line ++ kept_of line run) = omega (arith, ltb-true 512 (length (line ++ run)) t, length-append line run, length-append line (kept_of line run), length-take (513 - length line) run) in
      let too : ltb 512 (length (line ++ kept_of line run)) ≡ true = lt-ltb 512 (length (line ++ kept_of line run)) long in
      rw (t, too) refl
  | inr f ↦
      let short : length run ≤ 513 - length line = omega (arith, ltb-false 512 (length (line ++ run)) f, length-append line run) in
      ap (λ (l : List ℕ). ended_line (line ++ l)) (take_all (513 - length line) run short)
]

-- ---- a run is fed

no_first : (b : ℕ) (bs : List ℕ) → HasNoLineFeed (b ∷ bs) → eqb b 10 ≡ false
no_first b bs none = ne_eqb b 10 (none 0 0 (omega arith))

no_rest : (b : ℕ) (bs : List ℕ) → HasNoLineFeed (b ∷ bs) → HasNoLineFeed bs
no_rest b bs none = λ k d low. none (suc k) d (omega (arith, low))

feed_run : (p : Progress) (run : List ℕ) → HasNoLineFeed run → feed_all p run ≡ record p { line = longer p.line run }
unfolding feed_all
feed_run p [] none = refl
feed_run p (b ∷ bs) none = ap (λ (q : Progress). feed_all q bs) (feed_other p b (no_first b bs none)) ∙ feed_run (record p { line = longer_line p.line b }) bs (no_rest b bs none)

text_run : (p : Progress) (run : List ℕ) → HasNoLineFeed run → text_all p run ≡ []
unfolding text_all
text_run p [] none = refl
text_run p (b ∷ bs) none = ap (λ t. t ++ text_all (feed p b) bs) (text_other p b (no_first b bs none)) ∙ text_run (feed p b) bs (no_rest b bs none)

rows_run : (p : Progress) (run : List ℕ) → HasNoLineFeed run → rows_all p run ≡ []
unfolding rows_all
rows_run p [] none = refl
rows_run p (b ∷ bs) none = ap (λ t. t ++ rows_all (feed p b) bs) (rows_other p b (no_first b bs none)) ∙ rows_run (feed p b) bs (no_rest b bs none)

-- a run that no line feed ends: nothing was done
fed_run : (a : Sides) (p q : Progress) (run : List ℕ) → HasNoLineFeed run → q ≡ record p { line = p.line ++ kept_of p.line run } → Fits a.keeper.rows p.ledger → Fed a a p run q
fed_run a p q run none is fits = record {
  progress = is ∙ ap (λ (l : List ℕ). record p { line = l }) (sym (longer_is p.line run)) ∙ sym (feed_run p run none);
  number = omega (arith, ap (λ (r : Progress). r.number) is);
  did = did_same a a [] (text_all p run) [] (rows_all p run) (sym (text_run p run none)) (sym (rows_run p run none)) (did_none a);
  counts = counts_refl a;
  fits = subst (λ (r : Progress). Fits a.keeper.rows r.ledger) (sym is) fits;
}

-- after a run
abbrev with_run : Progress → List ℕ → Progress
with_run p run = record p { line = p.line ++ kept_of p.line run }

item_behind : (p : Progress) (run : List ℕ) (x : Item) → x ≡ next_item p (ended_line (p.line ++ run)) → x ≡ next_item (with_run p run) (ended_line (with_run p run).line)
item_behind p run x is = is ∙ ap (next_item p) (sym (kept_says p.line run))

-- a run and the line feed behind it: its line was handled
fed_line : (a b : Sides) (p : Progress) (run : List ℕ) (x : Item) (next : Run) → HasNoLineFeed run → Fits a.keeper.rows p.ledger → x ≡ next_item p (ended_line (p.line ++ run)) → Handled a b (record { ledger = p.ledger; refused = p.refused }) x next
    → Fed a b p (run ++ 10 ∷ []) (record { ledger = next.ledger; number = p.number + 1; refused = next.refused; line = [] })
fed_line a b p run x next none fits is done =
    fed_then a a b p (with_run p run) _ run (10 ∷ []) (fed_run a p (with_run p run) run none refl fits)
    (fed_line_feed a b (with_run p run) x next [] (item_behind p run x is) done refl)

-- the same, where its line ended the run over the bytes
fell_line : (a b : Sides) (p : Progress) (run : List ℕ) (x : Item) (e : Stop) → HasNoLineFeed run → Fits a.keeper.rows p.ledger → x ≡ next_item p (ended_line (p.line ++ run)) → FellIn a b (answer_text p.ledger x) (item_rows p.ledger x) e
    → FellAt a b p (run ++ 10 ∷ []) e
fell_line a b p run x e none fits is fell =
    fell_then a a b p (with_run p run) run (10 ∷ []) e (fed_run a p (with_run p run) run none refl fits)
    (fell_line_feed a b (with_run p run) x e (item_behind p run x is) fell)

-- the same, where q is what stands after the line was taken away
pub fed_line_of : (a b : Sides) (p q : Progress) (run : List ℕ) (x : Item) (next : Run) → HasNoLineFeed run → Fits a.keeper.rows p.ledger → q ≡ record p { line = [] } → x ≡ next_item q (ended_line (p.line ++ run))
    → Handled a b (record { ledger = q.ledger; refused = q.refused }) x next → Fed a b p (run ++ 10 ∷ []) (record { ledger = next.ledger; number = q.number + 1; refused = next.refused; line = q.line })
fed_line_of a b p q run x next none fits taken is done =
    subst (λ (o : Progress). x ≡ next_item o (ended_line (p.line ++ run)) → Handled a b (record { ledger = o.ledger; refused = o.refused }) x next
    → Fed a b p (run ++ 10 ∷ []) (record { ledger = next.ledger; number = o.number + 1; refused = next.refused; line = o.line }))
    (sym taken) (λ item handled. fed_line a b p run x next none fits item handled) is done

pub fell_line_of : (a b : Sides) (p q : Progress) (run : List ℕ) (x : Item) (e : Stop) → HasNoLineFeed run → Fits a.keeper.rows p.ledger → q ≡ record p { line = [] } → x ≡ next_item q (ended_line (p.line ++ run))
    → FellIn a b (answer_text q.ledger x) (item_rows q.ledger x) e → FellAt a b p (run ++ 10 ∷ []) e
fell_line_of a b p q run x e none fits taken is fell =
    subst (λ (o : Progress). x ≡ next_item o (ended_line (p.line ++ run)) → FellIn a b (answer_text o.ledger x) (item_rows o.ledger x) e → FellAt a b p (run ++ 10 ∷ []) e)
    (sym taken) (λ item fallen. fell_line a b p run x e none fits item fallen) is fell

-- ---- where the first line feed is

none_before : (bytes : List ℕ) (n : ℕ) → n ≤ length bytes → Nowhere (Passes (is_byte 10) bytes) 0 n → HasNoLineFeed (take n bytes)
none_before bytes n within nowhere = λ k d low same.
    let small : k < n = omega (arith, low, length-take-le n bytes within) in
    let here : get_or bytes k 0 ≡ 10 = get_or_default bytes k 0 d (omega (arith, small, within)) ∙ sym (get_or-take n bytes k d small) ∙ same in
    nowhere k (omega arith) small (eq-eqb (get_or bytes k 0) 10 here)

none_at_all : (bytes : List ℕ) → Nowhere (Passes (is_byte 10) bytes) 0 (length bytes) → HasNoLineFeed bytes
none_at_all bytes nowhere = subst HasNoLineFeed (take_all (length bytes) bytes (omega arith)) (none_before bytes (length bytes) (omega arith) nowhere)

-- all bytes, where none is a line feed
pub fed_all : (a : Sides) (p q : Progress) (bytes : List ℕ) → Nowhere (Passes (is_byte 10) bytes) 0 (length bytes) → q ≡ record p { line = p.line ++ kept_of p.line bytes } → Fits a.keeper.rows p.ledger → Fed a a p (take (length bytes) bytes) q
fed_all a p q bytes nowhere is fits = subst (λ (l : List ℕ). Fed a a p l q) (sym (take_all (length bytes) bytes (omega arith))) (fed_run a p q bytes (none_at_all bytes nowhere) is fits)

-- ---- pieces one after the other

-- the bytes behind place m
abbrev rest_of : List ℕ → ℕ → List ℕ
rest_of bytes m = take (length bytes - m) (drop m bytes)

pub length_rest : (bytes : List ℕ) (m : ℕ) → length (rest_of bytes m) ≡ length bytes - m
length_rest bytes m = ap length (take_rest bytes m) ∙ length-drop m bytes

pub fed_on : (a b c : Sides) (p q r : Progress) (bytes : List ℕ) (m n : ℕ) → Fed a b p (take m bytes) q → Fed b c q (take n (rest_of bytes m)) r → Fed a c p (take (m + n) bytes) r
fed_on a b c p q r bytes m n one two =
    subst (λ (l : List ℕ). Fed a c p l r) (ap (λ (l : List ℕ). take m bytes ++ take n l) (take_rest bytes m) ∙ sym (take-add m n bytes))
    (fed_then a b c p q r (take m bytes) (take n (rest_of bytes m)) one two)

pub fell_on : (a b c : Sides) (p q : Progress) (bytes : List ℕ) (m : ℕ) (e : Stop) → Fed a b p (take m bytes) q → FellAt b c q (rest_of bytes m) e → FellAt a c p bytes e
fell_on a b c p q bytes m e fed fell =
    subst (λ (l : List ℕ). FellAt a c p l e) (ap (λ (l : List ℕ). take m bytes ++ l) (take_rest bytes m) ∙ take-append-drop m bytes)
    (fell_then a b c p q (take m bytes) (rest_of bytes m) e fed fell)
