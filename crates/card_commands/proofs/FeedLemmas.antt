-- Bytes that are fed in pieces.
use Rattle.std.proofs.Common.{◌≡◌, ℕ, zero, suc, ◌+◌, ◌-◌, ◌≤◌, ◌⊎◌, inl, inr, List, [], ◌∷◌, ◌++◌, length, take, drop, refl, ap, sym, ◌∙◌, subst, arith, append_assoc, append-nil, length-append, take-append-drop, Option, None, Some}
use Rattle.std.proofs.lemmas.List.{take-append-le}
use Rattle.std.specs.Io.KnownBytes.{Appends, Consumes, Keeps}
use Rattle.std.proofs.KnownBytes.{Appends-nil, Appends-trans, Consumes-trans, Consumes-nil}
use Rattle.card_desk.specs.Kept.{Fits}
use Rattle.card_ports.specs.Rows.{AddsRows}
use Rattle.card_ports.specs.declared.row.Row.{Row}
use Rattle.card_ports.specs.Bytes.{IsFront}
use Rattle.card_ports.specs.Counts.{Rose}
use Rattle.card_commands.specs.Answers.{answer_text, item_rows}
use Rattle.card_commands.specs.Statuses.{ended_by}
use Rattle.card_commands.specs.Feed.{Run, Progress, after_item, next_item, feed, feed_text, feed_rows, feed_all, text_all, rows_all, line_done, line_text, line_kept}
use Rattle.card_commands.specs.Input.{ended_line}
use Rattle.card_commands.specs.Outside.{Outside, HasCause, sides_of}
use Rattle.card_commands.specs.Ran.{Handled, Fed, HeldAt, StoppedAt, DidAt, FellAt, Ran, FellReading}
use Rattle.card_commands.specs.Written.{Sides, Did, DidPart, SameCounts, Failed, FellIn}
use Rattle.card_commands.specs.declared.stop.Stop.{Stop}
use Rattle.card_commands.specs.declared.stop.Stop.TheVariants as stop
use Rattle.card_text.specs.declared.item.Item.{Item}
use Rattle.card_commands.proofs.LineLemmas.{feed_lf, text_lf, rows_lf}
use Rattle.card_commands.proofs.RowLemmas.{AddsRows-nil, AddsRows-trans}
use Rattle.card_commands.proofs.SideLemmas.{front_refl, front_none, front_trans, front_after, front_append, did_none, did_then, did_same, did_part_same, counts_refl, counts_then, failed_after}

pub feed_all-append : (p : Progress) (xs ys : List ℕ) → feed_all p (xs ++ ys) ≡ feed_all (feed_all p xs) ys
unfolding feed_all
feed_all-append p [] ys = refl
feed_all-append p (x ∷ xs) ys = feed_all-append (feed p x) xs ys

pub text_all-append : (p : Progress) (xs ys : List ℕ) → text_all p (xs ++ ys) ≡ text_all p xs ++ text_all (feed_all p xs) ys
unfolding feed_all text_all
text_all-append p [] ys = refl
text_all-append p (x ∷ xs) ys = ap (λ l. feed_text p x ++ l) (text_all-append (feed p x) xs ys) ∙ sym (append_assoc (feed_text p x) (text_all (feed p x) xs) (text_all (feed_all (feed p x) xs) ys))

pub rows_all-append : (p : Progress) (xs ys : List ℕ) → rows_all p (xs ++ ys) ≡ rows_all p xs ++ rows_all (feed_all p xs) ys
unfolding feed_all rows_all
rows_all-append p [] ys = refl
rows_all-append p (x ∷ xs) ys = ap (λ l. feed_rows p x ++ l) (rows_all-append (feed p x) xs ys) ∙ sym (append_assoc (feed_rows p x) (rows_all (feed p x) xs) (rows_all (feed_all (feed p x) xs) ys))

feed_one : (p : Progress) (b : ℕ) → feed_all p (b ∷ []) ≡ feed p b
unfolding feed_all
feed_one p b = refl

text_one : (p : Progress) (b : ℕ) → text_all p (b ∷ []) ≡ feed_text p b
unfolding text_all
text_one p b = append-nil (feed_text p b)

rows_one : (p : Progress) (b : ℕ) → rows_all p (b ∷ []) ≡ feed_rows p b
unfolding rows_all
rows_one p b = append-nil (feed_rows p b)

pub feed_none : (p : Progress) → p ≡ feed_all p []
unfolding feed_all
feed_none p = refl

text_empty : (p : Progress) → text_all p [] ≡ []
unfolding text_all
text_empty p = refl

rows_empty : (p : Progress) → rows_all p [] ≡ []
unfolding rows_all
rows_empty p = refl

pub text_none : (a : Option (List ℕ)) (p : Progress) → Appends a a (text_all p [])
text_none a p = subst (Appends a a) (sym (text_empty p)) (Appends-nil a)

pub rows_none : (a : Option (List Row)) (p : Progress) → AddsRows a a (rows_all p [])
rows_none a p = subst (AddsRows a a) (sym (rows_empty p)) (AddsRows-nil a)

-- what some first bytes give is a front of what all give
pub text_front : (p : Progress) (n : ℕ) (bytes : List ℕ) → IsFront (text_all p (take n bytes)) (text_all p bytes)
text_front p n bytes =
    (text_all (feed_all p (take n bytes)) (drop n bytes), ap (text_all p) (sym (take-append-drop n bytes)) ∙ text_all-append p (take n bytes) (drop n bytes))

-- ---- bytes that were handled

pub fed_none : (a : Sides) (p : Progress) → Fits a.keeper.rows p.ledger → Fed a a p [] p
fed_none a p fits = record {
  progress = feed_none p;
  number = omega arith;
  did = did_same a a [] (text_all p []) [] (rows_all p []) (sym (text_empty p)) (sym (rows_empty p)) (did_none a);
  counts = counts_refl a;
  fits = fits;
}

pub fed_then : (a b c : Sides) (p q r : Progress) (xs ys : List ℕ) → Fed a b p xs q → Fed b c q ys r → Fed a c p (xs ++ ys) r
fed_then a b c p q r xs ys one two = record {
  progress = two.progress ∙ ap (λ (s : Progress). feed_all s ys) one.progress ∙ sym (feed_all-append p xs ys);
  number = omega (arith, one.number, two.number, length-append xs ys);
  did = did_same a c _ (text_all p (xs ++ ys)) _ (rows_all p (xs ++ ys))
      (ap (λ (s : Progress). text_all p xs ++ text_all s ys) one.progress ∙ sym (text_all-append p xs ys))
      (ap (λ (s : Progress). rows_all p xs ++ rows_all s ys) one.progress ∙ sym (rows_all-append p xs ys))
      (did_then a b c (text_all p xs) (text_all q ys) (rows_all p xs) (rows_all q ys) one.did two.did);
  counts = counts_then a b c one.counts two.counts;
  fits = two.fits;
}

-- a line feed: its line was handled
pub fed_line_feed : (a b : Sides) (p : Progress) (x : Item) (next : Run) (line : List ℕ) → x ≡ next_item p (ended_line p.line) → Handled a b (record { ledger = p.ledger; refused = p.refused }) x next → line ≡ []
    → Fed a b p (10 ∷ []) (record { ledger = next.ledger; number = p.number + 1; refused = next.refused; line = line })
unfolding line_done line_text line_kept
fed_line_feed a b p x next line item done empty =
    let run : next ≡ after_item (record { ledger = p.ledger; refused = p.refused }) (next_item p (ended_line p.line)) = done.run ∙ ap (λ (y : Item). after_item (record { ledger = p.ledger; refused = p.refused }) y) item in
    let made : Run → List ℕ → Progress = λ r l. record { ledger = r.ledger; number = p.number + 1; refused = r.refused; line = l } in
    record {
      progress = ap (λ (r : Run). made r line) run ∙ ap (λ (l : List ℕ). made (after_item (record { ledger = p.ledger; refused = p.refused }) (next_item p (ended_line p.line))) l) empty ∙ sym (feed_one p 10 ∙ feed_lf p 10 refl);
      number = omega arith;
      did = did_same a b _ (text_all p (10 ∷ [])) _ (rows_all p (10 ∷ []))
          (ap (λ (y : Item). answer_text p.ledger y) item ∙ sym (text_one p 10 ∙ text_lf p 10 refl))
          (ap (λ (y : Item). item_rows p.ledger y) item ∙ sym (rows_one p 10 ∙ rows_lf p 10 refl)) done.did;
      counts = done.counts;
      fits = done.fits;
    }

-- ---- a byte that ended the run

held_first : (a b : Sides) (p : Progress) (bytes : List ℕ) → Did a b [] [] → HeldAt a b p bytes
held_first a b p bytes none = record { count = 0; within = omega arith; did = did_same a b [] _ [] _ (sym (text_empty p)) (sym (rows_empty p)) none }

stopped_first : (a b : Sides) (p : Progress) (bytes : List ℕ) → Did a b [] [] → StoppedAt a b p bytes
stopped_first a b p bytes none = record {
  count = 0;
  within = omega arith;
  took = record { bytes = []; taken = none.written; whole = subst (λ (l : List ℕ). IsFront l []) (sym (text_empty p)) (front_refl []); front = front_none _ };
  kept = subst (λ (l : List Row). AddsRows a.keeper.rows b.keeper.rows l) (sym (rows_empty p)) none.kept;
}

-- of the text of the first byte a front was written
stopped_part : (a b : Sides) (p : Progress) (byte : ℕ) → DidPart a b (feed_text p byte) (feed_rows p byte) → StoppedAt a b p (byte ∷ [])
stopped_part a b p byte part = record {
  count = 1;
  within = omega arith;
  took = record {
    bytes = part.took.bytes;
    taken = part.took.taken;
    whole = subst (λ (l : List ℕ). IsFront l part.took.bytes) (sym (text_empty p)) (front_none part.took.bytes);
    front = subst (IsFront part.took.bytes) (sym (text_one p byte)) part.took.front;
  };
  kept = subst (λ (l : List Row). AddsRows a.keeper.rows b.keeper.rows l) (sym (rows_one p byte)) part.kept;
}

stopped_line : (a b : Sides) (p : Progress) (x : Item) → x ≡ next_item p (ended_line p.line) → Did a b [] [] ⊎ DidPart a b (answer_text p.ledger x) (item_rows p.ledger x) → StoppedAt a b p (10 ∷ [])
unfolding line_text line_kept
stopped_line a b p x item (inl none) = stopped_first a b p (10 ∷ []) none
stopped_line a b p x item (inr part) =
    stopped_part a b p 10 (did_part_same a b _ (feed_text p 10) _ (feed_rows p 10)
    (ap (λ (y : Item). answer_text p.ledger y) item ∙ sym (text_lf p 10 refl)) (ap (λ (y : Item). item_rows p.ledger y) item ∙ sym (rows_lf p 10 refl)) part)

-- a line feed, whose line ended the run
pub fell_line_feed : (a b : Sides) (p : Progress) (x : Item) (e : Stop) → x ≡ next_item p (ended_line p.line) → FellIn a b (answer_text p.ledger x) (item_rows p.ledger x) e → FellAt a b p (10 ∷ []) e
fell_line_feed a b p x stop.Source item fell = absurd fell.cause
fell_line_feed a b p x stop.Sink item fell = record { did = stopped_line a b p x item fell.did; cause = fell.cause }
fell_line_feed a b p x stop.Keeper item fell = record { did = held_first a b p (10 ∷ []) fell.did; cause = fell.cause }
fell_line_feed a b p x stop.Memory item fell = record { did = stopped_line a b p x item fell.did; cause = fell.cause }
fell_line_feed a b p x stop.Endless item fell = absurd fell.cause

-- memory was wanted before anything was done
pub fell_first : (a : Sides) (p : Progress) (bytes : List ℕ) → FellAt a a p bytes stop.Memory
fell_first a p bytes = record { did = stopped_first a a p bytes (did_none a); cause = counts_refl a }

-- ---- bytes were handled, and then one ended the run

-- as many bytes of a list that goes on
take_past : (n : ℕ) (xs ys : List ℕ) → take (length xs + n) (xs ++ ys) ≡ xs ++ take n ys
take_past n [] ys = let same : 0 + n ≡ n = omega arith in ap (λ (i : ℕ). take i ys) same
take_past n (x ∷ xs) ys =
    let same : length (x ∷ xs) + n ≡ suc (length xs + n) = omega arith in
    ap (λ (i : ℕ). take i (x ∷ (xs ++ ys))) same ∙ ap (λ l. x ∷ l) (take_past n xs ys)

text_past : (p q : Progress) (n : ℕ) (xs ys : List ℕ) → q ≡ feed_all p xs → text_all p (take (length xs + n) (xs ++ ys)) ≡ text_all p xs ++ text_all q (take n ys)
text_past p q n xs ys is = ap (text_all p) (take_past n xs ys) ∙ text_all-append p xs (take n ys) ∙ ap (λ (r : Progress). text_all p xs ++ text_all r (take n ys)) (sym is)

rows_past : (p q : Progress) (n : ℕ) (xs ys : List ℕ) → q ≡ feed_all p xs → rows_all p (take (length xs + n) (xs ++ ys)) ≡ rows_all p xs ++ rows_all q (take n ys)
rows_past p q n xs ys is = ap (rows_all p) (take_past n xs ys) ∙ rows_all-append p xs (take n ys) ∙ ap (λ (r : Progress). rows_all p xs ++ rows_all r (take n ys)) (sym is)

held_after : (a b c : Sides) (p q : Progress) (xs ys : List ℕ) → Fed a b p xs q → HeldAt b c q ys → HeldAt a c p (xs ++ ys)
held_after a b c p q xs ys fed held = record {
  count = length xs + held.count;
  within = omega (arith, length-append xs ys, held.within);
  did = did_same a c _ _ _ _ (sym (text_past p q held.count xs ys fed.progress)) (sym (rows_past p q held.count xs ys fed.progress)) (did_then a b c _ _ _ _ fed.did held.did);
}

-- the low end: where no byte of ys was handled it lies within xs
low_past : (p q : Progress) (n : ℕ) (xs ys bs : List ℕ) → q ≡ feed_all p xs → IsFront (text_all q (take (n - 1) ys)) bs → IsFront (text_all p (take (length xs + n - 1) (xs ++ ys))) (text_all p xs ++ bs)
low_past p q zero xs ys bs is whole =
    let less : length xs + 0 - 1 ≤ length xs = omega arith in
    let within : take (length xs + 0 - 1) (xs ++ ys) ≡ take (length xs + 0 - 1) xs = take-append-le (length xs + 0 - 1) xs ys less in
    subst (λ (l : List ℕ). IsFront (text_all p l) (text_all p xs ++ bs)) (sym within)
    (front_trans _ (text_all p xs) _ (text_front p (length xs + 0 - 1) xs) (front_append (text_all p xs) bs))
low_past p q (suc n) xs ys bs is whole =
    let less : length xs + suc n - 1 ≡ length xs + n = omega arith in
    let back : suc n - 1 ≡ n = omega arith in
    let front : IsFront (text_all q (take n ys)) bs = subst (λ (i : ℕ). IsFront (text_all q (take i ys)) bs) back whole in
    subst (λ (i : ℕ). IsFront (text_all p (take i (xs ++ ys))) (text_all p xs ++ bs)) (sym less)
    (subst (λ (l : List ℕ). IsFront l (text_all p xs ++ bs)) (sym (text_past p q n xs ys is)) (front_after (text_all p xs) _ bs front))

stopped_after : (a b c : Sides) (p q : Progress) (xs ys : List ℕ) → Fed a b p xs q → StoppedAt b c q ys → StoppedAt a c p (xs ++ ys)
stopped_after a b c p q xs ys fed stop = record {
  count = length xs + stop.count;
  within = omega (arith, length-append xs ys, stop.within);
  took = record {
    bytes = text_all p xs ++ stop.took.bytes;
    taken = Appends-trans a.sink.taken b.sink.taken c.sink.taken _ _ fed.did.written stop.took.taken;
    whole = low_past p q stop.count xs ys stop.took.bytes fed.progress stop.took.whole;
    front = subst (IsFront (text_all p xs ++ stop.took.bytes)) (sym (text_past p q stop.count xs ys fed.progress)) (front_after (text_all p xs) stop.took.bytes _ stop.took.front);
  };
  kept = subst (λ (l : List Row). AddsRows a.keeper.rows c.keeper.rows l) (sym (rows_past p q stop.count xs ys fed.progress))
      (AddsRows-trans a.keeper.rows b.keeper.rows c.keeper.rows _ _ fed.did.kept stop.kept);
}

-- bytes were handled, and then one ended the run
did_after : (a b c : Sides) (p q : Progress) (xs ys : List ℕ) (e : Stop) → Fed a b p xs q → DidAt b c q ys e → DidAt a c p (xs ++ ys) e
did_after a b c p q xs ys stop.Source fed did =
    did_same a c _ (text_all p (xs ++ ys)) _ (rows_all p (xs ++ ys))
    (ap (λ (s : Progress). text_all p xs ++ text_all s ys) fed.progress ∙ sym (text_all-append p xs ys))
    (ap (λ (s : Progress). rows_all p xs ++ rows_all s ys) fed.progress ∙ sym (rows_all-append p xs ys))
    (did_then a b c (text_all p xs) (text_all q ys) (rows_all p xs) (rows_all q ys) fed.did did)
did_after a b c p q xs ys stop.Sink fed did = stopped_after a b c p q xs ys fed did
did_after a b c p q xs ys stop.Keeper fed did = held_after a b c p q xs ys fed did
did_after a b c p q xs ys stop.Memory fed did = stopped_after a b c p q xs ys fed did
did_after a b c p q xs ys stop.Endless fed did = absurd did

pub fell_then : (a b c : Sides) (p q : Progress) (xs ys : List ℕ) (e : Stop) → Fed a b p xs q → FellAt b c q ys e → FellAt a c p (xs ++ ys) e
fell_then a b c p q xs ys e fed fell = record { did = did_after a b c p q xs ys e fed fell.did; cause = failed_after a b c e fed.counts fell.cause }

-- ---- with the source

ran_none : {I K : Type 0} (a : Outside I K) (p : Progress) → Fits a.rows p.ledger → Ran a a p p 0
ran_none a p fits = record { bytes = []; length_is = refl; read = Consumes-nil a.left; source_count = refl; fed = fed_none (sides_of a) p fits }

-- a run begins
pub ran_start : {I K : Type 0} (a : Outside I K) (p q : Progress) → q ≡ p → Fits a.rows p.ledger → Ran a a p q 0
ran_start a p q is fits = subst (λ (o : Progress). Ran a a p o 0) (sym is) (ran_none a p fits)

pub ran_more : {I K : Type 0} (a b c : Outside I K) (p q r : Progress) (m n : ℕ) → Ran a b p q m → Ran b c q r n → Ran a c p r (m + n)
ran_more a b c p q r m n one two = record {
  bytes = one.bytes ++ two.bytes;
  length_is = length-append one.bytes two.bytes ∙ omega (arith, one.length_is, two.length_is);
  read = Consumes-trans a.left b.left c.left one.bytes two.bytes one.read two.read;
  source_count = two.source_count ∙ one.source_count;
  fed = fed_then (sides_of a) (sides_of b) (sides_of c) p q r one.bytes two.bytes one.fed two.fed;
}

pub kept_is_consumed : (a b : Option (List ℕ)) → Keeps a b → Consumes a b []
kept_is_consumed None b k = tt
kept_is_consumed (Some x) None k = absurd k
kept_is_consumed (Some x) (Some y) k = sym k

-- the source failed
pub source_fell : {I K : Type 0} (a b : Outside I K) (p : Progress) → Keeps a.left b.left → Rose a.source_faults b.source_faults → b.taken ≡ a.taken → b.rows ≡ a.rows → FellReading a b p stop.Source
unfolding HasCause
source_fell a b p kept rose taken rows = record {
  bytes = [];
  read = kept_is_consumed a.left b.left kept;
  did = record {
    written = subst (λ (x : Option (List ℕ)). Appends a.taken x (text_all p [])) (sym taken) (text_none a.taken p);
    kept = subst (λ (x : Option (List Row)). AddsRows a.rows x (rows_all p [])) (sym rows) (rows_none a.rows p);
  };
  cause = rose;
}

-- what failed of the sink and the keeper, where the source didn't
pub cause_of : {I K : Type 0} (a b : Outside I K) (e : Stop) → b.source_faults ≡ a.source_faults → Failed (sides_of a) (sides_of b) e → HasCause a b (ended_by e)
unfolding HasCause
cause_of a b stop.Source same failed = absurd failed
cause_of a b stop.Sink same failed = failed.rose
cause_of a b stop.Keeper same failed = failed.rose
cause_of a b stop.Memory same failed = record { source = same; sides = failed }
cause_of a b stop.Endless same failed = absurd failed

-- bytes that were read ended the run
pub fell_reading : {I K : Type 0} (a b : Outside I K) (p : Progress) (bytes : List ℕ) (e : Stop) → FellAt (sides_of a) (sides_of b) p bytes e → b.source_faults ≡ a.source_faults → Consumes a.left b.left bytes
    → FellReading a b p e
fell_reading a b p bytes e fell same read = record { bytes = bytes; read = read; did = fell.did; cause = cause_of a b e same fell.cause }

pub cause_after : {I K : Type 0} (a b c : Outside I K) (e : Stop) → b.source_faults ≡ a.source_faults → SameCounts (sides_of a) (sides_of b) → HasCause b c (ended_by e) → HasCause a c (ended_by e)
unfolding HasCause
cause_after a b c stop.Source source same cause = subst (λ (n : ℕ). Rose n c.source_faults) source cause
cause_after a b c stop.Sink source same cause = subst (λ (n : ℕ). Rose n c.sink_faults) same.sink cause
cause_after a b c stop.Keeper source same cause = subst (λ (n : ℕ). Rose n c.keeper_faults) same.keeper cause
cause_after a b c stop.Memory source same cause = record { source = cause.source ∙ source; sides = counts_then (sides_of a) (sides_of b) (sides_of c) same cause.sides }
cause_after a b c stop.Endless source same cause = record { source = cause.source ∙ source; sides = counts_then (sides_of a) (sides_of b) (sides_of c) same cause.sides }

-- a run went on, and then it ended
pub ran_fell : {I K : Type 0} (a b c : Outside I K) (p q : Progress) (n : ℕ) (e : Stop) → Ran a b p q n → FellReading b c q e → FellReading a c p e
ran_fell a b c p q n e ran fell = record {
  bytes = ran.bytes ++ fell.bytes;
  read = Consumes-trans a.left b.left c.left ran.bytes fell.bytes ran.read fell.read;
  did = did_after (sides_of a) (sides_of b) (sides_of c) p q ran.bytes fell.bytes e ran.fed fell.did;
  cause = cause_after a b c e ran.source_count ran.fed.counts fell.cause;
}
