-- The lines of a statement add up to its new balance.
use Rattle.std.proofs.Common.{◌≡◌, ℕ, zero, suc, ◌+◌, ◌-◌, Bool, true, false, cond, List, [], ◌∷◌, ◌++◌, length, take, drop, refl, sym, ap, ◌∙◌, subst, arith, ℤ, pos, ◌+ℤ◌, Option, Some, None, eqb, append_assoc}
use Rattle.std.specs.Prelude.{min, ◌-ℤ◌}
use Rattle.std.specs.List.{All, filter, last_or}
use Rattle.std.proofs.lemmas.Bool.{eq-eqb, eqb-true}
use Rattle.std.proofs.lemmas.Int.{ints}
use Rattle.std.proofs.lemmas.List.{append-nil, drop_at, get_or_at, length_push, take_all}
use Rattle.std.proofs.lemmas.List.Elements.{All-head, All-tail, All-weaker, filter-append}
use Rattle.card_bounds.specs.Bounds.{interest_on}
use Rattle.card_bounds.specs.Places.{book_before}
use Rattle.card_bounds.proofs.CycleInterest.{cycles_have_their_interest}
use Rattle.card_bounds.proofs.Dated.{Added, Before, IsInterest, IsPlain, book-dates, close-added, posted-added, posted_on}
use Rattle.card_events.specs.Civil.{day_of_month}
use Rattle.card_events.specs.History.{anchor_of}
use Rattle.card_events.specs.SharedRows.{SharedRows}
use Rattle.card_events.specs.declared.kept.Kept.{Kept}
use Rattle.card_model.specs.Books.{Account, Book, account_of, present_cycle}
use Rattle.card_model.specs.Caps.{row_for}
use Rattle.card_model.specs.Closing.{Posting, close, closed_cycle, closing_interest, post_interest, post_one, posted_for, previous_of}
use Rattle.card_model.specs.Cycles.{Cycle, IssuedRow, Seen, amounts_sum, last_cycle, posts_on, seen_on}
use Rattle.card_model.specs.Entries.{credit_balance, debit, is_kind, owed, raises, sum_of}
use Rattle.card_model.specs.Folds.{book, book_after, cycle_at, day_after}
use Rattle.card_model.specs.Laws.{total}
use Rattle.card_model.specs.Segments.{SegmentTerms}
use Rattle.card_model.specs.declared.entry.Entry.{Entry}
use Rattle.card_model.specs.declared.entry.EntryKind.TheVariants as kind
use Rattle.card_model.proofs.Balance.{balance_identity}
use Rattle.card_model.proofs.Caps.{posts-cycles, due-cycles}
use Rattle.card_model.proofs.Cuts.{closings_are_cuts}
use Rattle.card_model.proofs.Posted.{sum_of-append}
use Rattle.card_statement.specs.Laws.{StatementsAddUp}
use Rattle.card_model.specs.Sheets.{cycle_entries, entries_by, moves_of, moves_owed, moves_sum, previous_balance, sheet_in, sheet_of}
use Rattle.card_statement.proofs.Chains.{Adds, Chain, chain-at, chain-longer, chain-push, cycle-take, prior-is}
use Rattle.card_statement.proofs.MoveSums.{is_hold, is_interest, kinds-sum, moves-sum, total-append, total-cons, total-nil}

-- ---- interest entries
-- entries that are none come to none
plain-total : (d : ℕ) (es : List Entry) → All (IsPlain d) es → total kind.Interest es ≡ 0
plain-total d [] h = total-nil
plain-total d (e ∷ es) h =
    let here = (All-head (IsPlain d) e es h).1 in
    let rest = plain-total d es (All-tail (IsPlain d) e es h) in
    total-cons e es ∙ (rw (here, rest) refl)

plain-signed : (d : ℕ) (es : List Entry) → All (IsPlain d) es → sum_of is_interest es ≡ pos 0
plain-signed d [] h = refl
plain-signed d (e ∷ es) h =
    let here = (All-head (IsPlain d) e es h).1 in
    let rest = plain-signed d es (All-tail (IsPlain d) e es h) in
    rw (here, rest) refl

-- the interest of a day among entries of other days, or that are none
none-on : (d : ℕ) (es : List Entry) → All (λ e. e.day ≡ d → is_kind kind.Interest e.kind ≡ false) es → interest_on d es ≡ 0
none-on d [] h = total-nil
none-on d (e ∷ es) h = by (eqb e.day d) refl (All-head (λ e. e.day ≡ d → is_kind kind.Interest e.kind ≡ false) e es h) (none-on d es (All-tail (λ e. e.day ≡ d → is_kind kind.Interest e.kind ≡ false) e es h))
  where
    by : (t : Bool) → eqb e.day d ≡ t → (e.day ≡ d → is_kind kind.Interest e.kind ≡ false) → interest_on d es ≡ 0 → total kind.Interest (cond t (e ∷ filter (λ e. eqb e.day d) es) (filter (λ e. eqb e.day d) es)) ≡ 0
    by true q o i = let none = o (eqb-true e.day d q) in total-cons e (filter (λ e. eqb e.day d) es) ∙ (rw (none, i) refl)
    by false q o i = i

on-append : (d : ℕ) (xs ys : List Entry) → interest_on d (xs ++ ys) ≡ interest_on d xs + interest_on d ys
on-append d xs ys = ap (total kind.Interest) (filter-append (λ (e : Entry). eqb e.day d) xs ys) ∙ total-append (filter (λ e. eqb e.day d) xs) (filter (λ e. eqb e.day d) ys)

-- entries of a day are all those of that day
of-day : (d : ℕ) (es : List Entry) → All (IsInterest d) es → filter (λ (e : Entry). eqb e.day d) es ≡ es
of-day d [] h = refl
of-day d (e ∷ es) h =
    let same = eq-eqb e.day d (All-head (IsInterest d) e es h).0 in
    let rest = of-day d es (All-tail (IsInterest d) e es h) in
    rw same (ap (λ l. e ∷ l) rest)

-- ---- interest is never below 0
abbrev Positive : List Entry → Type 0
Positive es = sum_of is_interest es ≡ pos (total kind.Interest es)

positive-append : (xs ys : List Entry) → Positive xs → Positive ys → Positive (xs ++ ys)
positive-append xs ys a b =
    let s = sum_of-append is_interest xs ys in
    let t = total-append xs ys in
    sums (sum_of is_interest (xs ++ ys)) (sum_of is_interest xs) (sum_of is_interest ys) (total kind.Interest xs) (total kind.Interest ys) (total kind.Interest (xs ++ ys)) s a b t
  where
    sums : (z u v : ℤ) (m n k : ℕ) → z ≡ u +ℤ v → u ≡ pos m → v ≡ pos n → k ≡ m + n → z ≡ pos k
    sums z u v m n k a b c d = omega (arith, ints)

raised-positive : (d s n : ℕ) → Positive (raises (record { day = d; kind = kind.Interest; post = 0 }) s n)
unfolding total
raised-positive d s zero = refl
raised-positive d s (suc n) = omega (arith, ints)

debit-positive : (d s x credit : ℕ) → Positive (debit (record { day = d; kind = kind.Interest; post = 0 }) s x credit)
unfolding debit
debit-positive d s x credit = positive-append _ _ (raised-positive d 0 (min x credit)) (raised-positive d s (x - credit))

interest-positive : (issued : Option IssuedRow) (seen : Seen) (amount : Book → SegmentTerms → ℕ) (gs : List SegmentTerms) (p : Posting) → Positive p.book.entries → Positive (post_interest issued seen amount gs p).book.entries
unfolding post_interest
interest-positive issued seen amount [] p h = h
interest-positive issued seen amount (g ∷ gs) p h =
    interest-positive issued seen amount gs (post_one seen g (posted_for issued amount g p) p)
    (positive-append p.book.entries _ h (debit-positive seen.day g.id (posted_for issued amount g p) (credit_balance p.book.entries)))

close-positive : (issued : Option IssuedRow) (a : Account) (seen : Seen) (b : Book) → Positive b.entries → Positive (close issued a seen b).entries
unfolding close closing_interest
close-positive issued a seen b h = interest-positive issued seen _ _ _ (interest-positive issued seen _ _ _ h)

posted-positive : (d : ℕ) (es new : List Entry) → Added (IsPlain d) es new → Positive es → Positive new
posted-positive d es new a h =
    let none : Positive a.rest = plain-signed d a.rest a.all ∙ ap pos (sym (plain-total d a.rest a.all)) in
    subst Positive (sym a.is) (positive-append es a.rest h none)

day-positive : (issued : Option IssuedRow) (a : Account) (seen : Seen) (b : Book) → Positive b.entries → Positive (day_after issued a seen b).entries
unfolding day_after
day-positive issued a seen b h =
    let posted = posted_on issued a seen b in
    let plain = posted-positive seen.day b.entries posted.entries (posted-added issued a seen b) h in
    by (eqb (day_of_month seen.day) a.anchor.close_day) (close-positive issued a seen posted plain) plain
  where
    by : (t : Bool) → Positive (close issued a seen (posted_on issued a seen b)).entries → Positive (posted_on issued a seen b).entries → Positive (cond t (close issued a seen (posted_on issued a seen b)) (posted_on issued a seen b)).entries
    by true g h = g
    by false g h = h

-- ---- what is known of a book
abbrev HasInterest : List Entry → Cycle → Type 0
HasInterest es c = amounts_sum c.interest ≡ interest_on c.closing es

-- its holds sum to 0, and its cycles have their interest
record Facts (b : Book) : Type 0 where
  pub holds : sum_of is_hold b.entries ≡ pos 0
  pub positive : Positive b.entries
  pub interest : All (HasInterest b.entries) b.cycles

-- its entries are those of the last closing, and others without interest
pub record Sums (b : Book) : Type 0 where
  pub chain : Chain b.entries None 1 b.cycles
  pub front : List Entry
  pub rest : List Entry
  pub is : b.entries ≡ front ++ rest
  pub count : length front ≡ entries_by (last_cycle b.cycles)
  pub owed : owed front ≡ previous_of (last_cycle b.cycles)
  pub holds : sum_of is_hold front ≡ pos 0
  pub positive : Positive front
  pub none : total kind.Interest rest ≡ 0

-- what a closing records
record Closed (d : ℕ) (b new : Book) (c : Cycle) : Type 0 where
  pub cycles : new.cycles ≡ b.cycles ++ c ∷ []
  pub number : c.number ≡ length b.cycles + 1
  pub closing : c.closing ≡ d
  pub previous : c.previous ≡ previous_of (last_cycle b.cycles)
  pub new_balance : c.new_balance ≡ owed new.entries
  pub entries : c.entries ≡ length new.entries

close-is : (issued : Option IssuedRow) (a : Account) (seen : Seen) (b : Book) → Closed seen.day b (close issued a seen b) (closed_cycle issued a seen b (closing_interest issued a seen b))
unfolding close
close-is issued a seen b = record { cycles = refl; number = refl; closing = refl; previous = refl; new_balance = refl; entries = refl }

-- ---- posts
posted-sums : (d : ℕ) (b new : Book) → Added (IsPlain d) b.entries new.entries → new.cycles ≡ b.cycles → Sums b → Sums new
posted-sums d b new a same s =
    let chain = subst (λ es. Chain es None 1 b.cycles) (sym a.is) (chain-longer b.entries a.rest None 1 b.cycles s.chain) in
    record {
      chain = subst (λ cs. Chain new.entries None 1 cs) (sym same) chain;
      front = s.front;
      rest = s.rest ++ a.rest;
      is = a.is ∙ (ap (λ l. l ++ a.rest) s.is ∙ append_assoc s.front s.rest a.rest);
      count = s.count ∙ ap (λ cs. entries_by (last_cycle cs)) (sym same);
      owed = s.owed ∙ ap (λ cs. previous_of (last_cycle cs)) (sym same);
      holds = s.holds;
      positive = s.positive;
      none = total-append s.rest a.rest ∙ (let x = s.none in let y = plain-total d a.rest a.all in omega arith);
    }

-- ---- a closing
last-pushed : (before : Option Cycle) (cs : List Cycle) (c : Cycle) → last_or before (cs ++ c ∷ []) ≡ Some c
last-pushed before [] c = refl
last-pushed before (d ∷ cs) c = last-pushed (Some d) cs c

last-has : (es : List Entry) (cs : List Cycle) (c : Cycle) → All (HasInterest es) (cs ++ c ∷ []) → HasInterest es c
last-has es cs c h =
    let n = length_push cs c in
    subst (HasInterest es) (get_or_at cs c [] c (length cs) refl) (h (length cs) c (omega arith))

-- what the entries behind the last closing come to
rest-sum : (front rest : List Entry) (n : ℕ) → sum_of is_hold front ≡ pos 0 → Positive front → sum_of is_hold (front ++ rest) ≡ pos 0 → Positive (front ++ rest) → total kind.Interest rest ≡ n
    → owed front +ℤ sum_of moves_owed rest +ℤ pos n ≡ owed (front ++ rest)
rest-sum front rest n h p hold positive t =
    let all = sum_of-append (λ e. true) front rest in
    let holds = sum_of-append is_hold front rest in
    let signed = sum_of-append is_interest front rest in
    let totals = total-append front rest in
    let kinds = kinds-sum rest in
    let r : sum_of is_hold rest ≡ pos 0 = less (sum_of is_hold (front ++ rest)) (sum_of is_hold front) (sum_of is_hold rest) holds h hold in
    let i : sum_of is_interest rest ≡ pos n = interest (sum_of is_interest (front ++ rest)) (sum_of is_interest front) (sum_of is_interest rest) (total kind.Interest front) (total kind.Interest (front ++ rest)) (total kind.Interest rest) n signed p positive totals t in
    whole (owed (front ++ rest)) (owed front) (owed rest) (sum_of moves_owed rest) (sum_of is_interest rest) (sum_of is_hold rest) n all kinds i r
  where
    less : (z u v : ℤ) → z ≡ u +ℤ v → u ≡ pos 0 → z ≡ pos 0 → v ≡ pos 0
    less z u v a b c = omega (arith, ints)

    interest : (z u v : ℤ) (m k l n : ℕ) → z ≡ u +ℤ v → u ≡ pos m → z ≡ pos k → k ≡ m + l → l ≡ n → v ≡ pos n
    interest z u v m k l n a b c d e = omega (arith, ints)

    whole : (z u v m i h : ℤ) (n : ℕ) → z ≡ u +ℤ v → v ≡ m +ℤ i +ℤ h → i ≡ pos n → h ≡ pos 0 → u +ℤ m +ℤ pos n ≡ z
    whole z u v m i h n a b c d = omega (arith, ints)

closed-sums : (d : ℕ) (b new : Book) (c : Cycle) → Closed d b new c → Added (IsInterest d) b.entries new.entries → interest_on d b.entries ≡ 0 → Sums b → Facts new → Sums new
closed-sums d b new c k a none s f =
    let rest = s.rest ++ a.rest in
    let is : new.entries ≡ s.front ++ rest = a.is ∙ (ap (λ l. l ++ a.rest) s.is ∙ append_assoc s.front s.rest a.rest) in
    let has : HasInterest new.entries c = last-has new.entries b.cycles c (subst (All (HasInterest new.entries)) k.cycles f.interest) in
    let day = ap (interest_on d) a.is ∙ on-append d b.entries a.rest in
    let late : interest_on d a.rest ≡ total kind.Interest a.rest = ap (total kind.Interest) (of-day d a.rest a.all) in
    let on : interest_on c.closing new.entries ≡ interest_on d new.entries = ap (λ n. interest_on n new.entries) k.closing in
    let split = total-append s.rest a.rest in
    let n : total kind.Interest rest ≡ amounts_sum c.interest = counted (total kind.Interest rest) (total kind.Interest s.rest) (total kind.Interest a.rest) (interest_on d a.rest) (interest_on d new.entries) (interest_on d b.entries) (interest_on c.closing new.entries) (amounts_sum c.interest) split s.none late day none on has in
    let holds = subst (λ es. sum_of is_hold es ≡ pos 0) is f.holds in
    let positive = subst Positive is f.positive in
    let sum = rest-sum s.front rest (amounts_sum c.interest) s.holds s.positive holds positive n in
    let before = last_cycle b.cycles in
    let all : take c.entries new.entries ≡ new.entries = take_all c.entries new.entries (let e = k.entries in omega arith) in
    let dropped : drop (entries_by before) (take c.entries new.entries) ≡ rest = ap (drop (entries_by before)) (all ∙ is) ∙ drop_at s.front rest (entries_by before) s.count in
    let balance : previous_of before +ℤ sum_of moves_owed (drop (entries_by before) (take c.entries new.entries)) +ℤ pos (amounts_sum c.interest) ≡ c.new_balance =
    ap (λ l. previous_of before +ℤ sum_of moves_owed l +ℤ pos (amounts_sum c.interest)) dropped
    ∙ (ap (λ z. z +ℤ sum_of moves_owed rest +ℤ pos (amounts_sum c.interest)) (sym s.owed) ∙ (sum ∙ (ap owed (sym is) ∙ sym k.new_balance))) in
    let adds : Adds new.entries before (length b.cycles + 1) c = record { number = k.number; within = let e = k.entries in omega arith; previous = k.previous; balance = balance; interest = ap (total kind.Interest) dropped ∙ n } in
    let chain = subst (λ es. Chain es None 1 b.cycles) (sym a.is) (chain-longer b.entries a.rest None 1 b.cycles s.chain) in
    let pushed = chain-push new.entries None 1 (length b.cycles + 1) b.cycles c refl chain adds in
    let last : last_cycle new.cycles ≡ Some c = ap last_cycle k.cycles ∙ last-pushed None b.cycles c in
    record {
      chain = subst (λ cs. Chain new.entries None 1 cs) (sym k.cycles) pushed;
      front = new.entries;
      rest = [];
      is = sym (append-nil new.entries);
      count = sym k.entries ∙ ap entries_by (sym last);
      owed = sym k.new_balance ∙ ap previous_of (sym last);
      holds = f.holds;
      positive = f.positive;
      none = total-nil;
    }
  where
    counted : (t r x late all before on n : ℕ) → t ≡ r + x → r ≡ 0 → late ≡ x → all ≡ before + late → before ≡ 0 → on ≡ all → n ≡ on → t ≡ n
    counted t r x late all before on n a b c d e f g = omega arith

-- none of today's interest stands before the closing
none-before : (issued : Option IssuedRow) (a : Account) (seen : Seen) (b : Book) → All (Before seen.day) b.entries → interest_on seen.day (posted_on issued a seen b).entries ≡ 0
none-before issued a seen b early =
    let added = posted-added issued a seen b in
    let none = λ (e : Entry). e.day ≡ seen.day → is_kind kind.Interest e.kind ≡ false in
    let first = none-on seen.day b.entries (All-weaker (Before seen.day) none (λ e l s. absurd (omega arith)) b.entries early) in
    let second = none-on seen.day added.rest (All-weaker (IsPlain seen.day) none (λ e q s. q.1) added.rest added.all) in
    ap (interest_on seen.day) added.is ∙ (on-append seen.day b.entries added.rest ∙ omega arith)

day-sums : (issued : Option IssuedRow) (a : Account) (seen : Seen) (b : Book) → All (Before seen.day) b.entries → Sums b → Facts (day_after issued a seen b) → Sums (day_after issued a seen b)
unfolding day_after
day-sums issued a seen b early s f =
    let posted = posted_on issued a seen b in
    let cycles : posted.cycles ≡ b.cycles = posts-cycles issued a seen (posts_on seen) _ ∙ due-cycles issued a seen b (last_cycle b.cycles) in
    by (eqb (day_of_month seen.day) a.anchor.close_day) (posted-sums seen.day b posted (posted-added issued a seen b) cycles s) (none-before issued a seen b early) f
  where
    by : (t : Bool) → Sums (posted_on issued a seen b) → interest_on seen.day (posted_on issued a seen b).entries ≡ 0 → Facts (cond t (close issued a seen (posted_on issued a seen b)) (posted_on issued a seen b))
        → Sums (cond t (close issued a seen (posted_on issued a seen b)) (posted_on issued a seen b))
    by true h none f =
        let posted = posted_on issued a seen b in
        closed-sums seen.day posted (close issued a seen posted) (closed_cycle issued a seen posted (closing_interest issued a seen posted)) (close-is issued a seen posted) (close-added issued a seen posted) none h f
    by false h none f = h

-- ---- the fold
fold-positive : (rows : List IssuedRow) (a : Account) (s : ℕ → Seen) (n : ℕ) → Positive (book_after rows a s n).entries
unfolding book_after
fold-positive rows a s zero = sym (ap pos total-nil)
fold-positive rows a s (suc n) = let b = book_after rows a s n in day-positive (row_for (present_cycle b) rows) a (s (a.anchor.opened + n)) b (fold-positive rows a s n)

next-book : (history : List Kept) (issued : List IssuedRow) (shared : SharedRows) (n : ℕ) → book history issued shared ((anchor_of history).opened + n) ≡ book_before history issued shared (suc n)
unfolding book
next-book history issued shared n =
    let days : (anchor_of history).opened + n + 1 - (anchor_of history).opened ≡ suc n = omega arith in
    ap (book_before history issued shared) days

fold-facts : (history : List Kept) (issued : List IssuedRow) (shared : SharedRows) (n : ℕ) → Facts (book_before history issued shared (suc n))
fold-facts history issued shared n =
    let day = (anchor_of history).opened + n in
    let b = book history issued shared day in
    let known : Facts b = record {
      holds = (balance_identity history issued shared day).holds;
      positive = subst (λ (b : Book). Positive b.entries) (sym (next-book history issued shared n)) (fold-positive issued (account_of history) (seen_on (anchor_of history) shared history issued) (suc n));
      interest = cycles_have_their_interest history issued shared day;
    } in
    subst Facts (next-book history issued shared n) known

fold-sums : (history : List Kept) (issued : List IssuedRow) (shared : SharedRows) (n : ℕ) → Sums (book_before history issued shared n)
unfolding book_after
fold-sums history issued shared zero = record { chain = tt; front = []; rest = []; is = refl; count = refl; owed = refl; holds = refl; positive = sym (ap pos total-nil); none = total-nil }
fold-sums history issued shared (suc n) =
    let acc = account_of history in
    let b = book_before history issued shared n in
    let s = seen_on (anchor_of history) shared history issued in
    day-sums (row_for (present_cycle b) issued) acc (s (acc.anchor.opened + n)) b (book-dates issued acc s n (λ d. refl)) (fold-sums history issued shared n) (fold-facts history issued shared n)

pub book-sums : (history : List Kept) (issued : List IssuedRow) (shared : SharedRows) (day : ℕ) → Sums (book history issued shared day)
unfolding book
book-sums history issued shared day = fold-sums history issued shared (day + 1 - (anchor_of history).opened)

-- ---- the sheet
sheet-adds : (previous old corrections moved now : ℤ) (n : ℕ) → corrections ≡ old -ℤ previous → old +ℤ moved +ℤ pos n ≡ now → previous +ℤ corrections +ℤ moved +ℤ pos n ≡ now
sheet-adds previous old corrections moved now n a b = omega (arith, ints)

pub statements_add_up : StatementsAddUp
unfolding sheet_of sheet_in
statements_add_up history issued shared day zero issue c e = let none : None ≡ Some c = e in absurd (cc)
statements_add_up history issued shared day (suc i) issue c e =
    let later = book history issued shared day in
    let at = book history issued shared c.closing in
    let cut = closings_are_cuts history issued shared day (suc i) c e in
    let adds = subst (λ o. Adds later.entries o (i + 1) c) (prior-is later.cycles i) (chain-at later.entries None 1 i later.cycles c (book-sums history issued shared day).chain e) in
    let number : c.number - 1 ≡ i = let n = adds.number in omega arith in
    let before : cycle_at (c.number - 1) at.cycles ≡ cycle_at i later.cycles =
    ap (λ n. cycle_at n at.cycles) number ∙ (ap (cycle_at i) (sym cut.cycles) ∙ cycle-take later.cycles (suc i) i (omega arith)) in
    let entries : cycle_entries c at ≡ drop (entries_by (cycle_at i later.cycles)) (take c.entries later.entries) =
    ap (λ o. drop (entries_by o) at.entries) before ∙ ap (drop (entries_by (cycle_at i later.cycles))) (sym cut.entries) in
    let moved = moves-sum (cycle_entries c at) ∙ ap (sum_of moves_owed) entries in
    sheet-adds (previous_balance issued c) c.previous (c.previous -ℤ previous_balance issued c) (moves_sum (moves_of (cycle_entries c at))) c.new_balance (amounts_sum c.interest) refl
    (ap (λ z. c.previous +ℤ z +ℤ pos (amounts_sum c.interest)) moved
    ∙ (ap (λ z. z +ℤ sum_of moves_owed (drop (entries_by (cycle_at i later.cycles)) (take c.entries later.entries)) +ℤ pos (amounts_sum c.interest)) adds.previous ∙ adds.balance))
