-- A penalty begins only of an account that is sixty days late.
use Rattle.std.proofs.Common.{◌≡◌, ℕ, zero, suc, ◌+◌, ◌-◌, ◌≤◌, ◌<◌, Bool, true, false, cond, ◌&&◌, List, [], ◌∷◌, ◌++◌, map, eqb, leb, ltb, refl, sym, ap, ◌∙◌, subst, arith, Option, Some, None}
use Rattle.std.proofs.lemmas.Bool.{eqb-true}
use Rattle.std.proofs.lemmas.Bool.Decides.{nat_tests}
use Rattle.std.proofs.lemmas.List.Elements.{All-nil, All-cons, All-head, All-tail, All-append, All-contains, All-contains_itself, All-filter, All-map, All-weaker, Contains-append_left}
use Rattle.std.proofs.lemmas.List.Folds.{Any-from_list_any}
use Rattle.std.specs.Prelude.{nat_lt}
use Rattle.std.specs.List.{All, Contains, list_all}
use Rattle.card_events.specs.Civil.{day_of_month}
use Rattle.card_events.specs.History.{CorrectedPost, anchor_of, corrected, is_folded}
use Rattle.card_events.specs.SharedRows.{SharedRows}
use Rattle.card_events.specs.declared.kept.Kept.{Kept}
use Rattle.card_events.specs.declared.post.Post.{Post}
use Rattle.card_events.specs.declared.post.Post.TheVariants as post
use Rattle.card_fees.proofs.Fold.{counted-seen}
use Rattle.card_model.proofs.Caps.{due-cycles, effect-cycles, posts-cycles}
use Rattle.card_model.proofs.Penalties.{due-by}
use Rattle.card_model.specs.Books.{Account, Book, account_of, present_cycle}
use Rattle.card_model.specs.Caps.{row_for}
use Rattle.card_model.specs.Closing.{close, closed_cycle, closing_interest}
use Rattle.card_model.specs.Cycles.{Cycle, IssuedRow, Seen, last_cycle, posts_on, seen_on}
use Rattle.card_model.specs.DueDates.{awaits_end, cured_by, due_after_day, on_due}
use Rattle.card_model.specs.Effects.{after_posts, effect, meant_for, payment_at, returned, returned_fee}
use Rattle.card_model.specs.Fees.{with_fee}
use Rattle.card_model.specs.Folds.{book, book_after, day_after}
use Rattle.card_model.specs.Payments.{counted, has_due_payment, is_timely, met, owes_sixty_days, sixty_days_late}
use Rattle.card_model.specs.declared.fee.Fee.{Fee}
use Rattle.card_model.specs.declared.segment.Interval.{Interval}
use Rattle.card_rates.proofs.Unchanged.{and-parts}
use Rattle.card_rules.proofs.PenaltyFees.{any-kept}
use Rattle.card_rules.proofs.Waits.{IsOfItsDay, IsPostOf, days-are, of-day}
use Rattle.card_rules.specs.SixtyDays.{IsOfSixtyDays, PenaltiesAreOfSixtyDays}

low-is : (n m : ℕ) → leb n m ≡ true → n ≤ m
low-is n m e = grind (arith, nat_tests)

less-is : (n m : ℕ) → ltb n m ≡ true → n < m
less-is n m e = grind (arith, nat_tests)

three-parts : (p h : Bool) (n minimum : ℕ) → (p && ltb n (cond h minimum 0)) ≡ true → (p ≡ true) × (h ≡ true) × (ltb n minimum ≡ true)
three-parts true true n minimum e = (refl, refl, e)
three-parts true false n minimum e = let l = less-is n 0 e in absurd (omega arith)
three-parts false h n minimum e = absurd (cc)

-- an end changes nothing of it
ended : (issued : List IssuedRow) (posts : List CorrectedPost) (cs : List Cycle) (i : Interval) (last : Option ℕ) → IsOfSixtyDays issued posts cs i → IsOfSixtyDays issued posts cs (record { begins = i.begins; last = last })
ended issued posts cs i last h = record {
  announced = h.announced;
  accepted = h.accepted;
  is = h.is;
  begins = h.begins;
  cycle = h.cycle;
  closed = h.closed;
  statement = h.statement;
  was_issued = h.was_issued;
  of_cycle = h.of_cycle;
  in_time = h.in_time;
  long_past = h.long_past;
  fell_short = h.fell_short;
}

-- nor does one more cycle
longer : (issued : List IssuedRow) (posts : List CorrectedPost) (cs : List Cycle) (c : Cycle) (i : Interval) → IsOfSixtyDays issued posts cs i → IsOfSixtyDays issued posts (cs ++ c ∷ []) i
longer issued posts cs c i h = record {
  announced = h.announced;
  accepted = h.accepted;
  is = h.is;
  begins = h.begins;
  cycle = h.cycle;
  closed = Contains-append_left cs (c ∷ []) h.cycle h.closed;
  statement = h.statement;
  was_issued = h.was_issued;
  of_cycle = h.of_cycle;
  in_time = h.in_time;
  long_past = h.long_past;
  fell_short = h.fell_short;
}

module _ (history : List Kept) (issued : List IssuedRow) (shared : SharedRows) where
  abbrev posts : List CorrectedPost
  posts = corrected (anchor_of history) shared.holidays history

  abbrev sees : ℕ → Seen
  sees d = seen_on (anchor_of history) shared history issued d

  abbrev Holds : List Cycle → Interval → Type 0
  Holds cs i = IsOfSixtyDays issued posts cs i

  days : All IsOfItsDay posts
  days = days-are (anchor_of history) shared.holidays history 1 5 history

  fresh : (d : ℕ) (cs : List Cycle) (s : CorrectedPost) → IsPostOf posts d s → s.post ≡ post.Penalty → sixty_days_late (sees d) cs ≡ true → Holds cs (record { begins = d + 45; last = None })
  unfolding sixty_days_late
  fresh d cs s p e late =
      let own = All-contains IsOfItsDay posts s days p.there e in
      let on = p.on in
      let is : s.accepted ≡ d = omega (arith, own, on) in
      let some = Any-from_list_any (owes_sixty_days (sees d)) cs late in
      let c = some.1 in
      let parts = three-parts (ltb (c.due + 60) d) (has_due_payment (sees d).issued c) (counted (sees d).posts (c.closing + 1) d) c.minimum some.4 in
      let row = Any-from_list_any (is_timely c) issued (any-kept (is_timely c) (λ (r : IssuedRow). nat_lt r.day d) issued parts.1) in
      let timely = and-parts (eqb row.1.cycle c.number) (leb (row.1.day + 21) c.due) row.4 in
      let same = counted-seen (sees d) posts (c.closing + 1) d refl (omega arith) in
      let past = less-is (c.due + 60) d parts.0 in
      let short = less-is (counted (sees d).posts (c.closing + 1) d) c.minimum parts.2 in
      let at : counted posts (c.closing + 1) s.accepted ≡ counted posts (c.closing + 1) d = ap (counted posts (c.closing + 1)) is in
      record {
        announced = s;
        accepted = p.there;
        is = e;
        begins = omega (arith, is);
        cycle = c;
        closed = (some.0, some.2, some.3);
        statement = row.1;
        was_issued = (row.0, row.2, row.3);
        of_cycle = eqb-true row.1.cycle c.number timely.0;
        in_time = low-is (row.1.day + 21) c.due timely.1;
        long_past = omega (arith, is, past);
        fell_short = omega (arith, short, same, at);
      }

  new-holds : (d : ℕ) (cs : List Cycle) (s : CorrectedPost) (t : Bool) (is : List Interval) → sixty_days_late (sees d) cs ≡ t → IsPostOf posts d s → s.post ≡ post.Penalty → All (Holds cs) is
      → All (Holds cs) (cond t (is ++ record { begins = d + 45; last = None } ∷ []) is)
  new-holds d cs s false is late p e h = h
  new-holds d cs s true is late p e h =
      All-append (Holds cs) is _ h (All-cons (Holds cs) (record { begins = d + 45; last = None }) [] (fresh d cs s p e late) (All-nil (Holds cs)))

  fee-holds : (a : Account) (d n : ℕ) (cs : List Cycle) (o : Option Fee) (b : Book) → All (Holds cs) b.penalties → All (Holds cs) (with_fee a (sees d) n o b).penalties
  fee-holds a d n cs None b h = h
  fee-holds a d n cs (Some f) b h = h

  effect-holds : (row : Option IssuedRow) (a : Account) (d : ℕ) (cs : List Cycle) (s : CorrectedPost) (p : Post) (b : Book) → b.cycles ≡ cs → IsPostOf posts d s → s.post ≡ p → All (Holds cs) b.penalties
      → All (Holds cs) (effect row a (sees d) s p b).penalties
  unfolding effect
  effect-holds row a d cs s post.Penalty b c o e h = new-holds d cs s (sixty_days_late (sees d) b.cycles) b.penalties (ap (sixty_days_late (sees d)) (sym c)) o e h
  effect-holds row a d cs s (post.Return day target) b c o e h = fee-holds a d s.number cs (returned_fee row (sees d) b (meant_for b.cycles (payment_at target (sees d).posts))) (returned a (sees d) s.number target b) h
  effect-holds row a d cs s (post.Charge day p n) b c o e h = h
  effect-holds row a d cs s (post.Payment day m y n) b c o e h = h
  effect-holds row a d cs s (post.Credit day p n) b c o e h = h
  effect-holds row a d cs s (post.Dispute day target claim) b c o e h = h
  effect-holds row a d cs s (post.Resolve day target n) b c o e h = h
  effect-holds row a d cs s (post.Refund n) b c o e h = h
  effect-holds row a d cs s (post.Open day t) b c o e h = h
  effect-holds row a d cs s (post.OpenVariable day t) b c o e h = h
  effect-holds row a d cs s (post.Plan day k r f g) b c o e h = h
  effect-holds row a d cs s (post.Notice day k r f) b c o e h = h
  effect-holds row a d cs s (post.Lower day k r) b c o e h = h
  effect-holds row a d cs s (post.Review day f) b c o e h = h
  effect-holds row a d cs s (post.Ack day t) b c o e h = h
  effect-holds row a d cs s (post.AskRefund day) b c o e h = h
  effect-holds row a d cs s (post.Amend t day n) b c o e h = h
  effect-holds row a d cs s (post.Bill k) b c o e h = h

  posts-hold : (row : Option IssuedRow) (a : Account) (d : ℕ) (cs : List Cycle) (ss : List CorrectedPost) (b : Book) → b.cycles ≡ cs → All (IsPostOf posts d) ss → All (Holds cs) b.penalties
      → All (Holds cs) (after_posts row a (sees d) ss b).penalties
  unfolding after_posts
  posts-hold row a d cs [] b c o h = h
  posts-hold row a d cs (s ∷ ss) b c o h =
      posts-hold row a d cs ss (effect row a (sees d) s s.post b) (effect-cycles row a (sees d) s s.post b ∙ c) (All-tail (IsPostOf posts d) s ss o)
      (effect-holds row a d cs s s.post b c (All-head (IsPostOf posts d) s ss o) refl h)

  cured-holds : (d : ℕ) (cs cycles : List Cycle) (due : ℕ) (is : List Interval) → All (Holds cs) is → All (Holds cs) (map (cured_by (sees d) cycles due) is)
  cured-holds d cs cycles due is h =
      All-map (Holds cs) (cured_by (sees d) cycles due) is
      (All-weaker (Holds cs) (λ (i : Interval). Holds cs (cured_by (sees d) cycles due i)) (λ i j. by i j (awaits_end cycles i && list_all (met (sees d)) (due_after_day i.begins cycles))) is h)
    where
      by : (i : Interval) → Holds cs i → (t : Bool) → Holds cs (cond t (record { begins = i.begins; last = Some due }) i)
      by i j true = ended issued posts cs i (Some due) j
      by i j false = j

  close-holds : (row : Option IssuedRow) (a : Account) (d : ℕ) (b : Book) → All (Holds b.cycles) b.penalties → All (Holds (close row a (sees d) b).cycles) (close row a (sees d) b).penalties
  unfolding close
  close-holds row a d b h = All-weaker (Holds b.cycles) (Holds (b.cycles ++ closed_cycle row a (sees d) b (closing_interest row a (sees d) b) ∷ [])) (longer issued posts b.cycles (closed_cycle row a (sees d) b (closing_interest row a (sees d) b))) b.penalties h

  abbrev due-book : Option IssuedRow → Account → ℕ → Book → Book
  due-book row a d b = on_due row a (sees d) b (last_cycle b.cycles)

  abbrev later-book : Option IssuedRow → Account → ℕ → Book → Book
  later-book row a d b = after_posts row a (sees d) (posts_on (sees d)) (due-book row a d b)

  later-cycles : (row : Option IssuedRow) (a : Account) (d : ℕ) (b : Book) → (later-book row a d b).cycles ≡ b.cycles
  later-cycles row a d b = posts-cycles row a (sees d) (posts_on (sees d)) (due-book row a d b) ∙ due-cycles row a (sees d) b (last_cycle b.cycles)

  later-holds : (row : Option IssuedRow) (a : Account) (d : ℕ) (b : Book) → All (IsPostOf posts d) (posts_on (sees d)) → All (Holds b.cycles) b.penalties → All (Holds (later-book row a d b).cycles) (later-book row a d b).penalties
  later-holds row a d b o h =
      subst (λ cs. All (Holds cs) (later-book row a d b).penalties) (sym (later-cycles row a d b))
      (posts-hold row a d b.cycles (posts_on (sees d)) (due-book row a d b) (due-cycles row a (sees d) b (last_cycle b.cycles)) o
      (due-by (All (Holds b.cycles)) row a (sees d) b (last_cycle b.cycles) h (λ c e. cured-holds d b.cycles b.cycles c.due b.penalties h)))

  day-holds : (row : Option IssuedRow) (a : Account) (d : ℕ) (b : Book) → All (IsPostOf posts d) (posts_on (sees d)) → All (Holds b.cycles) b.penalties → All (Holds (day_after row a (sees d) b).cycles) (day_after row a (sees d) b).penalties
  unfolding day_after
  day-holds row a d b o h = by (eqb (day_of_month d) a.anchor.close_day) (later-holds row a d b o h)
    where
      by : (t : Bool) → All (Holds (later-book row a d b).cycles) (later-book row a d b).penalties
          → All (Holds (cond t (close row a (sees d) (later-book row a d b)) (later-book row a d b)).cycles) (cond t (close row a (sees d) (later-book row a d b)) (later-book row a d b)).penalties
      by true k = close-holds row a d (later-book row a d b) k
      by false k = k

  book-holds : (n : ℕ) → ((d : ℕ) → All (IsPostOf posts d) (posts_on (sees d))) → All (Holds (book_after issued (account_of history) sees n).cycles) (book_after issued (account_of history) sees n).penalties
  unfolding book_after
  book-holds zero o = All-nil (Holds [])
  book-holds (suc n) o =
      let b = book_after issued (account_of history) sees n in
      day-holds (row_for (present_cycle b) issued) (account_of history) ((anchor_of history).opened + n) b (o ((anchor_of history).opened + n)) (book-holds n o)

pub penalties_are_of_sixty_days : PenaltiesAreOfSixtyDays
unfolding book
penalties_are_of_sixty_days history issued shared day =
    book-holds history issued shared (day + 1 - (anchor_of history).opened)
    (λ d. of-day (corrected (anchor_of history) shared.holidays history) d _ (All-filter (λ (p : CorrectedPost). leb p.day d) (Contains (corrected (anchor_of history) shared.holidays history)) _
    (All-filter (λ (p : CorrectedPost). is_folded p.post) (Contains (corrected (anchor_of history) shared.holidays history)) (corrected (anchor_of history) shared.holidays history) (All-contains_itself (corrected (anchor_of history) shared.holidays history)))))
