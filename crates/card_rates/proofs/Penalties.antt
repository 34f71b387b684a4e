-- The penalties in force on a day stand alike in the books of all later days.
use Rattle.std.proofs.Common.{◌≡◌, append-nil, ℕ, zero, suc, ◌+◌, ◌-◌, ◌<◌, ◌≤◌, Bool, true, false, cond, ◌&&◌, not, List, [], ◌∷◌, ◌++◌, map, length, refl, ap, ◌∙◌, arith, eqb, Option, Some, None}
use Rattle.std.proofs.lemmas.Bool.{eqb-true}
use Rattle.std.proofs.lemmas.List.Elements.{filter_map-append}
use Rattle.std.specs.Prelude.{is_some}
use Rattle.std.specs.List.{filter_map, cons_option, list_all}
use Rattle.card_events.specs.Civil.{day_of_month}
use Rattle.card_events.specs.History.{CorrectedPost, anchor_of}
use Rattle.card_events.specs.SharedRows.{SharedRows}
use Rattle.card_events.specs.declared.kept.Kept.{Kept}
use Rattle.card_events.specs.declared.post.Post.{Post}
use Rattle.card_events.specs.declared.post.Post.TheVariants as post
use Rattle.card_model.specs.Books.{Account, Book, account_of, present_cycle}
use Rattle.card_model.specs.Caps.{row_for}
use Rattle.card_model.specs.Closing.{close}
use Rattle.card_model.specs.Cycles.{Cycle, IssuedRow, Seen, last_cycle, posts_on, seen_on}
use Rattle.card_model.specs.DueDates.{after_due_date, cured_by, due_after_day, on_due}
use Rattle.card_model.specs.Effects.{after_posts, effect, meant_for, payment_at, returned, returned_fee}
use Rattle.card_model.specs.Fees.{with_fee}
use Rattle.card_model.specs.Folds.{book, book_after, day_after}
use Rattle.card_model.specs.Payments.{met, sixty_days_late}
use Rattle.card_model.specs.Rates.{start_of, starts}
use Rattle.card_model.specs.declared.fee.Fee.{Fee}
use Rattle.card_model.specs.declared.segment.Interval.{Interval}
use Rattle.card_rates.proofs.LaterPosts.{no-leb, yes-leb}
use Rattle.card_rates.specs.Laws.{PenaltiesStay}

-- one that is cured later counts alike
cured-last : (x due : ℕ) (i : Interval) (l : Option ℕ) (six all : Bool) → x ≤ due → i.last ≡ l
    → start_of x (cond ((not (is_some l) && six) && all) (record { begins = i.begins; last = Some due }) i) ≡ start_of x i
cured-last x due i (Some d) six all l e = refl
cured-last x due i None true true l e = rw (e, yes-leb x due l) refl
cured-last x due i None true false l e = refl
cured-last x due i None false all l e = refl

cured-starts : (x : ℕ) (f : Interval → Interval) → ((i : Interval) → start_of x (f i) ≡ start_of x i) → (is : List Interval) → starts x (map f is) ≡ starts x is
unfolding starts
cured-starts x f e [] = refl
cured-starts x f e (i ∷ is) = ap (λ o. cons_option o (filter_map (start_of x) (map f is))) (e i) ∙ ap (cons_option (start_of x i)) (cured-starts x f e is)

pub fee-penalties : (a : Account) (seen : Seen) (n : ℕ) (o : Option Fee) (b : Book) → (with_fee a seen n o b).penalties ≡ b.penalties
fee-penalties a seen n None b = refl
fee-penalties a seen n (Some f) b = refl

due-starts : (x : ℕ) (issued : Option IssuedRow) (a : Account) (seen : Seen) (b : Book) (c : Option Cycle) → x < seen.day → starts x (on_due issued a seen b c).penalties ≡ starts x b.penalties
unfolding on_due
due-starts x issued a seen b None l = refl
due-starts x issued a seen b (Some c) l = by (eqb seen.day (c.due + 1)) refl
  where
    cured : x ≤ c.due → (i : Interval) → start_of x (cured_by seen b.cycles c.due i) ≡ start_of x i
    cured m i = let dues = due_after_day i.begins b.cycles in cured-last x c.due i i.last (eqb (length dues) 6) (list_all (met seen) dues) m refl

    by : (t : Bool) → eqb seen.day (c.due + 1) ≡ t → starts x (cond t (after_due_date issued a seen b c) b).penalties ≡ starts x b.penalties
    by true e = let d : seen.day ≡ c.due + 1 = eqb-true seen.day (c.due + 1) e in cured-starts x (cured_by seen b.cycles c.due) (cured (omega arith)) b.penalties
    by false e = refl

-- one that begins later doesn't count
new-starts : (x : ℕ) (i : Interval) (is : List Interval) → x < i.begins → starts x (is ++ i ∷ []) ≡ starts x is
unfolding starts
new-starts x i is l = filter_map-append (start_of x) is (i ∷ []) ∙ rw (no-leb i.begins x l) (append-nil (filter_map (start_of x) is))

effect-starts : (x : ℕ) (issued : Option IssuedRow) (a : Account) (seen : Seen) (s : CorrectedPost) (p : Post) (b : Book) → x < seen.day + 45 → starts x (effect issued a seen s p b).penalties ≡ starts x b.penalties
unfolding effect
effect-starts x issued a seen s post.Penalty b l = by (sixty_days_late seen b.cycles)
  where
    by : (t : Bool) → starts x (cond t (b.penalties ++ record { begins = seen.day + 45; last = None } ∷ []) b.penalties) ≡ starts x b.penalties
    by true = new-starts x (record { begins = seen.day + 45; last = None }) b.penalties (omega arith)
    by false = refl
effect-starts x issued a seen s (post.Return d target) b l = ap (starts x) (fee-penalties a seen s.number (returned_fee issued seen b (meant_for b.cycles (payment_at target seen.posts))) (returned a seen s.number target b))
effect-starts x issued a seen s (post.Charge d p n) b l = refl
effect-starts x issued a seen s (post.Payment d m c n) b l = refl
effect-starts x issued a seen s (post.Credit d p n) b l = refl
effect-starts x issued a seen s (post.Dispute d target claim) b l = refl
effect-starts x issued a seen s (post.Resolve d target c) b l = refl
effect-starts x issued a seen s (post.Refund n) b l = refl
effect-starts x issued a seen s (post.Open d t) b l = refl
effect-starts x issued a seen s (post.OpenVariable d t) b l = refl
effect-starts x issued a seen s (post.Plan d k r e f) b l = refl
effect-starts x issued a seen s (post.Notice d c r e) b l = refl
effect-starts x issued a seen s (post.Lower d c r) b l = refl
effect-starts x issued a seen s (post.Review d f) b l = refl
effect-starts x issued a seen s (post.Ack d t) b l = refl
effect-starts x issued a seen s (post.AskRefund d) b l = refl
effect-starts x issued a seen s (post.Amend t d c) b l = refl
effect-starts x issued a seen s (post.Bill c) b l = refl

-- rates of a payment are read in the midst of a day: there too
pub posts-starts : (x : ℕ) (issued : Option IssuedRow) (a : Account) (seen : Seen) (ss : List CorrectedPost) (b : Book) → x < seen.day + 45 → starts x (after_posts issued a seen ss b).penalties ≡ starts x b.penalties
unfolding after_posts
posts-starts x issued a seen [] b l = refl
posts-starts x issued a seen (s ∷ ss) b l = posts-starts x issued a seen ss (effect issued a seen s s.post b) l ∙ effect-starts x issued a seen s s.post b l

close-penalties : (issued : Option IssuedRow) (a : Account) (seen : Seen) (b : Book) → (close issued a seen b).penalties ≡ b.penalties
unfolding close
close-penalties issued a seen b = refl

day-starts : (x : ℕ) (issued : Option IssuedRow) (a : Account) (seen : Seen) (b : Book) → x < seen.day → starts x (day_after issued a seen b).penalties ≡ starts x b.penalties
unfolding day_after
day-starts x issued a seen b l =
    let due = on_due issued a seen b (last_cycle b.cycles) in
    let posted = after_posts issued a seen (posts_on seen) due in
    by (eqb (day_of_month seen.day) a.anchor.close_day) ∙ (posts-starts x issued a seen (posts_on seen) due (omega arith) ∙ due-starts x issued a seen b (last_cycle b.cycles) l)
  where
    by : (t : Bool) → starts x (cond t (close issued a seen (after_posts issued a seen (posts_on seen) (on_due issued a seen b (last_cycle b.cycles)))) (after_posts issued a seen (posts_on seen) (on_due issued a seen b (last_cycle b.cycles)))).penalties
        ≡ starts x (after_posts issued a seen (posts_on seen) (on_due issued a seen b (last_cycle b.cycles))).penalties
    by true = ap (starts x) (close-penalties issued a seen (after_posts issued a seen (posts_on seen) (on_due issued a seen b (last_cycle b.cycles))))
    by false = refl

after-starts : (x : ℕ) (rows : List IssuedRow) (a : Account) (s : ℕ → Seen) → ((d : ℕ) → (s d).day ≡ d) → (m k n : ℕ) → n ≡ k + m → x < a.anchor.opened + m → starts x (book_after rows a s n).penalties ≡ starts x (book_after rows a s m).penalties
unfolding book_after
after-starts x rows a s e m zero n same l = let e : n ≡ m = omega arith in ap (λ n. starts x (book_after rows a s n).penalties) e
after-starts x rows a s e m (suc k) zero same l = absurd (omega arith)
after-starts x rows a s e m (suc k) (suc n) same l =
    let before = book_after rows a s n in
    let d = e (a.anchor.opened + n) in
    day-starts x (row_for (present_cycle before) rows) a (s (a.anchor.opened + n)) before (omega (arith, d)) ∙ after-starts x rows a s e m k n (omega arith) l

pub book-starts : (history : List Kept) (issued : List IssuedRow) (shared : SharedRows) (x y : ℕ) → x ≤ y → starts x (book history issued shared y).penalties ≡ starts x (book history issued shared x).penalties
unfolding book
book-starts history issued shared x y l =
    let o = (anchor_of history).opened in
    let s = seen_on (anchor_of history) shared history issued in
    let days : y + 1 - o ≡ (y + 1 - o - (x + 1 - o)) + (x + 1 - o) = omega arith in
    after-starts x issued (account_of history) s (λ d. refl) (x + 1 - o) (y + 1 - o - (x + 1 - o)) (y + 1 - o) days (omega arith)

pub penalties_stay : PenaltiesStay
penalties_stay = record {
  due = λ issued a seen b c day l. due-starts day issued a seen b c l;
  posts = λ issued a seen ps b day l. posts-starts day issued a seen ps b (omega (arith, l));
  closing = close-penalties;
  books = book-starts;
}
