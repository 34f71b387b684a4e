-- The fold of an account with fixed rates reads no index row.
use Rattle.std.proofs.Common.{◌≡◌, ℕ, zero, suc, ◌+◌, ◌*◌, ◌-◌, false, cond, eqb, List, [], ◌∷◌, refl, sym, ap, ◌∙◌, Option, Some, None}
use Rattle.std.specs.Prelude.{map, min}
use Rattle.std.specs.List.{filter_map, sum_by}
use Rattle.std.proofs.lemmas.List.Sums.{sum_by-cons}
use Rattle.card_events.specs.Civil.{day_of_month}
use Rattle.card_events.specs.History.{CorrectedPost}
use Rattle.card_events.specs.declared.post.Place.{Place}
use Rattle.card_events.specs.declared.post.Post.{Post}
use Rattle.card_events.specs.declared.post.Post.TheVariants as post
use Rattle.card_model.specs.Allocation.{allocated, placed}
use Rattle.card_model.specs.Books.{Account, Book, all_segments, note_of, present_cycle, rate_in, with_all_entries, with_cycle, with_entries, with_penalties}
use Rattle.card_model.specs.Caps.{row_for}
use Rattle.card_model.specs.Closing.{Posting, close, closed_cycle, closing_interest, first_day_of, grace_amount, minimum_of, minimum_payment, nonzero, net_balance, post_interest, post_one, posted_for, purchase_case_in}
use Rattle.card_model.specs.Cycles.{Cycle, IssuedRow, Seen, amounts_sum, last_cycle, posts_on}
use Rattle.card_model.specs.DueDates.{cured_by, on_due}
use Rattle.card_model.specs.Effects.{after_posts, credit_parts, effect, holding, holdings, meant_for, parts_entries, payment_at, payment_parts, returned, returned_fee}
use Rattle.card_model.specs.Fees.{fee_by, fees_in, fees_sum, late_fee, with_fee}
use Rattle.card_model.specs.Folds.{book_after, day_after}
use Rattle.card_model.specs.Interest.{average_balance, accrual, case_of, charged, charged_on, cycle_interest, days_from, deferred_interest, half_up, interest_sum, purchase_case}
use Rattle.card_events.specs.Money.{daily, interest}
use Rattle.card_model.specs.Payments.{is_met, is_paid, minimum_left, past_due, sixty_days_late}
use Rattle.card_model.specs.Segments.{SegmentTerms}
use Rattle.card_model.specs.declared.entry.Entry.{Entry}
use Rattle.card_model.specs.declared.entry.EntryKind.TheVariants as kind
use Rattle.card_model.specs.declared.fee.Fee.{Fee}
use Rattle.card_model.specs.declared.grace.GraceCase.{GraceCase}
use Rattle.card_model.specs.declared.grace.GraceCase.TheVariants as case
use Rattle.card_model.specs.declared.holding.Holding.{Holding}

-- what may be seen, without index rows
abbrev pub without_index : Seen → Seen
without_index seen = record { day = seen.day; posts = seen.posts; fees = seen.fees; index = []; issued = seen.issued }

pub sum-agree : {A : Type 0} (f g : A → ℕ) → ((x : A) → f x ≡ g x) → (xs : List A) → sum_by f xs ≡ sum_by g xs
sum-agree f g h [] = refl
sum-agree f g h (x ∷ xs) = sum_by-cons f x xs ∙ (rw (h x, sum-agree f g h xs) (sym (sum_by-cons g x xs)))

pub map-agree : {A B : Type 0} (f g : A → B) → ((x : A) → f x ≡ g x) → (xs : List A) → map f xs ≡ map g xs
map-agree f g h [] = refl
map-agree f g h (x ∷ xs) = rw (h x, map-agree f g h xs) refl

pub filter_map-agree : {A B : Type 0} (f g : A → Option B) → ((x : A) → f x ≡ g x) → (xs : List A) → filter_map f xs ≡ filter_map g xs
filter_map-agree f g h [] = refl
filter_map-agree f g h (x ∷ xs) = rw (h x, filter_map-agree f g h xs) refl

-- ---- what looks at posts, fee rows and issued rows alone
fee-blind : (a : Account) (seen : Seen) (n : ℕ) (f : Option Fee) (b : Book) → with_fee a seen n f b ≡ with_fee a (without_index seen) n f b
fee-blind a seen n None b = refl
fee-blind a seen n (Some f) b = refl

due-blind : (row : Option IssuedRow) (a : Account) (seen : Seen) (b : Book) (c : Option Cycle) → on_due row a seen b c ≡ on_due row a (without_index seen) b c
unfolding on_due is_met fee_by
due-blind row a seen b None = refl
due-blind row a seen b (Some c) =
    ap (λ (x : Book). cond (eqb seen.day (c.due + 1)) (with_penalties (map (cured_by seen b.cycles c.due) b.penalties) x) b) (fee-blind a seen 0 (late_fee row seen b c) b)

returned-blind : (row : Option IssuedRow) (seen : Seen) (b : Book) (c : Option Cycle) → returned_fee row seen b c ≡ returned_fee row (without_index seen) b c
unfolding fee_by
returned-blind row seen b None = refl
returned-blind row seen b (Some c) = refl

left-blind : (seen : Seen) (p : CorrectedPost) (c : Option Cycle) → minimum_left seen p c ≡ minimum_left (without_index seen) p c
left-blind seen p None = refl
left-blind seen p (Some c) = refl

past-blind : (seen : Seen) (closing : ℕ) (c : Option Cycle) → past_due seen closing c ≡ past_due (without_index seen) closing c
past-blind seen closing None = refl
past-blind seen closing (Some c) = refl

case-blind : (seen : Seen) (cycles : List Cycle) (c : Option Cycle) → purchase_case seen cycles c ≡ purchase_case (without_index seen) cycles c
unfolding is_paid
case-blind seen cycles None = refl
case-blind seen cycles (Some c) = refl

charged-blind : (k : GraceCase) (seen : Seen) (entries : List Entry) (s day : ℕ) → charged k seen entries s day ≡ charged k (without_index seen) entries s day
charged-blind case.None seen entries s day = refl
charged-blind (case.Lowered due) seen entries s day = refl
charged-blind case.Plain seen entries s day = refl

average-blind : (seen : Seen) (b : Book) (k : GraceCase) (first : ℕ) (g : SegmentTerms) → average_balance seen b k first g ≡ average_balance (without_index seen) b k first g
unfolding average_balance
average-blind seen b k first g =
    ap (λ (total : ℕ). half_up total (seen.day + 1 - first))
    (sum-agree (charged_on seen b k g) (charged_on (without_index seen) b k g) (λ day. charged-blind (case_of k day g) seen b.entries g.id day) (days_from seen first))

deferred-blind : (seen : Seen) (b : Book) (g : SegmentTerms) → deferred_interest seen b g ≡ deferred_interest (without_index seen) b g
unfolding accrual
deferred-blind seen b g = refl

-- ---- what looks at rates
module _ (a : Account) (fixed : a.variable ≡ false) where
  rate-blind : (seen : Seen) (b : Book) (day : ℕ) (g : SegmentTerms) → rate_in a seen b day g ≡ rate_in a (without_index seen) b day g
  rate-blind seen b day g = rw fixed refl

  holding-blind : (seen : Seen) (b : Book) (place : Option Place) (g : SegmentTerms) → holding a seen b place g ≡ holding a (without_index seen) b place g
  holding-blind seen b place g = rw (rate-blind seen b seen.day g) refl

  holdings-blind : (seen : Seen) (b : Book) (place : Option Place) → holdings a seen b place ≡ holdings a (without_index seen) b place
  holdings-blind seen b place = map-agree (holding a seen b place) (holding a (without_index seen) b place) (holding-blind seen b place) (all_segments a seen)

  payment-blind : (seen : Seen) (p : CorrectedPost) (b : Book) → payment_parts a seen p b ≡ payment_parts a (without_index seen) p b
  unfolding payment_parts
  payment-blind seen p b =
      ap (λ (left : ℕ). allocated (min p.cents left) p.cents (holdings a seen b None)) (left-blind seen p (last_cycle b.cycles))
      ∙ ap (λ (hs : List Holding). allocated (min p.cents (minimum_left (without_index seen) p (last_cycle b.cycles))) p.cents hs) (holdings-blind seen b None)

  credit-blind : (seen : Seen) (p : CorrectedPost) (place : Place) (b : Book) → credit_parts a seen p place b ≡ credit_parts a (without_index seen) p place b
  unfolding credit_parts
  credit-blind seen p place b = ap (λ (hs : List Holding). placed p.cents hs) (holdings-blind seen b (Some place))

  effect-blind : (row : Option IssuedRow) (seen : Seen) (p : CorrectedPost) (q : Post) (b : Book) → effect row a seen p q b ≡ effect row a (without_index seen) p q b
  unfolding effect sixty_days_late
  effect-blind row seen p (post.Charge d place c) b = refl
  effect-blind row seen p (post.Payment d m y c) b = ap (λ (xs : List (ℕ × ℕ)). with_entries (parts_entries (note_of seen kind.Payment p.number) xs) b) (payment-blind seen p b)
  effect-blind row seen p (post.Credit d place c) b = ap (λ (xs : List (ℕ × ℕ)). with_entries (parts_entries (note_of seen kind.Credit p.number) xs) b) (credit-blind seen p place b)
  effect-blind row seen p (post.Return d target) b =
      let c = meant_for b.cycles (payment_at target seen.posts) in
      fee-blind a seen p.number (returned_fee row seen b c) (returned a seen p.number target b)
      ∙ ap (λ (f : Option Fee). with_fee a (without_index seen) p.number f (returned a seen p.number target b)) (returned-blind row seen b c)
  effect-blind row seen p (post.Dispute d target claim) b = refl
  effect-blind row seen p (post.Resolve d target c) b = refl
  effect-blind row seen p (post.Refund c) b = refl
  effect-blind row seen p post.Penalty b = refl
  effect-blind row seen p (post.Open d t) b = refl
  effect-blind row seen p (post.OpenVariable d t) b = refl
  effect-blind row seen p (post.Plan d k r e f) b = refl
  effect-blind row seen p (post.Notice d c r e) b = refl
  effect-blind row seen p (post.Lower d c r) b = refl
  effect-blind row seen p (post.Review d f) b = refl
  effect-blind row seen p (post.Ack d t) b = refl
  effect-blind row seen p (post.AskRefund d) b = refl
  effect-blind row seen p (post.Amend t d c) b = refl
  effect-blind row seen p (post.Bill c) b = refl

  posts-blind : (row : Option IssuedRow) (seen : Seen) (ps : List CorrectedPost) (b : Book) → after_posts row a seen ps b ≡ after_posts row a (without_index seen) ps b
  unfolding after_posts
  posts-blind row seen [] b = refl
  posts-blind row seen (p ∷ ps) b = posts-blind row seen ps (effect row a seen p p.post b) ∙ ap (after_posts row a (without_index seen) ps) (effect-blind row seen p p.post b)

  interest-blind : (seen : Seen) (k : GraceCase) (first : ℕ) (b : Book) (g : SegmentTerms) → cycle_interest a seen k first b g ≡ cycle_interest a (without_index seen) k first b g
  unfolding interest_sum
  interest-blind seen k first b g =
      ap interest
      (sum-agree (λ day. charged_on seen b k g day * daily (rate_in a seen b day g)) (λ day. charged_on (without_index seen) b k g day * daily (rate_in a (without_index seen) b day g))
      (λ day. rw (charged-blind (case_of k day g) seen b.entries g.id day, rate-blind seen b day g) refl) (days_from seen first))

  -- amounts that agree post the same
  interest-posted : (row : Option IssuedRow) (seen : Seen) (f h : Book → SegmentTerms → ℕ) → ((b : Book) (g : SegmentTerms) → f b g ≡ h b g) → (gs : List SegmentTerms) (p : Posting)
      → post_interest row seen f gs p ≡ post_interest row (without_index seen) h gs p
  unfolding post_interest
  interest-posted row seen f h agree [] p = refl
  interest-posted row seen f h agree (g ∷ gs) p =
      interest-posted row seen f h agree gs (post_one seen g (posted_for row f g p) p)
      ∙ rw (agree p.book g) refl

  closing-blind : (row : Option IssuedRow) (seen : Seen) (b : Book) → closing_interest row a seen b ≡ closing_interest row a (without_index seen) b
  unfolding closing_interest
  closing-blind row seen b =
      let start : Posting = record { amounts = []; book = b } in
      let gs = all_segments a seen in
      let k = purchase_case_in seen b in
      let l = purchase_case_in (without_index seen) b in
      let first = first_day_of a b in
      let same : k ≡ l = case-blind seen b.cycles (last_cycle b.cycles) in
      let cycle =
      interest-posted row seen (cycle_interest a seen k first) (cycle_interest a (without_index seen) k first) (λ b g. interest-blind seen k first b g) gs start
      ∙ ap (λ (m : GraceCase). post_interest row (without_index seen) (cycle_interest a (without_index seen) m first) gs start) same in
      interest-posted row seen (deferred_interest seen) (deferred_interest (without_index seen)) (deferred-blind seen) gs (post_interest row seen (cycle_interest a seen k first) gs start)
      ∙ ap (post_interest row (without_index seen) (deferred_interest (without_index seen)) gs) cycle

  minimum-blind : (seen : Seen) (b : Book) (p : Posting) → minimum_payment a seen b p ≡ minimum_payment a (without_index seen) b p
  unfolding minimum_payment
  minimum-blind seen b p =
      ap (λ (late : ℕ). minimum_of (net_balance p.book.entries) a.terms.floor a.terms.pct (amounts_sum p.amounts + fees_sum (fees_in (present_cycle b) b.fees)) late)
      (past-blind seen seen.day (last_cycle b.cycles))

  averages-blind : (seen : Seen) (b : Book) → filter_map (nonzero (average_balance seen b (purchase_case_in seen b) (first_day_of a b))) (all_segments a seen)
      ≡ filter_map (nonzero (average_balance (without_index seen) b (purchase_case_in (without_index seen) b) (first_day_of a b))) (all_segments a seen)
  averages-blind seen b =
      let k = purchase_case_in seen b in
      let first = first_day_of a b in
      filter_map-agree (nonzero (average_balance seen b k first)) (nonzero (average_balance (without_index seen) b k first))
      (λ g. ap (λ (x : ℕ). cond (eqb x 0) None (Some (g.id, x))) (average-blind seen b k first g)) (all_segments a seen)
      ∙ ap (λ (m : GraceCase). filter_map (nonzero (average_balance (without_index seen) b m first)) (all_segments a seen)) (case-blind seen b.cycles (last_cycle b.cycles))

  cycle-blind : (row : Option IssuedRow) (seen : Seen) (b : Book) (p : Posting) → closed_cycle row a seen b p ≡ closed_cycle row a (without_index seen) b p
  unfolding grace_amount
  cycle-blind row seen b p = rw (averages-blind seen b, minimum-blind seen b p) refl

  close-blind : (row : Option IssuedRow) (seen : Seen) (b : Book) → close row a seen b ≡ close row a (without_index seen) b
  unfolding close
  close-blind row seen b =
      ap (λ (p : Posting). with_all_entries p.book.entries (with_cycle (closed_cycle row a seen b p) b)) (closing-blind row seen b)
      ∙ ap (λ (c : Cycle). with_all_entries (closing_interest row a (without_index seen) b).book.entries (with_cycle c b)) (cycle-blind row seen b (closing_interest row a (without_index seen) b))

  pub day-blind : (row : Option IssuedRow) (seen : Seen) (b : Book) → day_after row a seen b ≡ day_after row a (without_index seen) b
  unfolding day_after
  day-blind row seen b =
      let due = on_due row a seen b (last_cycle b.cycles) in
      let posted : after_posts row a seen (posts_on seen) due ≡ after_posts row a (without_index seen) (posts_on seen) (on_due row a (without_index seen) b (last_cycle b.cycles)) =
      posts-blind row seen (posts_on seen) due ∙ ap (after_posts row a (without_index seen) (posts_on seen)) (due-blind row a seen b (last_cycle b.cycles)) in
      ap (λ (x : Book). cond (eqb (day_of_month seen.day) a.anchor.close_day) (close row a seen x) x) posted
      ∙ ap (λ (x : Book). cond (eqb (day_of_month seen.day) a.anchor.close_day) x (after_posts row a (without_index seen) (posts_on seen) (on_due row a (without_index seen) b (last_cycle b.cycles))))
      (close-blind row seen (after_posts row a (without_index seen) (posts_on seen) (on_due row a (without_index seen) b (last_cycle b.cycles))))

  -- the book after so many days
  pub fold-blind : (rows : List IssuedRow) (seen : ℕ → Seen) (n : ℕ) → book_after rows a seen n ≡ book_after rows a (λ d. without_index (seen d)) n
  unfolding book_after
  fold-blind rows seen zero = refl
  fold-blind rows seen (suc n) =
      let before = book_after rows a seen n in
      day-blind (row_for (present_cycle before) rows) (seen (a.anchor.opened + n)) before
      ∙ ap (λ (x : Book). day_after (row_for (present_cycle x) rows) a (without_index (seen (a.anchor.opened + n))) x) (fold-blind rows seen n)
