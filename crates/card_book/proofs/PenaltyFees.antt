-- Penalty fees are at most the minimum payment due before them, and all fees that are entered.
use Rattle.std.proofs.Common.{◌≡◌, ℕ, zero, suc, ◌+◌, ◌-◌, ◌<◌, ◌≤◌, Bool, true, false, cond, ◌&&◌, ◌||◌, List, [], ◌∷◌, ◌++◌, refl, sym, ap, subst, ◌∙◌, arith, pos, Option, Some, None, eqb, leb}
use Rattle.std.specs.Prelude.{min, nat_lt}
use Rattle.std.specs.List.{All, filter}
use Rattle.std.specs.Option.{option_or}
use Rattle.std.proofs.lemmas.Bool.Decides.{nat_tests}
use Rattle.std.proofs.lemmas.List.Elements.{All-nil, All-cons, All-head, All-tail, All-append, All-weaker}
use Rattle.std.proofs.lemmas.List.Sums.{sum_by-append}
use Rattle.card_events.proofs.Cycles.{due_grows}
use Rattle.card_events.specs.Civil.{day_of_month}
use Rattle.card_events.specs.History.{CorrectedPost, anchor_of}
use Rattle.card_events.specs.SharedRows.{SharedRows}
use Rattle.card_events.specs.declared.kept.Kept.{Kept}
use Rattle.card_events.specs.declared.post.Post.{Post}
use Rattle.card_events.specs.declared.post.Post.TheVariants as post
use Rattle.card_fees.proofs.OneFee.{one-fee-each}
use Rattle.card_model.proofs.Caps.{above-is}
use Rattle.card_model.proofs.EntryFacts.{all-debit, all-holds, all-parts, all-releases}
use Rattle.card_model.specs.Books.{Account, Book, account_of, all_segments, newest_purchase, note_of, present_cycle, with_entries}
use Rattle.card_model.specs.Caps.{capped_by, row_for}
use Rattle.card_model.specs.Closing.{Posting, close, closed_cycle, closing_interest, post_interest, post_one, posted_for}
use Rattle.card_model.specs.Cycles.{Cycle, IssuedRow, Seen, last_cycle, post_at, posts_on, seen_on}
use Rattle.card_model.specs.DueDates.{after_due_date, on_due}
use Rattle.card_model.specs.Effects.{after_posts, credit_parts, disputed_cents, disputed_charge, disputed_segment, effect, is_part_of, meant_for, moved_by, payment_at, payment_parts, put_back, returned, returned_fee, size}
use Rattle.card_model.specs.Entries.{credit_balance, debit, is_kind, raises}
use Rattle.card_model.specs.Fees.{charged_fee, fee_amount, fee_by, fee_cents, fee_for, fees_sum, is_charged_for, is_repeat, issued_fee, last_due, late_fee, penalty_fee, row_in_force, tier_amount, with_fee}
use Rattle.card_model.specs.Folds.{book, book_after, day_after}
use Rattle.card_model.specs.Laws.{total}
use Rattle.card_model.specs.Payments.{asked, has_due_payment, is_timely, met}
use Rattle.card_model.specs.Segments.{SegmentTerms, segment_at}
use Rattle.card_model.specs.declared.entry.Entry.{Entry}
use Rattle.card_model.specs.declared.entry.EntryKind.TheVariants as kind
use Rattle.card_model.specs.declared.entry.Note.{Note}
use Rattle.card_model.specs.declared.fee.Fee.{Fee}
use Rattle.card_model.specs.declared.fee.FeeKind.{FeeKind}
use Rattle.card_model.specs.declared.fee.FeeKind.TheVariants as fee
use Rattle.card_book.specs.Compliance.{PenaltyFeesAreReasonable, minimum_due_before}

-- ---- the entries of fees
abbrev IsNoFee : Entry → Type 0
IsNoFee e = is_kind kind.Fee e.kind ≡ false

total-append : (xs ys : List Entry) → total kind.Fee (xs ++ ys) ≡ total kind.Fee xs + total kind.Fee ys
unfolding total
total-append xs ys = sum_by-append _ xs ys

total-none : (xs : List Entry) → All IsNoFee xs → total kind.Fee xs ≡ 0
unfolding total
total-none [] h = refl
total-none (e ∷ xs) h = let here = All-head IsNoFee e xs h in let rest = total-none xs (All-tail IsNoFee e xs h) in rw (here, rest) refl

total-plain : (es xs : List Entry) → All IsNoFee xs → total kind.Fee (es ++ xs) ≡ total kind.Fee es
total-plain es xs h = let none = total-none xs h in total-append es xs ∙ (rw none (omega arith))

total-raised : (d n s x : ℕ) → total kind.Fee (raises (record { day = d; kind = kind.Fee; post = n }) s x) ≡ x
unfolding total
total-raised d n s zero = refl
total-raised d n s (suc x) = omega arith

total-debit : (d n s x credit : ℕ) → total kind.Fee (debit (record { day = d; kind = kind.Fee; post = n }) s x credit) ≡ x
unfolding debit
total-debit d n s x credit =
    let note : Note = record { day = d; kind = kind.Fee; post = n } in
    let first = total-raised d n 0 (min x credit) in
    let second = total-raised d n s (x - credit) in
    total-append (raises note 0 (min x credit)) (raises note s (x - credit)) ∙ (rw (first, second) (omega arith))

fees-push : (fs : List Fee) (f : Fee) → fees_sum (fs ++ f ∷ []) ≡ fees_sum fs + fee_cents f
fees-push fs f = sum_by-append _ fs (f ∷ []) ∙ omega arith

-- they are the fees charged
abbrev AreEntered : Book → Type 0
AreEntered b = total kind.Fee b.entries ≡ fees_sum b.fees

fee-entered : (a : Account) (seen : Seen) (n : ℕ) (o : Option Fee) (b : Book) → AreEntered b → AreEntered (with_fee a seen n o b)
fee-entered a seen n None b h = h
fee-entered a seen n (Some f) b h =
    let added = debit (note_of seen kind.Fee n) (newest_purchase a seen) (fee_cents f) (credit_balance b.entries) in
    let sum = total-debit seen.day n (newest_purchase a seen) (fee_cents f) (credit_balance b.entries) in
    let pushed = fees-push b.fees f in
    total-append b.entries added ∙ (rw (sum, h) (sym pushed))

put_back-plain : (d n new : ℕ) (xs es : List Entry) → total kind.Fee (put_back (record { day = d; kind = kind.Return; post = n }) new xs es) ≡ total kind.Fee es
put_back-plain d n new [] es = refl
put_back-plain d n new (x ∷ xs) es =
    let g = cond (eqb x.segment 0) new x.segment in
    let note : Note = record { day = d; kind = kind.Return; post = n } in
    put_back-plain d n new xs (es ++ debit note g (size x.cents) (credit_balance es))
    ∙ total-plain es (debit note g (size x.cents) (credit_balance es)) (all-debit IsNoFee d n g (size x.cents) (credit_balance es) kind.Return (λ s z. refl))

plain-entered : (xs : List Entry) (b : Book) → All IsNoFee xs → AreEntered b → AreEntered (with_entries xs b)
plain-entered xs b h e = total-plain b.entries xs h ∙ e

effect-entered : (issued : Option IssuedRow) (a : Account) (seen : Seen) (s : CorrectedPost) (p : Post) (b : Book) → AreEntered b → AreEntered (effect issued a seen s p b)
unfolding effect
effect-entered issued a seen s (post.Charge d at n) b h =
    plain-entered _ b (all-debit IsNoFee seen.day s.number (segment_at at seen.day (all_segments a seen)) s.cents (credit_balance b.entries) kind.Charge (λ g z. refl)) h
effect-entered issued a seen s (post.Payment d m c n) b h = plain-entered _ b (all-parts IsNoFee seen.day s.number kind.Payment (payment_parts a seen s b) (λ g z. refl)) h
effect-entered issued a seen s (post.Credit d at n) b h = plain-entered _ b (all-parts IsNoFee seen.day s.number kind.Credit (credit_parts a seen s at b) (λ g z. refl)) h
effect-entered issued a seen s (post.Return d target) b h =
    fee-entered a seen s.number (returned_fee issued seen b (meant_for b.cycles (payment_at target seen.posts))) (returned a seen s.number target b)
    (put_back-plain seen.day s.number (newest_purchase a seen) (filter (is_part_of target) b.entries) b.entries ∙ h)
effect-entered issued a seen s (post.Dispute d target claim) b h =
    plain-entered _ b (all-holds IsNoFee seen.day s.number (disputed_segment a seen target) (disputed_cents a seen target claim b) (λ g z. refl)) h
effect-entered issued a seen s (post.Resolve d target c) b h =
    plain-entered _ b (all-releases IsNoFee seen.day s.number (disputed_segment a seen (disputed_charge (post_at target seen.posts))) (moved_by target b.entries) (credit_balance b.entries) (λ g z. refl)) h
effect-entered issued a seen s (post.Refund n) b h = plain-entered _ b (all-debit IsNoFee seen.day s.number (newest_purchase a seen) s.cents (credit_balance b.entries) kind.Refund (λ g z. refl)) h
effect-entered issued a seen s post.Penalty b h = h
effect-entered issued a seen s (post.Open d t) b h = h
effect-entered issued a seen s (post.OpenVariable d t) b h = h
effect-entered issued a seen s (post.Plan d k r e f) b h = h
effect-entered issued a seen s (post.Notice d c r e) b h = h
effect-entered issued a seen s (post.Lower d c r) b h = h
effect-entered issued a seen s (post.Review d f) b h = h
effect-entered issued a seen s (post.Ack d t) b h = h
effect-entered issued a seen s (post.AskRefund d) b h = h
effect-entered issued a seen s (post.Amend t d c) b h = h
effect-entered issued a seen s (post.Bill c) b h = h

posts-entered : (issued : Option IssuedRow) (a : Account) (seen : Seen) (ss : List CorrectedPost) (b : Book) → AreEntered b → AreEntered (after_posts issued a seen ss b)
unfolding after_posts
posts-entered issued a seen [] b h = h
posts-entered issued a seen (s ∷ ss) b h = posts-entered issued a seen ss (effect issued a seen s s.post b) (effect-entered issued a seen s s.post b h)

interest-plain : (issued : Option IssuedRow) (seen : Seen) (amount : Book → SegmentTerms → ℕ) (gs : List SegmentTerms) (p : Posting) → total kind.Fee (post_interest issued seen amount gs p).book.entries ≡ total kind.Fee p.book.entries
unfolding post_interest
interest-plain issued seen amount [] p = refl
interest-plain issued seen amount (g ∷ gs) p =
    interest-plain issued seen amount gs (post_one seen g (posted_for issued amount g p) p)
    ∙ total-plain p.book.entries _ (all-debit IsNoFee seen.day 0 g.id (posted_for issued amount g p) (credit_balance p.book.entries) kind.Interest (λ s z. refl))

close-entered : (issued : Option IssuedRow) (a : Account) (seen : Seen) (b : Book) → AreEntered b → AreEntered (close issued a seen b)
unfolding close closing_interest
close-entered issued a seen b h = interest-plain issued seen _ (all_segments a seen) _ ∙ (interest-plain issued seen _ (all_segments a seen) _ ∙ h)

-- ---- the minimum payment that was due
or-none : {X : Type 0} (o : Option X) → option_or o None ≡ o
or-none None = refl
or-none (Some x) = refl

last-due-push : (day : ℕ) (cs : List Cycle) (c : Cycle) → nat_lt c.due day ≡ false → last_due day (cs ++ c ∷ []) ≡ last_due day cs
last-due-push day [] c h = rw h refl
last-due-push day (x ∷ cs) c h = let rest = last-due-push day cs c h in rw rest refl

last-passes : (day : ℕ) (cs : List Cycle) (c : Cycle) → last_due day cs ≡ Some c → nat_lt c.due day ≡ true
last-passes day [] c e = absurd (cc)
last-passes day (x ∷ cs) c e = by (last_due day cs) refl (nat_lt x.due day) refl (last-passes day cs c) e
  where
    by : (o : Option Cycle) → last_due day cs ≡ o → (t : Bool) → nat_lt x.due day ≡ t → (last_due day cs ≡ Some c → nat_lt c.due day ≡ true) → option_or o (cond t (Some x) None) ≡ Some c → nat_lt c.due day ≡ true
    by (Some y) f t i r e = r (f ∙ e)
    by None f true i r e = let same : x ≡ c = cc in ap (λ (z : Cycle). nat_lt z.due day) (sym same) ∙ i
    by None f false i r e = absurd (cc)

timely-seen : (day : ℕ) (c : Cycle) (r : IssuedRow) → nat_lt c.due day ≡ true → is_timely c r ≡ true → nat_lt r.day day ≡ true
timely-seen day c r e t = by (eqb r.cycle c.number) (leb (r.day + 21) c.due) refl t
  where
    by : (x y : Bool) → leb (r.day + 21) c.due ≡ y → x && y ≡ true → nat_lt r.day day ≡ true
    by true true f t = grind (arith, nat_tests, e, f)
    by true false f t = cc
    by false y f t = cc

any-seen : (day : ℕ) (c : Cycle) (rs : List IssuedRow) → nat_lt c.due day ≡ true → has_due_payment (filter (λ r. nat_lt r.day day) rs) c ≡ has_due_payment rs c
any-seen day c [] e = refl
any-seen day c (r ∷ rs) e = by (nat_lt r.day day) refl (is_timely c r) refl (any-seen day c rs e)
  where
    by : (t : Bool) → nat_lt r.day day ≡ t → (u : Bool) → is_timely c r ≡ u → has_due_payment (filter (λ r. nat_lt r.day day) rs) c ≡ has_due_payment rs c
        → has_due_payment (cond t (r ∷ filter (λ r. nat_lt r.day day) rs) (filter (λ r. nat_lt r.day day) rs)) c ≡ u || has_due_payment rs c
    by true f u g i = rw (g, i) refl
    by false f true g i = let seen = timely-seen day c r e g in cc
    by false f false g i = i

asked-seen : (day : ℕ) (rs : List IssuedRow) (cs : List Cycle) → asked (filter (λ r. nat_lt r.day day) rs) (last_due day cs) ≡ asked rs (last_due day cs)
asked-seen day rs cs = by (last_due day cs) refl
  where
    by : (o : Option Cycle) → last_due day cs ≡ o → asked (filter (λ r. nat_lt r.day day) rs) o ≡ asked rs o
    by None e = refl
    by (Some c) e = ap (λ t. cond t c.minimum 0) (any-seen day c rs (last-passes day cs c e))

-- ---- a fee within it
-- a fee of today, at most the minimum payment that was due before
record IsOfToday (seen : Seen) (cs : List Cycle) (f : Fee) : Type 0 where
  pub day : f.day ≡ seen.day
  pub amount : fee_cents f ≤ asked seen.issued (last_due seen.day cs)

least-of-three : (x y z : ℕ) → min x (min y z) ≤ z
least-of-three x y z = omega arith

for-today : (seen : Seen) (cs : List Cycle) (fees : List Fee) (n : ℕ) (k : FeeKind) (c : Cycle) (f : Fee) → fee_for seen cs fees n k c ≡ Some f → IsOfToday seen cs f
unfolding fee_by
for-today seen cs fees n k c f h =
    by (is_charged_for c.number fees || eqb (fee_amount (row_in_force seen.fees) (is_repeat k n fees) c.minimum (asked seen.issued (last_due seen.day cs))) 0) h
  where
    made : Fee
    made = record { due_cycle = c.number; kind = k; repeat = is_repeat k n fees; cycle = n; day = seen.day; cents = pos (fee_amount (row_in_force seen.fees) (is_repeat k n fees) c.minimum (asked seen.issued (last_due seen.day cs))) }

    by : (t : Bool) → cond t None (Some (record { due_cycle = c.number; kind = k; repeat = is_repeat k n fees; cycle = n; day = seen.day; cents = pos (fee_amount (row_in_force seen.fees) (is_repeat k n fees) c.minimum (asked seen.issued (last_due seen.day cs))) })) ≡ Some f → IsOfToday seen cs f
    by true e = absurd (cc)
    by false e =
        let same : record { due_cycle = c.number; kind = k; repeat = is_repeat k n fees; cycle = n; day = seen.day; cents = pos (fee_amount (row_in_force seen.fees) (is_repeat k n fees) c.minimum (asked seen.issued (last_due seen.day cs))) } ≡ f = cc in
        subst (IsOfToday seen cs) same (record { day = refl; amount = least-of-three (tier_amount (row_in_force seen.fees) (is_repeat k n fees)) c.minimum (asked seen.issued (last_due seen.day cs)) })

capped-least : (x : IssuedRow → ℕ) (o : Option IssuedRow) (n : ℕ) → capped_by x o n ≤ n
capped-least x None n = omega arith
capped-least x (Some r) n = omega arith

charged-today : (issued : Option IssuedRow) (seen : Seen) (cs : List Cycle) (o : Option Fee) → ((f : Fee) → o ≡ Some f → IsOfToday seen cs f) → (g : Fee) → charged_fee issued o ≡ Some g → IsOfToday seen cs g
charged-today issued seen cs None of g h = absurd (cc)
charged-today issued seen cs (Some f) of g h =
    let is = above-is (capped_by (issued_fee f.due_cycle) issued (fee_cents f)) f g h in
    let t = of f refl in
    let low = capped-least (issued_fee f.due_cycle) issued (fee_cents f) in
    let within = t.amount in
    subst (IsOfToday seen cs) (sym is) (record { day = t.day; amount = omega (arith, low, within) })

penalty-today : (issued : Option IssuedRow) (seen : Seen) (b : Book) (k : FeeKind) (c : Cycle) (g : Fee) → penalty_fee issued seen b k c ≡ Some g → IsOfToday seen b.cycles g
penalty-today issued seen b k c g h = charged-today issued seen b.cycles _ (for-today seen b.cycles b.fees (present_cycle b) k c) g h

late-today : (issued : Option IssuedRow) (seen : Seen) (b : Book) (c : Cycle) (g : Fee) → late_fee issued seen b c ≡ Some g → IsOfToday seen b.cycles g
late-today issued seen b c g h = by (met seen c) h
  where
    by : (t : Bool) → cond t None (penalty_fee issued seen b fee.Late c) ≡ Some g → IsOfToday seen b.cycles g
    by true e = absurd (cc)
    by false e = penalty-today issued seen b fee.Late c g e

returned-today : (issued : Option IssuedRow) (seen : Seen) (b : Book) (c : Option Cycle) (g : Fee) → returned_fee issued seen b c ≡ Some g → IsOfToday seen b.cycles g
returned-today issued seen b None g h = absurd (cc)
returned-today issued seen b (Some c) g h = penalty-today issued seen b fee.Returned c g h

-- ---- through the days
-- a fee of a day before this one, within the minimum payment that was due before it
record IsWithin (issued : List IssuedRow) (day : ℕ) (cs : List Cycle) (f : Fee) : Type 0 where
  pub before : f.day < day
  pub amount : fee_cents f ≤ asked issued (last_due f.day cs)

-- the fees of a book through a day are, and its cycles are those of before it
record Fees (issued : List IssuedRow) (day : ℕ) (b : Book) : Type 0 where
  pub within : All (IsWithin issued day b.cycles) b.fees
  pub entered : AreEntered b

fee-within : (issued : List IssuedRow) (a : Account) (seen : Seen) (n : ℕ) (o : Option Fee) (b : Book) → seen.issued ≡ filter (λ r. nat_lt r.day seen.day) issued
    → ((g : Fee) → o ≡ Some g → IsOfToday seen b.cycles g) → All (IsWithin issued (seen.day + 1) b.cycles) b.fees → All (IsWithin issued (seen.day + 1) (with_fee a seen n o b).cycles) (with_fee a seen n o b).fees
fee-within issued a seen n None b is of h = h
fee-within issued a seen n (Some f) b is of h =
    let t = of f refl in
    let amount = t.amount in
    let day = t.day in
    let asks : asked seen.issued (last_due seen.day b.cycles) ≡ asked issued (last_due f.day b.cycles) =
    ap (λ rs. asked rs (last_due seen.day b.cycles)) is ∙ (asked-seen seen.day issued b.cycles ∙ ap (λ d. asked issued (last_due d b.cycles)) (sym day)) in
    All-append (IsWithin issued (seen.day + 1) b.cycles) b.fees (f ∷ []) h
    (All-cons (IsWithin issued (seen.day + 1) b.cycles) f [] (record { before = omega (arith, day); amount = omega (arith, amount, asks) }) (All-nil (IsWithin issued (seen.day + 1) b.cycles)))

weaker-within : (issued : List IssuedRow) (day : ℕ) (cs : List Cycle) (fs : List Fee) → All (IsWithin issued day cs) fs → All (IsWithin issued (day + 1) cs) fs
weaker-within issued day cs fs h =
    All-weaker (IsWithin issued day cs) (IsWithin issued (day + 1) cs) (λ f w. let before = w.before in record { before = omega (arith, before); amount = w.amount }) fs h

effect-within : (rows : List IssuedRow) (issued : Option IssuedRow) (a : Account) (seen : Seen) (s : CorrectedPost) (p : Post) (b : Book) → seen.issued ≡ filter (λ r. nat_lt r.day seen.day) rows
    → All (IsWithin rows (seen.day + 1) b.cycles) b.fees → All (IsWithin rows (seen.day + 1) (effect issued a seen s p b).cycles) (effect issued a seen s p b).fees
unfolding effect
effect-within rows issued a seen s (post.Charge d p n) b is h = h
effect-within rows issued a seen s (post.Payment d m c n) b is h = h
effect-within rows issued a seen s (post.Credit d p n) b is h = h
effect-within rows issued a seen s (post.Return d target) b is h =
    let c = meant_for b.cycles (payment_at target seen.posts) in
    fee-within rows a seen s.number (returned_fee issued seen b c) (returned a seen s.number target b) is (returned-today issued seen b c) h
effect-within rows issued a seen s (post.Dispute d target claim) b is h = h
effect-within rows issued a seen s (post.Resolve d target c) b is h = h
effect-within rows issued a seen s (post.Refund n) b is h = h
effect-within rows issued a seen s post.Penalty b is h = h
effect-within rows issued a seen s (post.Open d t) b is h = h
effect-within rows issued a seen s (post.OpenVariable d t) b is h = h
effect-within rows issued a seen s (post.Plan d k r e f) b is h = h
effect-within rows issued a seen s (post.Notice d c r e) b is h = h
effect-within rows issued a seen s (post.Lower d c r) b is h = h
effect-within rows issued a seen s (post.Review d f) b is h = h
effect-within rows issued a seen s (post.Ack d t) b is h = h
effect-within rows issued a seen s (post.AskRefund d) b is h = h
effect-within rows issued a seen s (post.Amend t d c) b is h = h
effect-within rows issued a seen s (post.Bill c) b is h = h

-- today's, and those of the days before
abbrev AreSoFar : List IssuedRow → Seen → Book → Type 0
AreSoFar rows seen b = All (IsWithin rows (seen.day + 1) b.cycles) b.fees

posts-within : (rows : List IssuedRow) (issued : Option IssuedRow) (a : Account) (seen : Seen) (ss : List CorrectedPost) (b : Book) → seen.issued ≡ filter (λ r. nat_lt r.day seen.day) rows
    → AreSoFar rows seen b → AreSoFar rows seen (after_posts issued a seen ss b)
unfolding after_posts
posts-within rows issued a seen [] b is h = h
posts-within rows issued a seen (s ∷ ss) b is h = posts-within rows issued a seen ss (effect issued a seen s s.post b) is (effect-within rows issued a seen s s.post b is h)

due-within : (rows : List IssuedRow) (issued : Option IssuedRow) (a : Account) (seen : Seen) (b : Book) (c : Option Cycle) → seen.issued ≡ filter (λ r. nat_lt r.day seen.day) rows
    → AreSoFar rows seen b → AreSoFar rows seen (on_due issued a seen b c)
unfolding on_due
due-within rows issued a seen b None is h = h
due-within rows issued a seen b (Some c) is h = by (eqb seen.day (c.due + 1))
  where
    by : (t : Bool) → AreSoFar rows seen (cond t (after_due_date issued a seen b c) b)
    by true = fee-within rows a seen 0 (late_fee issued seen b c) b is (late-today issued seen b c) h
    by false = h

-- a cycle that closes on a day is due later
closed-within : (rows : List IssuedRow) (day : ℕ) (cs : List Cycle) (c : Cycle) (fs : List Fee) → day + 1 ≤ c.due → All (IsWithin rows (day + 1) cs) fs → All (IsWithin rows (day + 1) (cs ++ c ∷ [])) fs
closed-within rows day cs c fs l h =
    All-weaker (IsWithin rows (day + 1) cs) (IsWithin rows (day + 1) (cs ++ c ∷ []))
    (λ f w.
    let before = w.before in
    let amount = w.amount in
    let same : asked rows (last_due f.day (cs ++ c ∷ [])) ≡ asked rows (last_due f.day cs) = ap (asked rows) (last-due-push f.day cs c (not-before c.due f.day (omega (arith, l, before)))) in
    record { before = before; amount = omega (arith, amount, same) }) fs h
  where
    not-before : (due day : ℕ) → day ≤ due → nat_lt due day ≡ false
    not-before due day l = grind (arith, nat_tests, l)

close-within : (rows : List IssuedRow) (issued : Option IssuedRow) (a : Account) (seen : Seen) (b : Book) → AreSoFar rows seen b → AreSoFar rows seen (close issued a seen b)
unfolding close
close-within rows issued a seen b h =
    closed-within rows seen.day b.cycles (closed_cycle issued a seen b (closing_interest issued a seen b)) b.fees (due_grows a.anchor.close_day seen.day) h

due-entered : (issued : Option IssuedRow) (a : Account) (seen : Seen) (b : Book) (c : Option Cycle) → AreEntered b → AreEntered (on_due issued a seen b c)
unfolding on_due
due-entered issued a seen b None h = h
due-entered issued a seen b (Some c) h = by (eqb seen.day (c.due + 1))
  where
    by : (t : Bool) → AreEntered (cond t (after_due_date issued a seen b c) b)
    by true = fee-entered a seen 0 (late_fee issued seen b c) b h
    by false = h

day-fees : (rows : List IssuedRow) (issued : Option IssuedRow) (a : Account) (seen : Seen) (b : Book) → seen.issued ≡ filter (λ r. nat_lt r.day seen.day) rows → Fees rows seen.day b → Fees rows (seen.day + 1) (day_after issued a seen b)
unfolding day_after
day-fees rows issued a seen b is h =
    let due = on_due issued a seen b (last_cycle b.cycles) in
    let posted = after_posts issued a seen (posts_on seen) due in
    let within = posts-within rows issued a seen (posts_on seen) due is (due-within rows issued a seen b (last_cycle b.cycles) is (weaker-within rows seen.day b.cycles b.fees h.within)) in
    let entered = posts-entered issued a seen (posts_on seen) due (due-entered issued a seen b (last_cycle b.cycles) h.entered) in
    by posted within entered (eqb (day_of_month seen.day) a.anchor.close_day)
  where
    by : (posted : Book) → AreSoFar rows seen posted → AreEntered posted → (t : Bool) → Fees rows (seen.day + 1) (cond t (close issued a seen posted) posted)
    by posted w e true = record { within = close-within rows issued a seen posted w; entered = close-entered issued a seen posted e }
    by posted w e false = record { within = w; entered = e }

book-fees : (history : List Kept) (issued : List IssuedRow) (shared : SharedRows) (n : ℕ)
    → Fees issued ((anchor_of history).opened + n) (book_after issued (account_of history) (seen_on (anchor_of history) shared history issued) n)
unfolding book_after total
book-fees history issued shared zero = record { within = All-nil _; entered = refl }
book-fees history issued shared (suc n) =
    let b = book_after issued (account_of history) (seen_on (anchor_of history) shared history issued) n in
    let opened = (anchor_of history).opened in
    let next = day-fees issued (row_for (present_cycle b) issued) (account_of history) (seen_on (anchor_of history) shared history issued (opened + n)) b refl (book-fees history issued shared n) in
    let later : opened + n + 1 ≡ opened + suc n = omega arith in
    subst (λ d. Fees issued d (day_after (row_for (present_cycle b) issued) (account_of history) (seen_on (anchor_of history) shared history issued (opened + n)) b)) later next

pub penalty_fees_are_reasonable : PenaltyFeesAreReasonable
unfolding book
penalty_fees_are_reasonable history issued shared day =
    let n = day + 1 - (anchor_of history).opened in
    let b = book_after issued (account_of history) (seen_on (anchor_of history) shared history issued) n in
    let fees = book-fees history issued shared n in
    record {
      amount = All-weaker (IsWithin issued ((anchor_of history).opened + n) b.cycles) (λ (f : Fee). fee_cents f ≤ minimum_due_before issued b f.day) (λ f w. w.amount) b.fees fees.within;
      single = one-fee-each history issued shared day;
      entered = fees.entered;
    }
