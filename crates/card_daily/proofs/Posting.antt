-- What one post changes of state and track.
use Rattle.std.proofs.Common.{◌≡◌, ℕ, ◌≤◌, Bool, true, false, cond, eqb, ◌||◌, List, [], ◌∷◌, ◌++◌, map, append-nil, refl, sym, ap, ◌∙◌, subst, arith, Option, Some, None, Result, Ok, Err, ℤ, pos, w64, to_z, of_z}
use Rattle.std.specs.Prelude.{◌≤ℤ◌, OnOk, min, unsigned_abs}
use Rattle.std.specs.List.{All, filter}
use Rattle.std.proofs.lemmas.Bool.Decides.{nat_tests}
use Rattle.std.proofs.lemmas.List.{append_assoc}
use Rattle.std.proofs.lemmas.List.Elements.{All-append, All-nil}
use Rattle.std.proofs.lemmas.Int.{ints, to_z-of_z}
use Rattle.card_effects.specs.Repaid.{AreRepaid, repaid_rows}
use Rattle.card_events.specs.declared.anchor.Channel.{Channel}
use Rattle.card_effects.specs.Standing.{IsSlotOf, StandsAt}
use Rattle.card_events.specs.History.{CorrectedPost}
use Rattle.card_events.specs.declared.kept.Slot.{Slot}
use Rattle.card_events.specs.declared.post.Place.{Place}
use Rattle.card_events.specs.declared.post.Post.{Post}
use Rattle.card_events.specs.declared.post.Post.TheVariants as post
use Rattle.card_closing.specs.BookRows.{brought}
use Rattle.card_closing.proofs.Growing.{rows_grow}
use Rattle.card_closing.specs.Growth.{IsOfNoCredit, or_post, with_repaid}
use Rattle.card_closing.specs.Rows.{Rows, without_post}
use Rattle.card_model.proofs.EntryFacts.{all-debit}
use Rattle.card_model.specs.Books.{Account, Book, all_segments, newest_purchase, note_of}
use Rattle.card_model.specs.Cycles.{IssuedRow, Seen}
use Rattle.card_model.specs.Effects.{effect, is_part_of, meant_for, parts_entries, payment_at, put_back, returned, returned_fee, size}
use Rattle.card_model.specs.Entries.{credit_balance, debit}
use Rattle.card_model.specs.Fees.{fee_cents, with_fee}
use Rattle.card_model.specs.Interest.{repays}
use Rattle.card_model.specs.Limits.{balance_limit}
use Rattle.card_model.specs.Payments.{returns}
use Rattle.card_model.specs.Segments.{SegmentTerms, segment_at}
use Rattle.card_model.specs.declared.entry.Entry.{Entry}
use Rattle.card_model.specs.declared.entry.EntryKind.{EntryKind}
use Rattle.card_model.specs.declared.entry.EntryKind.TheVariants as kind
use Rattle.card_model.specs.declared.fee.Fee.{Fee}
use Rattle.card_rates.specs.RateBooks.{AreByNumber, Rates}
use Rattle.card_segments.proofs.Totals.{within-fits}
use Rattle.card_rates.specs.Days.{day_post}
use Rattle.card_rates.specs.declared.day.DayPost.{DayPost}
use Rattle.card_daily.proofs.Repaying.{IsOther, others-bring, same-brought}
use Rattle.card_daily.proofs.Standing.{begins-same, begins-with}
use Rattle.card_daily.specs.Posts.{StandWith, is_penalty, returned_after}
use Rattle.card_daily.specs.Returns.{fees_with}
use Rattle.card_daily.specs.Stands.{Begins}
use Rattle.card_daily.specs.declared.state.State.{State}
use Rattle.card_daily.specs.declared.track.Track.{Track}

-- ---- a track that begins with what it held
pub begins-kept : (t after : Track) → after.entries.items ≡ t.entries.items → after.cycles.items ≡ t.cycles.items → after.fees.items ≡ t.fees.items → Begins t after
begins-kept t after e f h =
    record { entries = begins-same t.entries.items after.entries.items e; cycles = begins-same t.cycles.items after.cycles.items f; fees = begins-same t.fees.items after.fees.items h }

pub begins-more : (t after : Track) (more : List Entry) (charged : List Fee) → after.entries.items ≡ t.entries.items ++ more → after.cycles.items ≡ t.cycles.items → after.fees.items ≡ t.fees.items ++ charged → Begins t after
begins-more t after more charged e f h =
    record { entries = begins-with t.entries.items after.entries.items more e; cycles = begins-same t.cycles.items after.cycles.items f; fees = begins-with t.fees.items after.fees.items charged h }

-- ---- rows
pub each-same : {X Y : Type 0} (f h : X → Y) → ((x : X) → f x ≡ h x) → (xs : List X) → map f xs ≡ map h xs
each-same f h e [] = refl
each-same f h e (x ∷ xs) = ap (λ y. y ∷ map f xs) (e x) ∙ ap (λ ys. h x ∷ ys) (each-same f h e xs)

-- a segment's rows in a book
abbrev held : (ℕ → Bool) → ℕ → (SegmentTerms → Rows) → Book → SegmentTerms → Rows
held returned first rows_by b g = with_repaid (brought returned g.id first b.entries) (rows_by g)

-- the same payments are returned
pub same-returned : (a : Account) (seen : Seen) (first : ℕ) (f h : ℕ → Bool) (rows_by : SegmentTerms → Rows) (b : Book) (s : State) (t : Track) → ((n : ℕ) → f n ≡ h n) → StandWith a seen first f rows_by b s t → StandWith a seen first h rows_by b s t
same-returned a seen first f h rows_by b s t e w =
    record {
      at = w.at;
      fees = w.fees;
      rows = w.rows ∙ each-same (held f first rows_by b) (held h first rows_by b) (λ g. ap (λ r. with_repaid r (rows_by g)) (same-brought g.id first f h e b.entries)) s.rates.segments;
    }

-- entries that bring nothing
pub others-stand : (a : Account) (seen : Seen) (first : ℕ) (returned : ℕ → Bool) (rows_by : SegmentTerms → Rows) (b c : Book) (s new : State) (t after : Track) (more : List Entry)
    → StandWith a seen first returned rows_by b s t → StandsAt a seen c new.rates new.segments.balances after.entries.items → new.rates ≡ s.rates → new.rows.items ≡ s.rows.items
    → after.fees.items ≡ t.fees.items → c.fees ≡ b.fees → c.entries ≡ b.entries ++ more → All IsOther more → StandWith a seen first returned rows_by c new after
others-stand a seen first returned rows_by b c s new t after more h at rates rows fees same_fees grown others =
    record {
      at = at;
      fees = fees ∙ (h.fees ∙ sym same_fees);
      rows = rows ∙ (h.rows ∙ (each-same (held returned first rows_by b) (held returned first rows_by c) same s.rates.segments
          ∙ ap (λ (r : Rates). repaid_rows returned first rows_by r.segments c.entries) (sym rates)));
    }
  where
    same : (g : SegmentTerms) → held returned first rows_by b g ≡ held returned first rows_by c g
    same g = ap (λ r. with_repaid r (rows_by g)) (sym (ap (brought returned g.id first) grown ∙ others-bring returned g.id first b.entries more others))

charge-grown : (issued : Option IssuedRow) (a : Account) (seen : Seen) (p : CorrectedPost) (b : Book) (on cents : ℕ) (pl : Place)
    → (effect issued a seen p (post.Charge on pl cents) b).entries ≡ b.entries ++ debit (note_of seen kind.Charge p.number) (segment_at pl seen.day (all_segments a seen)) p.cents (credit_balance b.entries)
unfolding effect
charge-grown issued a seen p b on cents pl = refl

refund-grown : (issued : Option IssuedRow) (a : Account) (seen : Seen) (p : CorrectedPost) (b : Book) (cents : ℕ)
    → (effect issued a seen p (post.Refund cents) b).entries ≡ b.entries ++ debit (note_of seen kind.Refund p.number) (newest_purchase a seen) p.cents (credit_balance b.entries)
unfolding effect
refund-grown issued a seen p b cents = refl

pub charge-stand : (issued : Option IssuedRow) (a : Account) (seen : Seen) (first : ℕ) (returned : ℕ → Bool) (rows_by : SegmentTerms → Rows) (p : CorrectedPost) (b : Book) (on cents : ℕ) (pl : Place) (s new : State) (t after : Track)
    → StandWith a seen first returned rows_by b s t → StandsAt a seen (effect issued a seen p (post.Charge on pl cents) b) new.rates new.segments.balances after.entries.items → new.rates ≡ s.rates → new.rows.items ≡ s.rows.items → after.fees.items ≡ t.fees.items
    → StandWith a seen first returned rows_by (effect issued a seen p (post.Charge on pl cents) b) new after
unfolding effect
charge-stand issued a seen first returned rows_by p b on cents pl s new t after h at rates rows fees =
    others-stand a seen first returned rows_by b (effect issued a seen p (post.Charge on pl cents) b) s new t after _ h at rates rows fees refl (charge-grown issued a seen p b on cents pl)
    (all-debit IsOther seen.day p.number (segment_at pl seen.day (all_segments a seen)) p.cents (credit_balance b.entries) kind.Charge (λ s z. refl))

pub refund-stand : (issued : Option IssuedRow) (a : Account) (seen : Seen) (first : ℕ) (returned : ℕ → Bool) (rows_by : SegmentTerms → Rows) (p : CorrectedPost) (b : Book) (cents : ℕ) (s new : State) (t after : Track)
    → StandWith a seen first returned rows_by b s t → StandsAt a seen (effect issued a seen p (post.Refund cents) b) new.rates new.segments.balances after.entries.items → new.rates ≡ s.rates → new.rows.items ≡ s.rows.items → after.fees.items ≡ t.fees.items
    → StandWith a seen first returned rows_by (effect issued a seen p (post.Refund cents) b) new after
unfolding effect
refund-stand issued a seen first returned rows_by p b cents s new t after h at rates rows fees =
    others-stand a seen first returned rows_by b (effect issued a seen p (post.Refund cents) b) s new t after _ h at rates rows fees refl (refund-grown issued a seen p b cents)
    (all-debit IsOther seen.day p.number (newest_purchase a seen) p.cents (credit_balance b.entries) kind.Refund (λ s z. refl))

-- parts that count as repaid
pub repaid-stand : (k : EntryKind) (a : Account) (seen : Seen) (first : ℕ) (returned : ℕ → Bool) (rows_by : SegmentTerms → Rows) (b c : Book) (s new : State) (t after : Track) (slot : Slot) (parts : List (ℕ × ℕ)) (old now : List Rows)
    → AreByNumber 2 s.rates.segments → first ≤ slot.day → repays returned k slot.number ≡ true
    → StandWith a seen first returned rows_by b s t → StandsAt a seen c new.rates new.segments.balances after.entries.items → new.rates ≡ s.rates → after.fees.items ≡ t.fees.items → c.fees ≡ b.fees
    → after.entries.items ≡ t.entries.items ++ parts_entries (record { day = slot.day; kind = k; post = slot.number }) parts
    → AreRepaid slot.day slot.number parts old now → old ≡ s.rows.items → new.rows.items ≡ now → StandWith a seen first returned rows_by c new after
repaid-stand k a seen first returned rows_by b c s new t after slot parts old now numbers l r h at rates fees same_fees grown brings from to =
    let more = parts_entries (record { day = slot.day; kind = k; post = slot.number }) parts in
    let whole : b.entries ++ more ≡ c.entries = sym (ap (λ es. es ++ more) h.at.same) ∙ (sym grown ∙ at.same) in
    record {
      at = at;
      fees = fees ∙ (h.fees ∙ sym same_fees);
      rows = to ∙ (brings k returned s.rates.segments rows_by first b.entries numbers l r (from ∙ h.rows)
          ∙ (ap (λ es. repaid_rows returned first rows_by s.rates.segments es) whole ∙ ap (λ (q : Rates). repaid_rows returned first rows_by q.segments c.entries) (sym rates)));
    }

pub payment-fees : (issued : Option IssuedRow) (a : Account) (seen : Seen) (p : CorrectedPost) (b : Book) (on minute cents : ℕ) (by : Channel) → (effect issued a seen p (post.Payment on minute by cents) b).fees ≡ b.fees
unfolding effect
payment-fees issued a seen p b on minute cents by = refl

pub credit-fees : (issued : Option IssuedRow) (a : Account) (seen : Seen) (p : CorrectedPost) (b : Book) (on cents : ℕ) (pl : Place) → (effect issued a seen p (post.Credit on pl cents) b).fees ≡ b.fees
unfolding effect
credit-fees issued a seen p b on cents pl = refl

-- ---- amounts
-- ---- the book after a post
-- it has more entries and fees, and cycles and penalties are as they were
pub record IsAdded (b c : Book) : Type 0 where
  pub more : List Entry
  pub entries : c.entries ≡ b.entries ++ more
  pub cycles : c.cycles ≡ b.cycles
  pub penalties : c.penalties ≡ b.penalties
  pub charged : List Fee
  pub fees : c.fees ≡ b.fees ++ charged

none-added : (b : Book) → IsAdded b b
none-added b = record { more = []; entries = sym (append-nil b.entries); cycles = refl; penalties = refl; charged = []; fees = sym (append-nil b.fees) }

-- entries that bring nothing come behind those that there were
pub record Behind (es new : List Entry) : Type 0 where
  pub more : List Entry
  pub is : new ≡ es ++ more
  pub others : All IsOther more

put-behind : (day n newest : ℕ) (ps es : List Entry) → Behind es (put_back (record { day = day; kind = kind.Return; post = n }) newest ps es)
put-behind day n newest [] es = record { more = []; is = sym (append-nil es); others = All-nil IsOther }
put-behind day n newest (p ∷ ps) es =
    let g = cond (eqb p.segment 0) newest p.segment in
    let ds = debit (record { day = day; kind = kind.Return; post = n }) g (size p.cents) (credit_balance es) in
    let rest = put-behind day n newest ps (es ++ ds) in
    record {
      more = ds ++ rest.more;
      is = rest.is ∙ append_assoc es ds rest.more;
      others = All-append IsOther ds rest.more (all-debit IsOther day n g (size p.cents) (credit_balance es) kind.Return (λ s z. refl)) rest.others;
    }

fee-behind : (a : Account) (seen : Seen) (n : ℕ) (o : Option Fee) (es : List Entry) (c : Book) → Behind es c.entries → Behind es (with_fee a seen n o c).entries
fee-behind a seen n None es c h = h
fee-behind a seen n (Some f) es c h =
    let g = newest_purchase a seen in
    let ds = debit (note_of seen kind.Fee n) g (fee_cents f) (credit_balance c.entries) in
    record {
      more = h.more ++ ds;
      is = ap (λ us. us ++ ds) h.is ∙ append_assoc es h.more ds;
      others = All-append IsOther h.more ds h.others (all-debit IsOther seen.day n g (fee_cents f) (credit_balance c.entries) kind.Fee (λ s z. refl));
    }

return-behind : (issued : Option IssuedRow) (a : Account) (seen : Seen) (p : CorrectedPost) (b : Book) (d target : ℕ) → Behind b.entries (effect issued a seen p (post.Return d target) b).entries
unfolding effect
return-behind issued a seen p b d target =
    fee-behind a seen p.number (returned_fee issued seen b (meant_for b.cycles (payment_at target seen.posts))) b.entries (returned a seen p.number target b)
    (put-behind seen.day p.number (newest_purchase a seen) (filter (is_part_of target) b.entries) b.entries)

fee-cycles : (a : Account) (seen : Seen) (n : ℕ) (o : Option Fee) (c : Book) → (with_fee a seen n o c).cycles ≡ c.cycles
fee-cycles a seen n None c = refl
fee-cycles a seen n (Some f) c = refl

fee-penalties : (a : Account) (seen : Seen) (n : ℕ) (o : Option Fee) (c : Book) → (with_fee a seen n o c).penalties ≡ c.penalties
fee-penalties a seen n None c = refl
fee-penalties a seen n (Some f) c = refl

fee-fees : (a : Account) (seen : Seen) (n : ℕ) (o : Option Fee) (c : Book) → (with_fee a seen n o c).fees ≡ fees_with o c.fees
fee-fees a seen n None c = refl
fee-fees a seen n (Some f) c = refl

-- a fee comes behind those that there were
fees-more : (o : Option Fee) (fs : List Fee) → fees_with o fs ≡ fs ++ fees_with o []
fees-more None fs = sym (append-nil fs)
fees-more (Some f) fs = refl

return-added : (issued : Option IssuedRow) (a : Account) (seen : Seen) (p : CorrectedPost) (b : Book) (d target : ℕ) → IsAdded b (effect issued a seen p (post.Return d target) b)
unfolding effect
return-added issued a seen p b d target =
    let behind = return-behind issued a seen p b d target in
    let o = returned_fee issued seen b (meant_for b.cycles (payment_at target seen.posts)) in
    let back = returned a seen p.number target b in
    record {
      more = behind.more;
      entries = behind.is;
      cycles = fee-cycles a seen p.number o back;
      penalties = fee-penalties a seen p.number o back;
      charged = fees_with o [];
      fees = fee-fees a seen p.number o back ∙ fees-more o b.fees;
    }

return-fees : (issued : Option IssuedRow) (a : Account) (seen : Seen) (p : CorrectedPost) (b : Book) (d target : ℕ)
    → (effect issued a seen p (post.Return d target) b).fees ≡ fees_with (returned_fee issued seen b (meant_for b.cycles (payment_at target seen.posts))) b.fees
unfolding effect
return-fees issued a seen p b d target = fee-fees a seen p.number (returned_fee issued seen b (meant_for b.cycles (payment_at target seen.posts))) (returned a seen p.number target b)

no-way : {X : Type 0} → true ≡ false → X
no-way e = absurd (no e)
  where
    no : true ≡ false → ⊥
    no e = cc

pub effect-adds : (issued : Option IssuedRow) (a : Account) (seen : Seen) (s : CorrectedPost) (p : Post) (b : Book) → is_penalty p ≡ false → IsAdded b (effect issued a seen s p b)
unfolding effect
effect-adds issued a seen s (post.Charge d p n) b e = record { more = _; entries = refl; cycles = refl; penalties = refl; charged = []; fees = sym (append-nil b.fees) }
effect-adds issued a seen s (post.Payment d m c n) b e = record { more = _; entries = refl; cycles = refl; penalties = refl; charged = []; fees = sym (append-nil b.fees) }
effect-adds issued a seen s (post.Credit d p n) b e = record { more = _; entries = refl; cycles = refl; penalties = refl; charged = []; fees = sym (append-nil b.fees) }
effect-adds issued a seen s (post.Refund n) b e = record { more = _; entries = refl; cycles = refl; penalties = refl; charged = []; fees = sym (append-nil b.fees) }
effect-adds issued a seen s (post.Return d target) b e = return-added issued a seen s b d target
effect-adds issued a seen s (post.Dispute d target claim) b e = record { more = _; entries = refl; cycles = refl; penalties = refl; charged = []; fees = sym (append-nil b.fees) }
effect-adds issued a seen s (post.Resolve d target c) b e = record { more = _; entries = refl; cycles = refl; penalties = refl; charged = []; fees = sym (append-nil b.fees) }
effect-adds issued a seen s post.Penalty b e = no-way e
effect-adds issued a seen s (post.Open d t) b e = none-added b
effect-adds issued a seen s (post.OpenVariable d t) b e = none-added b
effect-adds issued a seen s (post.Plan d k r x f) b e = none-added b
effect-adds issued a seen s (post.Notice d c r x) b e = none-added b
effect-adds issued a seen s (post.Lower d c r) b e = none-added b
effect-adds issued a seen s (post.Review d f) b e = none-added b
effect-adds issued a seen s (post.Ack d t) b e = none-added b
effect-adds issued a seen s (post.AskRefund d) b e = none-added b
effect-adds issued a seen s (post.Amend t d c) b e = none-added b
effect-adds issued a seen s (post.Bill c) b e = none-added b

-- ---- a payment that is returned
mapped : {X Y Z : Type 0} (f : Y → Z) (h : X → Y) (xs : List X) → map f (map h xs) ≡ map (λ x. f (h x)) xs
mapped f h [] = refl
mapped f h (x ∷ xs) = ap (λ ys. f (h x) ∷ ys) (mapped f h xs)

-- what a return left of state and track
pub record IsReturned (s new : State) (t after : Track) (charged : Option Fee) (payment : ℕ) : Type 0 where
  pub rates : new.rates ≡ s.rates
  pub fees : after.fees.items ≡ fees_with charged t.fees.items
  pub rows : new.rows.items ≡ map (without_post payment) s.rows.items

pub return-stand : (issued : Option IssuedRow) (a : Account) (seen : Seen) (first : ℕ) (gone : ℕ → Bool) (rows_by : SegmentTerms → Rows) (p : CorrectedPost) (b : Book) (d payment : ℕ) (s new : State) (t after : Track) (charged : Option Fee)
    → StandWith a seen first gone rows_by b s t → StandsAt a seen (effect issued a seen p (post.Return d payment) b) new.rates new.segments.balances after.entries.items
    → charged ≡ returned_fee issued seen b (meant_for b.cycles (payment_at payment seen.posts)) → IsReturned s new t after charged payment → IsOfNoCredit payment b.entries
    → StandWith a seen first (or_post gone payment) rows_by (effect issued a seen p (post.Return d payment) b) new after
return-stand issued a seen first gone rows_by p b d payment s new t after charged h at fee is credits =
    let c = effect issued a seen p (post.Return d payment) b in
    let behind = return-behind issued a seen p b d payment in
    let each : (g : SegmentTerms) → without_post payment (held gone first rows_by b g) ≡ held (or_post gone payment) first rows_by c g =
    λ g. ap (λ r. with_repaid r (rows_by g))
    (sym (rows_grow.returned gone payment g.id first b.entries credits) ∙ sym (ap (brought (or_post gone payment) g.id first) behind.is ∙ others-bring (or_post gone payment) g.id first b.entries behind.more behind.others)) in
    record {
      at = at;
      fees = is.fees ∙ (ap (fees_with charged) h.fees ∙ (ap (λ o. fees_with o b.fees) fee ∙ sym (return-fees issued a seen p b d payment)));
      rows = is.rows ∙ (ap (map (without_post payment)) h.rows ∙ (mapped (without_post payment) (held gone first rows_by b) s.rates.segments
          ∙ (each-same (λ g. without_post payment (held gone first rows_by b g)) (held (or_post gone payment) first rows_by c) each s.rates.segments
          ∙ ap (λ (r : Rates). repaid_rows (or_post gone payment) first rows_by r.segments c.entries) (sym is.rates))));
    }

-- ---- results
pub on-ok : {A E : Type 0} (r : Result A E) (P Q : Type 0) → OnOk r P → (P → Q) → OnOk r Q
on-ok (Ok x) P Q h f = f h
on-ok (Err e) P Q h f = h

-- the lesser of two amounts
pub lesser-is : (r x : ℤ) (y m n : ℕ) → r ≡ pos (min (unsigned_abs x) y) → x ≡ pos m → y ≡ n → r ≡ pos (min m n)
lesser-is r x y m n e f g = e ∙ (ap (λ u. pos (min (unsigned_abs u) y)) f ∙ ap (λ u. pos (min m u)) g)

-- ---- a post's slot
pub slot-is : (seen : Seen) (p : CorrectedPost) (x : DayPost) → x ≡ day_post p → x.slot.day ≡ seen.day → IsSlotOf seen p x.slot
slot-is seen p x e d = record { same = ap (λ (y : DayPost). y.slot) e; day = sym (ap (λ (y : DayPost). y.slot.day) e) ∙ d }

-- an amount as it is handed on
pub handed : (z : ℤ) → pos 0 ≤ℤ z → z ≤ℤ pos balance_limit → to_z w64 (of_z w64 z) ≡ z
handed z low high = to_z-of_z w64 z (within-fits balance_limit z (omega arith) (omega (arith, ints, low), high))

-- ---- the kinds that change nothing
pub nothing-done : (issued : Option IssuedRow) (a : Account) (seen : Seen) (s : CorrectedPost) (q : Post) (b : Book) → is_penalty q ≡ false
    → ((d : ℕ) (pl : Place) (n : ℕ) → q ≡ post.Charge d pl n → ⊥)
    → ((d : ℕ) (pl : Place) (n : ℕ) → q ≡ post.Credit d pl n → ⊥)
    → ((d m : ℕ) (by : Channel) (n : ℕ) → q ≡ post.Payment d m by n → ⊥)
    → ((n : ℕ) → q ≡ post.Refund n → ⊥)
    → ((d t : ℕ) → q ≡ post.Return d t → ⊥)
    → ((d t n : ℕ) → q ≡ post.Dispute d t n → ⊥)
    → ((d t n : ℕ) → q ≡ post.Resolve d t n → ⊥)
    → effect issued a seen s q b ≡ b
unfolding effect
nothing-done issued a seen s (post.Charge d pl n) b e no1 no2 no3 no4 no5 no6 no7 = absurd (no1 d pl n refl)
nothing-done issued a seen s (post.Credit d pl n) b e no1 no2 no3 no4 no5 no6 no7 = absurd (no2 d pl n refl)
nothing-done issued a seen s (post.Payment d m by n) b e no1 no2 no3 no4 no5 no6 no7 = absurd (no3 d m by n refl)
nothing-done issued a seen s (post.Refund n) b e no1 no2 no3 no4 no5 no6 no7 = absurd (no4 n refl)
nothing-done issued a seen s (post.Return d target) b e no1 no2 no3 no4 no5 no6 no7 = absurd (no5 d target refl)
nothing-done issued a seen s (post.Dispute d target claim) b e no1 no2 no3 no4 no5 no6 no7 = absurd (no6 d target claim refl)
nothing-done issued a seen s (post.Resolve d target c) b e no1 no2 no3 no4 no5 no6 no7 = absurd (no7 d target c refl)
nothing-done issued a seen s post.Penalty b e no1 no2 no3 no4 no5 no6 no7 = no-way e
nothing-done issued a seen s (post.Open d t) b e no1 no2 no3 no4 no5 no6 no7 = refl
nothing-done issued a seen s (post.OpenVariable d t) b e no1 no2 no3 no4 no5 no6 no7 = refl
nothing-done issued a seen s (post.Plan d k r x f) b e no1 no2 no3 no4 no5 no6 no7 = refl
nothing-done issued a seen s (post.Notice d c r x) b e no1 no2 no3 no4 no5 no6 no7 = refl
nothing-done issued a seen s (post.Lower d c r) b e no1 no2 no3 no4 no5 no6 no7 = refl
nothing-done issued a seen s (post.Review d f) b e no1 no2 no3 no4 no5 no6 no7 = refl
nothing-done issued a seen s (post.Ack d t) b e no1 no2 no3 no4 no5 no6 no7 = refl
nothing-done issued a seen s (post.AskRefund d) b e no1 no2 no3 no4 no5 no6 no7 = refl
nothing-done issued a seen s (post.Amend t d c) b e no1 no2 no3 no4 no5 no6 no7 = refl
nothing-done issued a seen s (post.Bill c) b e no1 no2 no3 no4 no5 no6 no7 = refl

-- the other kinds return nothing
pub returns-none : (n : ℕ) (q : Post) → ((d t : ℕ) → q ≡ post.Return d t → ⊥) → returns n q ≡ false
returns-none n (post.Return d t) other = absurd (other d t refl)
returns-none n post.Penalty other = refl
returns-none n (post.Charge d p c) other = refl
returns-none n (post.Payment d m c x) other = refl
returns-none n (post.Credit d p c) other = refl
returns-none n (post.Dispute d t c) other = refl
returns-none n (post.Resolve d t c) other = refl
returns-none n (post.Refund c) other = refl
returns-none n (post.Open d t) other = refl
returns-none n (post.OpenVariable d t) other = refl
returns-none n (post.Plan d k r x f) other = refl
returns-none n (post.Notice d c r x) other = refl
returns-none n (post.Lower d c r) other = refl
returns-none n (post.Review d f) other = refl
returns-none n (post.Ack d t) other = refl
returns-none n (post.AskRefund d) other = refl
returns-none n (post.Amend t d c) other = refl
returns-none n (post.Bill c) other = refl

still : (returned : ℕ → Bool) (q : Post) → ((n : ℕ) → returns n q ≡ false) → (n : ℕ) → returned n ≡ returned_after returned q n
still returned q none n = sym (ap (λ t. returned n || t) (none n) ∙ or-false (returned n))
  where
    or-false : (t : Bool) → (t || false) ≡ t
    or-false true = refl
    or-false false = refl

-- a post's own kind, that returns nothing
pub of-kind : (issued : Option IssuedRow) (a : Account) (seen : Seen) (first : ℕ) (returned : ℕ → Bool) (rows_by : SegmentTerms → Rows) (p : CorrectedPost) (x : DayPost) (q : Post) (b : Book) (s : State) (t : Track)
    → x ≡ day_post p → x.post ≡ q → ((n : ℕ) → returns n q ≡ false) → StandWith a seen first returned rows_by (effect issued a seen p q b) s t
    → StandWith a seen first (returned_after returned p.post) rows_by (effect issued a seen p p.post b) s t
of-kind issued a seen first returned rows_by p x q b s t e f none h =
    subst (λ (r : Post). StandWith a seen first (returned_after returned r) rows_by (effect issued a seen p r b) s t) (sym f ∙ ap (λ (y : DayPost). y.post) e)
    (same-returned a seen first returned (returned_after returned q) rows_by (effect issued a seen p q b) s t (still returned q none) h)

-- a Return
after-return : (returned : ℕ → Bool) (d n m : ℕ) → or_post returned n m ≡ returned_after returned (post.Return d n) m
after-return returned d n m = ap (λ t. returned m || t) (swap m n)
  where
    swap : (m n : ℕ) → eqb m n ≡ eqb n m
    swap m n = grind (arith, nat_tests)

pub of-return : (issued : Option IssuedRow) (a : Account) (seen : Seen) (first : ℕ) (returned : ℕ → Bool) (rows_by : SegmentTerms → Rows) (p : CorrectedPost) (x : DayPost) (d n : ℕ) (b : Book) (s : State) (t : Track)
    → x ≡ day_post p → x.post ≡ post.Return d n → StandWith a seen first (or_post returned n) rows_by (effect issued a seen p (post.Return d n) b) s t
    → StandWith a seen first (returned_after returned p.post) rows_by (effect issued a seen p p.post b) s t
of-return issued a seen first returned rows_by p x d n b s t e f h =
    subst (λ (r : Post). StandWith a seen first (returned_after returned r) rows_by (effect issued a seen p r b) s t) (sym f ∙ ap (λ (y : DayPost). y.post) e)
    (same-returned a seen first (or_post returned n) (returned_after returned (post.Return d n)) rows_by (effect issued a seen p (post.Return d n) b) s t (after-return returned d n) h)
