-- The book after the parts of a payment were put back.
use Rattle.std.proofs.Common.{◌≡◌, ℕ, ◌<◌, ◌≤◌, Bool, true, false, cond, List, [], ◌∷◌, ◌++◌, length, refl, sym, ap, ◌∙◌, subst, arith, eqb, eq-eqb, get_or, ℤ, pos, Option, Result, Ok, Err}
use Rattle.std.specs.Prelude.{OnOk}
use Rattle.std.specs.List.{All, filter}
use Rattle.std.proofs.lemmas.Bool.{false≢true}
use Rattle.std.proofs.lemmas.Int.{ints}
use Rattle.std.proofs.lemmas.List.Elements.{All-append, All-cons, All-filter, All-head, All-nil, All-tail}
use Rattle.card_segments.proofs.Payable.{HaveRoom, back-known, can-move, limit, room-raise, room-start}
use Rattle.card_segments.proofs.Returned.{returned-is}
use Rattle.card_segments.specs.Parts.{AreOnSegments, back_entries, parts_in, parts_sum, segment_back}
use Rattle.card_events.specs.History.{CorrectedPost}
use Rattle.card_events.specs.declared.kept.Slot.{Slot}
use Rattle.card_events.specs.declared.post.Post.TheVariants as post
use Rattle.card_model.proofs.EntryFacts.{balance-append}
use Rattle.card_model.proofs.Posted.{debit-known, length-posted, posted-append}
use Rattle.card_model.specs.Books.{Account, Book, newest_purchase, note_of}
use Rattle.card_model.specs.Cycles.{IssuedRow, Seen}
use Rattle.card_model.specs.Effects.{effect, is_part_of, meant_for, payment_at, put_back, returned, returned_fee, size}
use Rattle.card_model.specs.Entries.{credit_in, debit, posted}
use Rattle.card_model.specs.Fees.{with_fee}
use Rattle.card_model.specs.Limits.{balance_limit}
use Rattle.card_model.specs.Segments.{newest}
use Rattle.card_model.specs.declared.entry.Entry.{Entry}
use Rattle.card_model.specs.declared.entry.EntryKind.TheVariants as kind
use Rattle.card_model.specs.declared.entry.Note.{Note}
use Rattle.card_model.specs.declared.fee.Fee.{Fee}
use Rattle.card_model.specs.declared.segment.Sort.TheVariants as sort
use Rattle.card_rates.specs.RateBooks.{AreByNumber, Rates}
use Rattle.card_segments.specs.Balances.{AreWithin, Balances, IsWithin, after_entries}
use Rattle.card_effects.specs.Returned.{AreOfThose, parts_of}
use Rattle.card_effects.specs.Standing.{IsSlotOf, StandsAt, is_added}
use Rattle.card_effects.proofs.Standing.{AreThere, IsThere, after-entries, debit-there, newest-there, slot-day, slot-note, slot-place, the_note}

-- ---- the segments of parts
-- a part goes back to a segment that is there
abbrev GoesBack : ℕ → Rates → ℕ → ℕ × ℕ → Type 0
GoesBack day rated newest p = IsThere day rated (segment_back newest p.0)

all-there : (day : ℕ) (rated : Rates) (es : List Entry) → AreOfThose day rated es → All (λ (e : Entry). IsThere day rated e.segment) es
all-there day rated es those k d l h c f e = false≢true (sym (those h c f k d l) ∙ eq-eqb (get_or es k d).segment h.id (sym e))

parts-there : (day : ℕ) (rated : Rates) (newest : ℕ) (es : List Entry) → IsThere day rated newest → All (λ (e : Entry). IsThere day rated e.segment) es → All (GoesBack day rated newest) (parts_in es)
parts-there day rated newest [] t h = All-nil (GoesBack day rated newest)
parts-there day rated newest (e ∷ es) t h =
    All-cons (GoesBack day rated newest) (e.segment, size e.cents) (parts_in es) (by (eqb e.segment 0) (All-head (λ (e : Entry). IsThere day rated e.segment) e es h))
    (parts-there day rated newest es t (All-tail (λ (e : Entry). IsThere day rated e.segment) e es h))
  where
    by : (b : Bool) → IsThere day rated e.segment → IsThere day rated (cond b newest e.segment)
    by true m = t
    by false m = m

-- ---- entries that put parts back
back-there : (day : ℕ) (rated : Rates) (note : Note) (newest : ℕ) (ps : List (ℕ × ℕ)) (bs : List ℤ) → AreByNumber 2 rated.segments → All (GoesBack day rated newest) ps → AreThere day rated (back_entries note newest ps bs)
unfolding back_entries
back-there day rated note newest [] bs numbers h g c f = refl
back-there day rated note newest (p ∷ ps) bs numbers h g c f =
    let ds = debit note (segment_back newest p.0) p.1 (credit_in bs) in
    let here = debit-there day rated note (segment_back newest p.0) p.1 (credit_in bs) numbers (All-head (GoesBack day rated newest) p ps h) g c f in
    let rest = back-there day rated note newest ps (posted ds bs) numbers (All-tail (GoesBack day rated newest) p ps h) g c f in
    balance-append g.id ds (back_entries note newest ps (posted ds bs)) ∙ omega (arith, ints, here, rest)

abbrev IsBelow : ℕ → ℕ × ℕ → Type 0
IsBelow n p = p.0 < n

back-on : (n : ℕ) (note : Note) (newest : ℕ) (ps : List (ℕ × ℕ)) (bs : List ℤ) → newest < n → All (IsBelow n) ps → All (λ (e : Entry). e.segment < n) (back_entries note newest ps bs)
unfolding back_entries
back-on n note newest [] bs l h = All-nil (λ (e : Entry). e.segment < n)
back-on n note newest (p ∷ ps) bs l h =
    let ds = debit note (segment_back newest p.0) p.1 (credit_in bs) in
    All-append (λ (e : Entry). e.segment < n) ds (back_entries note newest ps (posted ds bs))
    (debit-known note (segment_back newest p.0) p.1 (credit_in bs) n (omega arith) (back-known newest n p l (All-head (IsBelow n) p ps h)))
    (back-on n note newest ps (posted ds bs) l (All-tail (IsBelow n) p ps h))

parts-on : (n : ℕ) (es : List Entry) → All (λ (e : Entry). e.segment < n) es → All (IsBelow n) (parts_in es)
parts-on n [] h = All-nil (IsBelow n)
parts-on n (e ∷ es) h = All-cons (IsBelow n) (e.segment, size e.cents) (parts_in es) (All-head (λ (e : Entry). e.segment < n) e es h) (parts-on n es (All-tail (λ (e : Entry). e.segment < n) e es h))

-- balances stay small
back-room : (note : Note) (newest : ℕ) (ps : List (ℕ × ℕ)) (bs : List ℤ) → newest < length bs → HaveRoom bs ps → AreWithin limit (posted (back_entries note newest ps bs) bs)
unfolding back_entries
back-room note newest [] bs l h = h.small
back-room note newest (p ∷ ps) bs l h =
    let can = can-move bs p ps h in
    let ds = debit note (segment_back newest p.0) p.1 (credit_in bs) in
    let known = back-known newest (length bs) p l can.known in
    subst (AreWithin limit) (sym (posted-append ds (back_entries note newest ps (posted ds bs)) bs))
    (back-room note newest ps (posted ds bs) (rw (length-posted ds bs) l) (room-raise note newest bs p ps known h))

wider : (z : ℤ) → IsWithin balance_limit z → IsWithin 9_000_000_000_000_000 z
wider z w = (omega (arith, ints, w.0), omega (arith, ints, w.1))

pub back-small : (note : Note) (newest : ℕ) (ps : List (ℕ × ℕ)) (before after : Balances) → newest < length before.balances → AreOnSegments (length before.balances) ps → parts_sum ps ≤ balance_limit → AreWithin balance_limit before.balances
    → after ≡ after_entries (back_entries note newest ps before.balances) before → AreWithin 10_000_000_000_000_000 after.balances
back-small note newest ps before after l on sum small moved =
    subst (λ (v : Balances). AreWithin 10_000_000_000_000_000 v.balances) (sym moved)
    (back-room note newest ps before.balances l (room-start before.balances ps on sum (λ s. wider (get_or before.balances s (pos 0)) (small s))))

-- ---- the book
-- what putting parts back left
pub record ArePutBack (before after : Balances) (es new : List Entry) (note : Note) (newest : ℕ) (ps : List (ℕ × ℕ)) : Type 0 where
  pub known : newest < length before.balances
  pub moved : after ≡ after_entries (back_entries note newest ps before.balances) before
  pub grown : new ≡ es ++ back_entries note newest ps before.balances

alike : (n m : Note) (g h : ℕ) (paid es : List Entry) → n ≡ m → g ≡ h → put_back m h paid es ≡ put_back n g paid es
alike n m g h paid es e f = sym (ap (λ (u : Note). put_back u g paid es) e ∙ ap (λ (u : ℕ). put_back m u paid es) f)

pub back-stands : (a : Account) (seen : Seen) (p : CorrectedPost) (b : Book) (rated : Rates) (before after : Balances) (es new : List Entry) (slot : Slot) (payment g : ℕ) (note : Note) (ps : List (ℕ × ℕ))
    → AreByNumber 2 rated.segments → StandsAt a seen b rated before.balances es → AreOfThose seen.day rated b.entries → IsSlotOf seen p slot → note ≡ the_note slot.day kind.Return slot.number
    → g ≡ newest sort.Purchase slot.day (filter (is_added slot.day) rated.segments) → ps ≡ parts_of payment es → ArePutBack before after es new note g ps
    → StandsAt a seen (returned a seen p.number payment b) rated after.balances new
back-stands a seen p b rated before after es new slot payment g note ps numbers s those is n q w d =
    let bs = before.balances in
    let paid = filter (is_part_of payment) b.entries in
    let here = slot-place a seen b rated bs es slot.day g (newest sort.Purchase) s (slot-day seen p slot is) q in
    let there = subst (IsThere seen.day rated) (sym here) (newest-there a seen b rated bs es sort.Purchase numbers s) in
    let same : ps ≡ parts_in paid = w ∙ ap (parts_of payment) s.same in
    let more = back_entries note g (parts_in paid) bs in
    let on = All-filter (is_part_of payment) (λ (e : Entry). e.segment < length bs) b.entries s.sums.known in
    let law = returned-is note g paid b.entries bs s.sums d.known on in
    let grown : (returned a seen p.number payment b).entries ≡ b.entries ++ more =
    alike note (note_of seen kind.Return p.number) g (newest_purchase a seen) paid b.entries (n ∙ slot-note seen p slot kind.Return is) (here ∙ ap (newest sort.Purchase seen.day) (sym s.segments)) ∙ law in
    let stands = after-entries a seen b (returned a seen p.number payment b) rated bs es more s grown refl
    (back-on (length bs) note g (parts_in paid) bs d.known (parts-on (length bs) paid on))
    (back-there seen.day rated note g (parts_in paid) bs numbers
    (parts-there seen.day rated g paid there (All-filter (is_part_of payment) (λ (e : Entry). IsThere seen.day rated e.segment) b.entries (all-there seen.day rated b.entries those)))) in
    let moved = d.moved ∙ ap (λ us. after_entries (back_entries note g us bs) before) same in
    let longer = d.grown ∙ ap (λ us. es ++ back_entries note g us bs) same in
    subst (λ us. StandsAt a seen (returned a seen p.number payment b) rated after.balances us) (sym longer)
    (subst (λ (v : Balances). StandsAt a seen (returned a seen p.number payment b) rated v.balances (es ++ more)) (sym moved) stands)

-- the fee after the parts
pub return-stands : (issued : Option IssuedRow) (a : Account) (seen : Seen) (p : CorrectedPost) (b : Book) (day payment : ℕ) (rated : Rates) (bs : List ℤ) (es : List Entry) (charged : Option Fee) (slot : Slot)
    → IsSlotOf seen p slot → charged ≡ returned_fee issued seen b (meant_for b.cycles (payment_at payment seen.posts)) → StandsAt a seen (with_fee a seen slot.number charged (returned a seen p.number payment b)) rated bs es
    → StandsAt a seen (effect issued a seen p (post.Return day payment) b) rated bs es
unfolding effect
return-stands issued a seen p b day payment rated bs es charged slot is e h =
    let number : slot.number ≡ p.number = ap (λ (s : Slot). s.number) is.same in
    subst (λ o. StandsAt a seen (with_fee a seen p.number o (returned a seen p.number payment b)) rated bs es) e
    (subst (λ n. StandsAt a seen (with_fee a seen n charged (returned a seen p.number payment b)) rated bs es) number h)

-- ---- results
pub both-ok : {A E : Type 0} (r : Result A E) (P Q R : Type 0) → OnOk r P → OnOk r Q → (P → Q → R) → OnOk r R
both-ok (Ok x) P Q R p q f = f p q
both-ok (Err e) P Q R p q f = p
