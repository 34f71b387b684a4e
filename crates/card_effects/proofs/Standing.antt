-- What stays true of a book after entries of today.
use Rattle.std.proofs.Common.{◌≡◌, ℕ, ◌-◌, ◌<◌, ◌≤◌, true, false, List, [], ◌∷◌, ◌++◌, length, refl, sym, ap, ◌∙◌, subst, arith, eqb, get_or, Option, Some, ℤ, pos, w64, to_z, of_z}
use Rattle.std.specs.Prelude.{neg_ℤ, ◌≤ℤ◌}
use Rattle.std.specs.List.{All, Contains, filter, filter_map}
use Rattle.std.proofs.lemmas.Int.{ints, to_z-of_z}
use Rattle.std.proofs.lemmas.Bool.{false≢true, ne_eqb}
use Rattle.std.proofs.lemmas.List.Elements.{All-cons, All-nil, All-contains_itself, All-filter, All-head, All-tail, filter_passes}
use Rattle.card_events.specs.declared.post.Place.{Place}
use Rattle.card_events.specs.declared.post.Place.TheVariants as place
use Rattle.card_events.specs.History.{CorrectedPost}
use Rattle.card_events.specs.declared.kept.Slot.{Slot}
use Rattle.card_events.specs.declared.post.Post.TheVariants as post
use Rattle.card_model.specs.Books.{Account, Book, all_segments, note_of}
use Rattle.card_model.specs.Cycles.{IssuedRow, Seen}
use Rattle.card_model.specs.Effects.{effect}
use Rattle.card_model.specs.Entries.{AreBalances, at_least_zero, balance, credit_balance, credit_in, debit, posted}
use Rattle.card_model.specs.Fees.{with_fee}
use Rattle.card_model.specs.Limits.{balance_limit}
use Rattle.card_model.specs.Rates.{index_for, lowerings, rate_on, starts}
use Rattle.card_model.specs.Segments.{SegmentTerms, newest, opening_vintage, segment_at, segment_of, segments}
use Rattle.card_model.specs.declared.entry.Entry.{Entry}
use Rattle.card_model.specs.declared.entry.EntryKind.{EntryKind}
use Rattle.card_model.specs.declared.entry.EntryKind.TheVariants as kind
use Rattle.card_model.specs.declared.entry.Note.{Note}
use Rattle.card_model.specs.declared.fee.Fee.{Fee}
use Rattle.card_model.specs.declared.segment.Sort.{Sort}
use Rattle.card_model.specs.declared.segment.Sort.TheVariants as sort
use Rattle.card_model.proofs.EntryFacts.{balance-append, balance-debit}
use Rattle.card_model.proofs.Posted.{are_balances-posted, debit-known}
use Rattle.card_rates.specs.RateBooks.{AreByNumber, Rates}
use Rattle.card_rates.proofs.ByNumber.{at-place, number-above}
use Rattle.card_segments.specs.Balances.{Balances, after_entries}
use Rattle.card_segments.proofs.Totals.{within-fits}
use Rattle.card_effects.specs.Standing.{IsSlotOf, StandsAt, is_added}
use Rattle.card_effects.proofs.Places.{find-all, last-all, no_segment}

-- ---- segments that are there
-- not the number of a segment that is still to come
abbrev pub IsThere : ℕ → Rates → ℕ → Type 0
IsThere day rated n = (h : SegmentTerms) → Contains rated.segments h → is_added day h ≡ false → h.id ≡ n → ⊥

one-number : (m : ℕ) (gs : List SegmentTerms) (g h : SegmentTerms) → AreByNumber m gs → Contains gs g → Contains gs h → h.id ≡ g.id → h ≡ g
one-number m gs g h numbers c d e = sym (at-place m gs h no_segment numbers d) ∙ (ap (λ k. get_or gs (k - m) no_segment) e ∙ at-place m gs g no_segment numbers c)

pub all-there : (day : ℕ) (rated : Rates) → AreByNumber 2 rated.segments → All (λ (g : SegmentTerms). IsThere day rated g.id) (filter (is_added day) rated.segments)
all-there day rated numbers = both (filter (is_added day) rated.segments) (All-filter (is_added day) (Contains rated.segments) rated.segments (All-contains_itself rated.segments)) (filter_passes (is_added day) rated.segments)
  where
    here : (g : SegmentTerms) → Contains rated.segments g → is_added day g ≡ true → IsThere day rated g.id
    here g c t h d f e =
        let same = one-number 2 rated.segments g h numbers c d e in
        false≢true (sym f ∙ (ap (is_added day) same ∙ t))

    both : (xs : List SegmentTerms) → All (Contains rated.segments) xs → All (λ g. is_added day g ≡ true) xs → All (λ (g : SegmentTerms). IsThere day rated g.id) xs
    both [] c t = All-nil (λ (g : SegmentTerms). IsThere day rated g.id)
    both (x ∷ xs) c t =
        All-cons (λ (g : SegmentTerms). IsThere day rated g.id) x xs (here x (All-head (Contains rated.segments) x xs c) (All-head (λ g. is_added day g ≡ true) x xs t))
        (both xs (All-tail (Contains rated.segments) x xs c) (All-tail (λ g. is_added day g ≡ true) x xs t))

-- the opening purchases are always there
first-there : (P : ℕ → Type 0) (a : Account) (seen : Seen) → All (λ (g : SegmentTerms). P g.id) (all_segments a seen) → P 2
unfolding segments
first-there P a seen h =
    All-head (λ (g : SegmentTerms). P g.id) (opening_vintage 2 sort.Purchase a.anchor.opened a.terms.purchase)
    (opening_vintage 3 sort.Cash a.anchor.opened a.terms.cash ∷ opening_vintage 4 sort.Transfer a.anchor.opened a.terms.transfer ∷ filter_map (λ (p : CorrectedPost). segment_of p.segment p.number p.post) seen.posts) h

pub two-there : (a : Account) (seen : Seen) (b : Book) (rated : Rates) (bs : List ℤ) (es : List Entry) → AreByNumber 2 rated.segments → StandsAt a seen b rated bs es → IsThere seen.day rated 2
two-there a seen b rated bs es numbers s = first-there (IsThere seen.day rated) a seen (rw s.segments (all-there seen.day rated numbers))

pub newest-there : (a : Account) (seen : Seen) (b : Book) (rated : Rates) (bs : List ℤ) (es : List Entry) (s : Sort) → AreByNumber 2 rated.segments → StandsAt a seen b rated bs es
    → IsThere seen.day rated (newest s seen.day (filter (is_added seen.day) rated.segments))
newest-there a seen b rated bs es s numbers h = last-all (IsThere seen.day rated) (two-there a seen b rated bs es numbers h) _ (filter (is_added seen.day) rated.segments) (all-there seen.day rated numbers)

pub place-there : (a : Account) (seen : Seen) (b : Book) (rated : Rates) (bs : List ℤ) (es : List Entry) (p : Place) → AreByNumber 2 rated.segments → StandsAt a seen b rated bs es
    → IsThere seen.day rated (segment_at p seen.day (filter (is_added seen.day) rated.segments))
place-there a seen b rated bs es place.Purchase numbers h = newest-there a seen b rated bs es sort.Purchase numbers h
place-there a seen b rated bs es place.Cash numbers h = newest-there a seen b rated bs es sort.Cash numbers h
place-there a seen b rated bs es place.Transfer numbers h = newest-there a seen b rated bs es sort.Transfer numbers h
place-there a seen b rated bs es (place.Plan n) numbers h = find-all (IsThere seen.day rated) (two-there a seen b rated bs es numbers h) _ (filter (is_added seen.day) rated.segments) (all-there seen.day rated numbers)

-- ---- more entries
-- entries on segments that are there
abbrev pub AreThere : ℕ → Rates → List Entry → Type 0
AreThere day rated more = (h : SegmentTerms) → Contains rated.segments h → is_added day h ≡ false → balance h.id more ≡ pos 0

pub after-entries : (a : Account) (seen : Seen) (b c : Book) (rated : Rates) (bs : List ℤ) (es more : List Entry) → StandsAt a seen b rated bs es → c.entries ≡ b.entries ++ more → c.penalties ≡ b.penalties
    → All (λ e. e.segment < length bs) more → AreThere seen.day rated more → StandsAt a seen c rated (posted more bs) (es ++ more)
after-entries a seen b c rated bs es more s grown same known there =
    record {
      segments = s.segments;
      rates = λ g. s.rates g ∙ ap (λ ps. rate_on (index_for a.variable seen.index seen.day) (lowerings seen.posts) a.terms.penalty (starts seen.day ps) (all_segments a seen) seen.day g) (sym same);
      same = ap (λ us. us ++ more) s.same ∙ sym grown;
      sums = subst (λ us. AreBalances us (posted more bs)) (sym grown) (are_balances-posted b.entries more bs known s.sums);
      to_come = λ g h f. ap (λ us. balance g.id us) grown ∙ (balance-append g.id b.entries more ∙ omega (arith, ints, s.to_come g h f, there g h f));
    }

pub credit-is : (a : Account) (seen : Seen) (b : Book) (rated : Rates) (bs : List ℤ) (es : List Entry) → StandsAt a seen b rated bs es → 0 < length bs → credit_in bs ≡ credit_balance b.entries
credit-is a seen b rated bs es s l = ap (λ z. at_least_zero (neg_ℤ z)) (s.sums.each 0 l)

pub debit-there : (day : ℕ) (rated : Rates) (note : Note) (g x credit : ℕ) → AreByNumber 2 rated.segments → IsThere day rated g → AreThere day rated (debit note g x credit)
debit-there day rated note g x credit numbers there h c f =
    let high = number-above 2 rated.segments h numbers c in
    let first : eqb 0 h.id ≡ false = ne_eqb 0 h.id (λ e. omega arith) in
    let second : eqb g h.id ≡ false = ne_eqb g h.id (λ e. there h c f (sym e)) in
    balance-debit note g x credit h.id ∙ rw (first, second) refl

-- a debit of today
pub after-debit : (a : Account) (seen : Seen) (b c : Book) (rated : Rates) (bs : List ℤ) (es : List Entry) (note : Note) (g x : ℕ) → AreByNumber 2 rated.segments → StandsAt a seen b rated bs es → 2 ≤ g → g < length bs → IsThere seen.day rated g
    → c.entries ≡ b.entries ++ debit note g x (credit_balance b.entries) → c.penalties ≡ b.penalties → StandsAt a seen c rated (posted (debit note g x (credit_in bs)) bs) (es ++ debit note g x (credit_in bs))
after-debit a seen b c rated bs es note g x numbers s low l there grown same =
    after-entries a seen b c rated bs es (debit note g x (credit_in bs)) s (grown ∙ ap (λ k. b.entries ++ debit note g x k) (sym (credit-is a seen b rated bs es s (omega arith)))) same
    (debit-known note g x (credit_in bs) (length bs) (omega arith) l) (debit-there seen.day rated note g x (credit_in bs) numbers there)

-- ---- a debit as the segments make it
-- what a debit left
pub record IsDebited (before after : Balances) (es new : List Entry) (note : Note) (g x : ℕ) : Type 0 where
  pub low : 2 ≤ g
  pub known : g < length before.balances
  pub moved : after ≡ after_entries (debit note g x (credit_in before.balances)) before
  pub grown : new ≡ es ++ debit note g x (credit_in before.balances)

pub debited : (a : Account) (seen : Seen) (b c : Book) (rated : Rates) (before after : Balances) (es new : List Entry) (note : Note) (g x : ℕ) → AreByNumber 2 rated.segments → StandsAt a seen b rated before.balances es
    → IsDebited before after es new note g x → IsThere seen.day rated g → c.entries ≡ b.entries ++ debit note g x (credit_balance b.entries) → c.penalties ≡ b.penalties → StandsAt a seen c rated after.balances new
debited a seen b c rated before after es new note g x numbers s d there grown same =
    let ds = debit note g x (credit_in before.balances) in
    let stands = after-debit a seen b c rated before.balances es note g x numbers s d.low d.known there grown same in
    subst (λ us. StandsAt a seen c rated after.balances us) (sym d.grown) (subst (λ (v : Balances). StandsAt a seen c rated v.balances (es ++ ds)) (sym d.moved) stands)

-- ---- a post's slot
pub slot-day : (seen : Seen) (p : CorrectedPost) (slot : Slot) → IsSlotOf seen p slot → slot.day ≡ seen.day
slot-day seen p slot is = ap (λ (s : Slot). s.day) is.same ∙ is.day

abbrev pub the_note : ℕ → EntryKind → ℕ → Note
the_note day k n = record { day = day; kind = k; post = n }

pub slot-note : (seen : Seen) (p : CorrectedPost) (slot : Slot) (k : EntryKind) → IsSlotOf seen p slot → the_note slot.day k slot.number ≡ the_note seen.day k p.number
slot-note seen p slot k is = ap (λ (x : ℕ). the_note x k slot.number) (slot-day seen p slot is) ∙ ap (λ (s : Slot). the_note seen.day k s.number) is.same

-- an amount as it is handed on
pub handed : (z : ℤ) → pos 0 ≤ℤ z → z ≤ℤ pos balance_limit → at_least_zero (to_z w64 (of_z w64 z)) ≡ at_least_zero z
handed z low high = ap at_least_zero (to_z-of_z w64 z (within-fits balance_limit z (omega arith) (omega (arith, ints, low), high)))

pub slot-cents : (seen : Seen) (p : CorrectedPost) (slot : Slot) → IsSlotOf seen p slot → at_least_zero slot.cents ≡ p.cents
slot-cents seen p slot is = ap (λ (s : Slot). at_least_zero s.cents) is.same

-- what a word says of the segments of a slot's day is what it says of today's
pub slot-place : (a : Account) (seen : Seen) (b : Book) (rated : Rates) (bs : List ℤ) (es : List Entry) (day g : ℕ) (at : ℕ → List SegmentTerms → ℕ) → StandsAt a seen b rated bs es → day ≡ seen.day
    → g ≡ at day (filter (is_added day) rated.segments) → g ≡ at seen.day (filter (is_added seen.day) rated.segments)
slot-place a seen b rated bs es day g at s e q = q ∙ ap (λ (d : ℕ). at d (filter (is_added d) rated.segments)) e

debit-is : (xs : List Entry) (n m : Note) (g h x y credit : ℕ) → n ≡ m → g ≡ h → x ≡ y → xs ++ debit m h y credit ≡ xs ++ debit n g x credit
debit-is xs n m g h x y credit p q r =
    sym (ap (λ (u : Note). xs ++ debit u g x credit) p ∙ (ap (λ (u : ℕ). xs ++ debit m u x credit) q ∙ ap (λ (u : ℕ). xs ++ debit m h u credit) r))

-- ---- each kind
pub charge-stands : (issued : Option IssuedRow) (a : Account) (seen : Seen) (p : CorrectedPost) (b : Book) (day cents : ℕ) (rated : Rates) (before after : Balances) (es new : List Entry) (slot : Slot) (pl : Place) (note : Note) (g x : ℕ)
    → AreByNumber 2 rated.segments → StandsAt a seen b rated before.balances es → IsSlotOf seen p slot → note ≡ the_note slot.day kind.Charge slot.number
    → g ≡ segment_at pl slot.day (filter (is_added slot.day) rated.segments) → x ≡ at_least_zero slot.cents → IsDebited before after es new note g x
    → StandsAt a seen (effect issued a seen p (post.Charge day pl cents) b) rated after.balances new
unfolding effect
charge-stands issued a seen p b day cents rated before after es new slot pl note g x numbers s is n q y d =
    let here = slot-place a seen b rated before.balances es slot.day g (segment_at pl) s (slot-day seen p slot is) q in
    let there = subst (IsThere seen.day rated) (sym here) (place-there a seen b rated before.balances es pl numbers s) in
    debited a seen b _ rated before after es new note g x numbers s d there
    (debit-is b.entries note (note_of seen kind.Charge p.number) g (segment_at pl seen.day (all_segments a seen)) x p.cents (credit_balance b.entries)
    (n ∙ slot-note seen p slot kind.Charge is) (here ∙ ap (segment_at pl seen.day) (sym s.segments)) (y ∙ slot-cents seen p slot is))
    refl

pub refund-stands : (issued : Option IssuedRow) (a : Account) (seen : Seen) (p : CorrectedPost) (b : Book) (cents : ℕ) (rated : Rates) (before after : Balances) (es new : List Entry) (slot : Slot) (note : Note) (g x : ℕ)
    → AreByNumber 2 rated.segments → StandsAt a seen b rated before.balances es → IsSlotOf seen p slot → note ≡ the_note slot.day kind.Refund slot.number
    → g ≡ newest sort.Purchase slot.day (filter (is_added slot.day) rated.segments) → x ≡ at_least_zero slot.cents → IsDebited before after es new note g x
    → StandsAt a seen (effect issued a seen p (post.Refund cents) b) rated after.balances new
unfolding effect
refund-stands issued a seen p b cents rated before after es new slot note g x numbers s is n q y d =
    let here = slot-place a seen b rated before.balances es slot.day g (newest sort.Purchase) s (slot-day seen p slot is) q in
    let there = subst (IsThere seen.day rated) (sym here) (newest-there a seen b rated before.balances es sort.Purchase numbers s) in
    debited a seen b _ rated before after es new note g x numbers s d there
    (debit-is b.entries note (note_of seen kind.Refund p.number) g (newest sort.Purchase seen.day (all_segments a seen)) x p.cents (credit_balance b.entries)
    (n ∙ slot-note seen p slot kind.Refund is) (here ∙ ap (newest sort.Purchase seen.day) (sym s.segments)) (y ∙ slot-cents seen p slot is))
    refl

pub fee-stands : (a : Account) (seen : Seen) (b : Book) (rated : Rates) (before after : Balances) (es new : List Entry) (day n g x : ℕ) (f : Fee) (note : Note)
    → AreByNumber 2 rated.segments → StandsAt a seen b rated before.balances es → day ≡ seen.day → note ≡ the_note day kind.Fee n
    → g ≡ newest sort.Purchase day (filter (is_added day) rated.segments) → x ≡ at_least_zero f.cents → IsDebited before after es new note g x
    → StandsAt a seen (with_fee a seen n (Some f) b) rated after.balances new
fee-stands a seen b rated before after es new day n g x f note numbers s e m q y d =
    let here = slot-place a seen b rated before.balances es day g (newest sort.Purchase) s e q in
    let there = subst (IsThere seen.day rated) (sym here) (newest-there a seen b rated before.balances es sort.Purchase numbers s) in
    debited a seen b _ rated before after es new note g x numbers s d there
    (debit-is b.entries note (note_of seen kind.Fee n) g (newest sort.Purchase seen.day (all_segments a seen)) x (at_least_zero f.cents) (credit_balance b.entries)
    (m ∙ ap (λ (x : ℕ). the_note x kind.Fee n) e) (here ∙ ap (newest sort.Purchase seen.day) (sym s.segments)) y)
    refl
