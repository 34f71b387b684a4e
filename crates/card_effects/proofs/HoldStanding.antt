-- What stands after a Dispute and after a Resolve.
use Rattle.std.proofs.Common.{◌≡◌, ℕ, ◌<◌, ◌≤◌, false, cond, eqb, List, ◌++◌, length, get_or, refl, sym, ap, ◌∙◌, subst, arith, Option, ℤ, pos, negsuc, ◌+ℤ◌}
use Rattle.std.specs.Prelude.{◌≤ℤ◌, min, unsigned_abs}
use Rattle.std.specs.List.{All}
use Rattle.std.proofs.lemmas.Bool.{ne_eqb}
use Rattle.std.proofs.lemmas.Int.{ints}
use Rattle.card_effects.proofs.Standing.{AreThere, IsThere, after-entries, all-there, credit-is, debit-there, slot-note, the_note, two-there}
use Rattle.card_effects.specs.Standing.{IsSlotOf, StandsAt}
use Rattle.card_events.specs.History.{CorrectedPost}
use Rattle.card_events.specs.declared.kept.Slot.{Slot}
use Rattle.card_events.specs.declared.post.Post.TheVariants as post
use Rattle.card_model.proofs.EntryFacts.{balance-append}
use Rattle.card_model.proofs.Posted.{balance-entry_of}
use Rattle.card_model.specs.Books.{Account, Book, all_segments, note_of}
use Rattle.card_model.specs.Cycles.{IssuedRow, Seen, post_at}
use Rattle.card_model.specs.Effects.{charge_at, charge_segment, corrected_cents, disputed_cents, disputed_charge, disputed_segment, effect, moved_by}
use Rattle.card_model.specs.Entries.{at_least_zero, balance, credit_balance, credit_in, debit, holds, lowers, negated, raises, releases}
use Rattle.card_model.specs.Segments.{SegmentTerms}
use Rattle.card_model.specs.declared.entry.Entry.{Entry}
use Rattle.card_model.specs.declared.entry.EntryKind.TheVariants as kind
use Rattle.card_model.specs.declared.entry.Note.{Note}
use Rattle.card_rates.proofs.ByNumber.{number-above}
use Rattle.card_rates.specs.RateBooks.{AreByNumber, Rates}
use Rattle.card_segments.proofs.Known.{holds-known, releases-known}
use Rattle.card_segments.specs.Balances.{Balances, after_entries}
use Rattle.card_effects.proofs.HeldSegments.{charge-all}

-- ---- a segment that is still to come gets nothing
two-none : (x y : ℤ) → x ≡ pos 0 → y ≡ pos 0 → x +ℤ y ≡ pos 0
two-none x y e f = omega (arith, ints, e, f)

entry-none : (note : Note) (g : ℕ) (z : ℤ) (s : ℕ) → (g ≡ s → ⊥) → cond (eqb g s) z (pos 0) ≡ pos 0
entry-none note g z s h = let other : eqb g s ≡ false = ne_eqb g s h in rw other refl

holds-there : (day : ℕ) (rated : Rates) (note : Note) (g x : ℕ) → AreByNumber 2 rated.segments → IsThere day rated g → AreThere day rated (holds note g x)
holds-there day rated note g x numbers there h c f =
    let high = number-above 2 rated.segments h numbers c in
    balance-append h.id (lowers note g x) (raises note 1 x)
    ∙ two-none _ _
    (balance-entry_of note g (negated x) h.id ∙ entry-none note g (negated x) h.id (λ e. there h c f (sym e)))
    (balance-entry_of note 1 (pos x) h.id ∙ entry-none note 1 (pos x) h.id (λ e. omega (arith, high, e)))

releases-there : (day : ℕ) (rated : Rates) (note : Note) (g x credit : ℕ) → AreByNumber 2 rated.segments → IsThere day rated g → AreThere day rated (releases note g x credit)
releases-there day rated note g x credit numbers there h c f =
    let high = number-above 2 rated.segments h numbers c in
    balance-append h.id (lowers note 1 x) (debit note g x credit)
    ∙ two-none _ _
    (balance-entry_of note 1 (negated x) h.id ∙ entry-none note 1 (negated x) h.id (λ e. omega (arith, high, e)))
    (debit-there day rated note g x credit numbers there h c f)

disputed-there : (a : Account) (seen : Seen) (b : Book) (rated : Rates) (bs : List ℤ) (es : List Entry) (o : Option CorrectedPost) → AreByNumber 2 rated.segments → StandsAt a seen b rated bs es
    → IsThere seen.day rated (charge_segment (all_segments a seen) o)
disputed-there a seen b rated bs es o numbers s =
    charge-all (IsThere seen.day rated) (two-there a seen b rated bs es numbers s) o (all_segments a seen)
    (subst (λ (gs : List SegmentTerms). All (λ (g : SegmentTerms). IsThere seen.day rated g.id) gs) (sym s.segments) (all-there seen.day rated numbers))

-- ---- a Dispute
-- what it left
pub record IsHeld (before after : Balances) (es new : List Entry) (note : Note) (g x : ℕ) : Type 0 where
  pub low : 2 ≤ g
  pub known : g < length before.balances
  pub moved : after ≡ after_entries (holds note g x) before
  pub grown : new ≡ es ++ holds note g x

same-holds : (xs : List Entry) (n m : Note) (g h x y : ℕ) → n ≡ m → g ≡ h → x ≡ y → xs ++ holds m h y ≡ xs ++ holds n g x
same-holds xs n m g h x y p q r =
    sym (ap (λ (u : Note). xs ++ holds u g x) p ∙ (ap (λ (u : ℕ). xs ++ holds m u x) q ∙ ap (λ (u : ℕ). xs ++ holds m h u) r))

pub dispute-stands : (row : Option IssuedRow) (a : Account) (seen : Seen) (p : CorrectedPost) (b : Book) (day target claim : ℕ) (rated : Rates) (before after : Balances) (es new : List Entry) (slot : Slot) (note : Note) (g x : ℕ)
    → AreByNumber 2 rated.segments → StandsAt a seen b rated before.balances es → IsSlotOf seen p slot → note ≡ the_note slot.day kind.Hold slot.number
    → g ≡ disputed_segment a seen target → x ≡ disputed_cents a seen target claim b → IsHeld before after es new note g x
    → StandsAt a seen (effect row a seen p (post.Dispute day target claim) b) rated after.balances new
unfolding effect
dispute-stands row a seen p b day target claim rated before after es new slot note g x numbers s is n q y d =
    let hs = holds note g x in
    let there = subst (IsThere seen.day rated) (sym q) (disputed-there a seen b rated before.balances es (charge_at target seen.posts) numbers s) in
    let low = d.low in
    let known = d.known in
    let stands = after-entries a seen b (effect row a seen p (post.Dispute day target claim) b) rated before.balances es hs s
    (same-holds b.entries note (note_of seen kind.Hold p.number) g (disputed_segment a seen target) x (disputed_cents a seen target claim b) (n ∙ slot-note seen p slot kind.Hold is) q y) refl
    (holds-known note g x (length before.balances) (omega (arith, low, known)) known) (holds-there seen.day rated note g x numbers there) in
    subst (λ us. StandsAt a seen (effect row a seen p (post.Dispute day target claim) b) rated after.balances us) (sym d.grown)
    (subst (λ (v : Balances). StandsAt a seen (effect row a seen p (post.Dispute day target claim) b) rated v.balances (es ++ hs)) (sym d.moved) stands)

pub abs-of : (z : ℤ) → pos 0 ≤ℤ z → unsigned_abs z ≡ at_least_zero z
abs-of (pos n) h = refl
abs-of (negsuc n) h = absurd (omega (arith, ints, h))

-- the least of the three, of a balance that is kept
pub least-is : (a : Account) (seen : Seen) (b : Book) (rated : Rates) (bs : List ℤ) (es : List Entry) (target claim g cents balance : ℕ) → StandsAt a seen b rated bs es → g < length bs → g ≡ disputed_segment a seen target
    → cents ≡ corrected_cents (charge_at target seen.posts) → balance ≡ at_least_zero (get_or bs g (pos 0)) → min claim (min cents balance) ≡ disputed_cents a seen target claim b
least-is a seen b rated bs es target claim g cents held s l q e f =
    ap (λ (u : ℕ). min claim (min u held)) e
    ∙ ap (λ (u : ℕ). min claim (min (corrected_cents (charge_at target seen.posts)) u)) (f ∙ (ap at_least_zero (s.sums.each g l) ∙ ap (λ (k : ℕ). at_least_zero (balance k b.entries)) q))

-- ---- a Resolve
-- what it left
pub record IsReleased (before after : Balances) (es new : List Entry) (note : Note) (g x : ℕ) : Type 0 where
  pub low : 2 ≤ g
  pub known : g < length before.balances
  pub moved : after ≡ after_entries (releases note g x (credit_in before.balances)) before
  pub grown : new ≡ es ++ releases note g x (credit_in before.balances)

same-releases : (xs : List Entry) (n m : Note) (g h x y c d : ℕ) → n ≡ m → g ≡ h → x ≡ y → c ≡ d → xs ++ releases m h y d ≡ xs ++ releases n g x c
same-releases xs n m g h x y c d p q r e =
    sym (ap (λ (u : Note). xs ++ releases u g x c) p ∙ (ap (λ (u : ℕ). xs ++ releases m u x c) q ∙ (ap (λ (u : ℕ). xs ++ releases m h u c) r ∙ ap (λ (u : ℕ). xs ++ releases m h y u) e)))

pub resolve-stands : (row : Option IssuedRow) (a : Account) (seen : Seen) (p : CorrectedPost) (b : Book) (day target cents : ℕ) (rated : Rates) (before after : Balances) (es new : List Entry) (slot : Slot) (note : Note) (g x : ℕ)
    → AreByNumber 2 rated.segments → StandsAt a seen b rated before.balances es → IsSlotOf seen p slot → note ≡ the_note slot.day kind.Hold slot.number
    → g ≡ disputed_segment a seen (disputed_charge (post_at target seen.posts)) → x ≡ moved_by target es → IsReleased before after es new note g x
    → StandsAt a seen (effect row a seen p (post.Resolve day target cents) b) rated after.balances new
unfolding effect
resolve-stands row a seen p b day target cents rated before after es new slot note g x numbers s is n q y d =
    let rs = releases note g x (credit_in before.balances) in
    let charge = charge_at (disputed_charge (post_at target seen.posts)) seen.posts in
    let there = subst (IsThere seen.day rated) (sym q) (disputed-there a seen b rated before.balances es charge numbers s) in
    let low = d.low in
    let known = d.known in
    let stands = after-entries a seen b (effect row a seen p (post.Resolve day target cents) b) rated before.balances es rs s
    (same-releases b.entries note (note_of seen kind.Hold p.number) g (charge_segment (all_segments a seen) charge) x (moved_by target b.entries) (credit_in before.balances) (credit_balance b.entries)
    (n ∙ slot-note seen p slot kind.Hold is) q (y ∙ ap (moved_by target) s.same) (credit-is a seen b rated before.balances es s (omega (arith, low, known)))) refl
    (releases-known note g x (credit_in before.balances) (length before.balances) (omega (arith, low, known)) known) (releases-there seen.day rated note g x (credit_in before.balances) numbers there) in
    subst (λ us. StandsAt a seen (effect row a seen p (post.Resolve day target cents) b) rated after.balances us) (sym d.grown)
    (subst (λ (v : Balances). StandsAt a seen (effect row a seen p (post.Resolve day target cents) b) rated v.balances (es ++ rs)) (sym d.moved) stands)
