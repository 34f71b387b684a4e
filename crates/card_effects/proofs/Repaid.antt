-- The entries of a payment's parts.
use Rattle.std.specs.Prelude.{map}
use Rattle.std.proofs.Common.{◌≡◌, ℕ, zero, suc, ◌+◌, ◌<◌, ◌≤◌, Bool, true, false, cond, List, [], ◌∷◌, ◌++◌, length, refl, sym, ap, ◌∙◌, subst, arith, eqb, get_or, Option, None, Some, ℤ, pos, ◌+ℤ◌}
use Rattle.std.specs.Prelude.{min, ◌≤ℤ◌}
use Rattle.std.specs.List.{All, Contains}
use Rattle.std.proofs.lemmas.Int.{ints}
use Rattle.std.proofs.lemmas.Bool.{eqb-true}
use Rattle.std.proofs.lemmas.List.{length-map}
use Rattle.std.proofs.lemmas.List.Elements.{All-nil, All-append, All-head, All-tail}
use Rattle.card_segments.specs.Holdings as made
use Rattle.card_segments.specs.declared.rank.Rank.{Rank}
use Rattle.card_segments.specs.Parts.{AreCovered, AreOnSegments, AreParts, IsOnSegment}
use Rattle.card_events.specs.declared.anchor.Channel.{Channel}
use Rattle.card_events.specs.History.{CorrectedPost}
use Rattle.card_events.specs.declared.kept.Slot.{Slot}
use Rattle.card_events.specs.declared.post.Place.{Place}
use Rattle.card_events.specs.declared.post.Post.TheVariants as post
use Rattle.card_model.specs.Allocation.{allocated, placed}
use Rattle.card_model.specs.Books.{Account, Book, note_of}
use Rattle.card_model.specs.Cycles.{IssuedRow, Seen, last_cycle}
use Rattle.card_model.specs.Effects.{credit_parts, effect, end_by, holdings, parts_entries, payment_parts}
use Rattle.card_model.specs.Entries.{at_least_zero, balance, lowers, negated}
use Rattle.card_model.specs.Payments.{minimum_left}
use Rattle.card_events.specs.SharedRows.{IndexRow}
use Rattle.card_model.specs.Rates.{index_on, rate_on, starts}
use Rattle.card_model.specs.Segments.{SegmentTerms, kept_segment}
use Rattle.card_model.specs.declared.entry.Entry.{Entry}
use Rattle.card_model.specs.declared.entry.EntryKind.TheVariants as kind
use Rattle.card_model.specs.declared.entry.Note.{Note}
use Rattle.card_model.proofs.EntryFacts.{balance-append}
use Rattle.card_model.proofs.Posted.{balance-entry_of, entry_of-known}
use Rattle.card_rates.specs.RateBooks.{AreByNumber, Rates}
use Rattle.card_rates.proofs.DayLaws.{same-index}
use Rattle.card_rates.proofs.ByNumber.{number-above, number-below}
use Rattle.card_segments.specs.Balances.{Balances, after_entries}
use Rattle.card_effects.specs.Entering.{FollowsWhereAsked}
use Rattle.card_effects.specs.Places.{numbers_of}
use Rattle.card_effects.specs.Ranks.{no_rank, rank_on, ranks_on}
use Rattle.card_effects.specs.Standing.{IsSlotOf, StandsAt, is_added}
use Rattle.card_effects.proofs.Named.{named}
use Rattle.card_effects.proofs.Reached.{allocated-is, placed-is, the_rank}
use Rattle.card_effects.proofs.Standing.{after-entries, slot-cents, slot-day, slot-note, the_note}

parts-known : (note : Note) (n : ℕ) (ps : List (ℕ × ℕ)) → AreOnSegments n ps → All (λ (e : Entry). e.segment < n) (parts_entries note ps)
parts-known note n [] h = All-nil (λ (e : Entry). e.segment < n)
parts-known note n (p ∷ ps) h =
    All-append (λ (e : Entry). e.segment < n) (lowers note p.0 p.1) (parts_entries note ps) (entry_of-known note p.0 (negated p.1) n (All-head (IsOnSegment n) p ps h).1) (parts-known note n ps (All-tail (IsOnSegment n) p ps h))

abbrev Covered : List ℤ → ℕ × ℕ → Type 0
Covered bs p = 1 ≤ p.0 → pos p.1 ≤ℤ get_or bs p.0 (pos 0)

none-left : (n : ℕ) → pos n ≤ℤ pos 0 → negated n ≡ pos 0
none-left zero l = refl
none-left (suc n) l = absurd (omega (arith, ints, l))

one-part : (note : Note) (bs : List ℤ) (k : ℕ) (p : ℕ × ℕ) → 1 ≤ k → get_or bs k (pos 0) ≡ pos 0 → Covered bs p → balance k (lowers note p.0 p.1) ≡ pos 0
one-part note bs k p l e c = balance-entry_of note p.0 (negated p.1) k ∙ by (eqb p.0 k) refl
  where
    by : (t : Bool) → eqb p.0 k ≡ t → cond t (negated p.1) (pos 0) ≡ pos 0
    by false q = refl
    by true q =
        let same = eqb-true p.0 k q in
        let low : 1 ≤ p.0 = omega (arith, same, l) in
        none-left p.1 (subst (λ (z : ℤ). pos p.1 ≤ℤ z) (ap (λ (i : ℕ). get_or bs i (pos 0)) same ∙ e) (c low))

-- a segment without a balance has no part
parts-elsewhere : (note : Note) (bs : List ℤ) (k : ℕ) (ps : List (ℕ × ℕ)) → 1 ≤ k → get_or bs k (pos 0) ≡ pos 0 → AreCovered bs ps → balance k (parts_entries note ps) ≡ pos 0
parts-elsewhere note bs k [] l e c = refl
parts-elsewhere note bs k (p ∷ ps) l e c =
    let here = one-part note bs k p l e (All-head (Covered bs) p ps c) in
    let rest = parts-elsewhere note bs k ps l e (All-tail (Covered bs) p ps c) in
    balance-append k (lowers note p.0 p.1) (parts_entries note ps) ∙ (ap (λ z. z +ℤ balance k (parts_entries note ps)) here ∙ (ap (λ z. pos 0 +ℤ z) rest ∙ refl))

-- what taking parts left
pub record AreTaken (before after : Balances) (es new : List Entry) (note : Note) (cents : ℕ) (ps : List (ℕ × ℕ)) : Type 0 where
  pub whole : AreParts before.balances cents ps
  pub moved : after ≡ after_entries (parts_entries note ps) before
  pub grown : new ≡ es ++ parts_entries note ps

pub taken : (a : Account) (seen : Seen) (b c : Book) (rated : Rates) (before after : Balances) (es new : List Entry) (note : Note) (cents : ℕ) (ps : List (ℕ × ℕ)) → AreByNumber 2 rated.segments → length rated.segments + 2 ≡ length before.balances
    → StandsAt a seen b rated before.balances es → AreTaken before after es new note cents ps → c.entries ≡ b.entries ++ parts_entries note ps → c.penalties ≡ b.penalties → StandsAt a seen c rated after.balances new
taken a seen b c rated before after es new note cents ps numbers l s t grown same =
    let bs = before.balances in
    let stands = after-entries a seen b c rated bs es (parts_entries note ps) s grown same (parts-known note (length bs) ps t.whole.on_segments)
    (λ g h f. elsewhere g h f) in
    subst (λ us. StandsAt a seen c rated after.balances us) (sym t.grown) (subst (λ (v : Balances). StandsAt a seen c rated v.balances (es ++ parts_entries note ps)) (sym t.moved) stands)
  where
    elsewhere : (g : SegmentTerms) → Contains rated.segments g → is_added seen.day g ≡ false → balance g.id (parts_entries note ps) ≡ pos 0
    elsewhere g h f =
        let high = number-above 2 rated.segments g numbers h in
        let below = number-below 2 rated.segments g numbers h in
        parts-elsewhere note before.balances g.id ps (omega (arith, high)) (s.sums.each g.id (omega (arith, below, l)) ∙ s.to_come g h f) t.whole.covered

-- how many ranks there are
pub all-are : (rows : List IndexRow) (rated : Rates) (until day : ℕ) (ranks : List Rank) (n : ℕ) → ranks ≡ ranks_on rows rated until day → length ranks ≡ n → length rated.segments + 2 ≡ n
all-are rows rated until day ranks n e l = omega (arith, ap length e, l, length-map rated.segments (rank_on rows rated until day))

-- the ranks under rows that give the day's index are those under the rows that the day sees
pub ranks-seen : (rows : List IndexRow) (seen : Seen) (rated : Rates) (until day : ℕ) → day ≡ seen.day → index_on rows seen.day ≡ index_on seen.index seen.day → ranks_on rows rated until day ≡ ranks_on seen.index rated until day
ranks-seen rows seen rated until day d e =
    let here : index_on rows day ≡ index_on seen.index day = subst (λ x. index_on rows x ≡ index_on seen.index x) (sym d) e in
    ap (λ i. no_rank ∷ no_rank ∷ map (λ (g : SegmentTerms). the_rank (rate_on i rated.lowerings rated.penalty (starts day rated.penalties) rated.segments day g) (end_by until day (kept_segment g))) rated.segments) (same-index rated.variable rows seen.index day here)

abbrev pub minimum_of : Seen → CorrectedPost → Book → ℕ
minimum_of seen p b = min p.cents (minimum_left seen p (last_cycle b.cycles))

parts-are : (xs : List Entry) (n m : Note) (ps qs : List (ℕ × ℕ)) → n ≡ m → ps ≡ qs → xs ++ parts_entries m qs ≡ xs ++ parts_entries n ps
parts-are xs n m ps qs e f = sym (ap (λ (u : Note). xs ++ parts_entries u ps) e ∙ ap (λ us. xs ++ parts_entries m us) f)

pub payment-stands : (issued : Option IssuedRow) (a : Account) (seen : Seen) (p : CorrectedPost) (b : Book) (day minute cents : ℕ) (by : Channel) (rated : Rates) (before after : Balances) (es new : List Entry) (slot : Slot) (until x y : ℕ) (part : ℤ) (ranks : List Rank) (note : Note) (ps : List (ℕ × ℕ))
    → AreByNumber 2 rated.segments → length ranks ≡ length before.balances → StandsAt a seen b rated before.balances es → IsSlotOf seen p slot → FollowsWhereAsked rated until a seen → part ≡ pos (minimum_of seen p b)
    → ranks ≡ ranks_on seen.index rated until slot.day → x ≡ at_least_zero part → y ≡ at_least_zero slot.cents → ps ≡ allocated x y (made.holdings [] before.balances ranks) → note ≡ the_note slot.day kind.Payment slot.number
    → AreTaken before after es new note y ps → StandsAt a seen (effect issued a seen p (post.Payment day minute by cents) b) rated after.balances new
unfolding effect payment_parts
payment-stands issued a seen p b day minute cents by rated before after es new slot until x y part ranks note ps numbers k s is u m r e f q n t =
    let l : length rated.segments + 2 ≡ length before.balances = all-are seen.index rated until slot.day ranks (length before.balances) r k in
    let same : ps ≡ allocated (minimum_of seen p b) p.cents (holdings a seen b None) =
    q ∙ (ap (λ us. allocated x y (made.holdings [] before.balances us)) r
    ∙ (ap (λ z. allocated z y (made.holdings [] before.balances (ranks_on seen.index rated until slot.day))) (e ∙ ap at_least_zero m)
    ∙ (ap (λ z. allocated (minimum_of seen p b) z (made.holdings [] before.balances (ranks_on seen.index rated until slot.day))) (f ∙ slot-cents seen p slot is)
    ∙ allocated-is a seen b rated before.balances es until slot.day (minimum_of seen p b) p.cents numbers l s u (slot-day seen p slot is)))) in
    taken a seen b _ rated before after es new note y ps numbers l s t
    (parts-are b.entries note (note_of seen kind.Payment p.number) ps (allocated (minimum_of seen p b) p.cents (holdings a seen b None)) (n ∙ slot-note seen p slot kind.Payment is) same)
    refl

pub credit-stands : (issued : Option IssuedRow) (a : Account) (seen : Seen) (p : CorrectedPost) (b : Book) (day cents : ℕ) (place : Place) (rated : Rates) (before after : Balances) (es new : List Entry) (slot : Slot) (until y : ℕ) (ranks : List Rank) (ids : List ℕ) (note : Note) (ps : List (ℕ × ℕ))
    → AreByNumber 2 rated.segments → length ranks ≡ length before.balances → StandsAt a seen b rated before.balances es → IsSlotOf seen p slot → FollowsWhereAsked rated until a seen
    → ranks ≡ ranks_on seen.index rated until slot.day → ids ≡ numbers_of place rated.segments → y ≡ at_least_zero slot.cents → ps ≡ placed y (made.holdings ids before.balances ranks) → note ≡ the_note slot.day kind.Credit slot.number
    → AreTaken before after es new note y ps → StandsAt a seen (effect issued a seen p (post.Credit day place cents) b) rated after.balances new
unfolding effect credit_parts
credit-stands issued a seen p b day cents place rated before after es new slot until y ranks ids note ps numbers k s is u r i f q n t =
    let l : length rated.segments + 2 ≡ length before.balances = all-are seen.index rated until slot.day ranks (length before.balances) r k in
    let same : ps ≡ placed p.cents (holdings a seen b (Some place)) =
    q ∙ (ap (λ us. placed y (made.holdings ids before.balances us)) r
    ∙ (ap (λ us. placed y (made.holdings us before.balances (ranks_on seen.index rated until slot.day))) i
    ∙ (ap (λ z. placed z (made.holdings (numbers_of place rated.segments) before.balances (ranks_on seen.index rated until slot.day))) (f ∙ slot-cents seen p slot is)
    ∙ placed-is a seen b rated before.balances es until slot.day p.cents place (numbers_of place rated.segments) numbers l s u (slot-day seen p slot is) (named place rated.segments numbers)))) in
    taken a seen b _ rated before after es new note y ps numbers l s t
    (parts-are b.entries note (note_of seen kind.Credit p.number) ps (placed p.cents (holdings a seen b (Some place))) (n ∙ slot-note seen p slot kind.Credit is) same)
    refl
