-- What a Book tells with its track, and with the front of a track up to a closing.
use Rattle.std.proofs.Common.{◌≡◌, ℕ, ◌-◌, ◌≤◌, Bool, nat_le, List, get_or, length, take, refl, sym, ap, ◌∙◌, subst, arith, Some}
use Rattle.std.proofs.lemmas.List.Sums.{length-filter, count_by-le-length}
use Rattle.std.specs.List.{filter}
use Rattle.std.specs.declared.vec.Vec.{Vec}
use lib.ListN.{length-take}
use Rattle.card_model.specs.Cycles.{Cycle}
use Rattle.card_model.specs.Entries.{AreBalances}
use Rattle.card_model.specs.Limits.{balance_limit}
use Rattle.card_model.specs.declared.entry.Entry.{Entry}
use Rattle.card_model.specs.declared.fee.Fee.{Fee}
use Rattle.card_segments.specs.Balances.{AreWithin}
use Rattle.card_daily.specs.Given.{Given}
use Rattle.card_daily.specs.declared.track.Track.{Track}
use Rattle.card_book.proofs.Days.{book_is_the_fold}
use Rattle.card_book.proofs.FeeOrder.{fees_stand_in_order}
use Rattle.card_book.proofs.Rewinding.{behind, folded-sums}
use Rattle.card_book.proofs.Told.{accruals-on, cycle-place, rates-on, sums-on, whole-is}
use Rattle.card_book.specs.Rewound.{AreFoldedBack, IsCutTrack, StandsBehind}
use Rattle.card_book.specs.Stands.{FoldedBook, IsFoldedTo, StandsFor, Summary, since_through, told}

-- what is told of a Book and a track
abbrev pub told_with : Summary → Track → FoldedBook
told_with b t = told b t.entries.items t.cycles.items t.fees.items

pub folded-to : (g : Given) (b : Summary) (t : Track) (day : ℕ) → StandsFor g b t → b.day ≡ Some day → IsFoldedTo g day (told_with b t)
folded-to g b t day h e =
    record {
      book = whole-is g b t day e h;
      since = h.since ∙ ap (since_through g) e;
      segments = (book_is_the_fold g b t h).segments;
      balances = sums-on g b t day e h;
      rates = rates-on g b t day e h;
      accruals = accruals-on g b t day e h;
    }

-- ---- the front of a track
-- a list no longer than another, in its place
pub front : {X Z : Type 0} (v : Vec X Z) (xs : List X) → length xs ≤ length v.items → Vec X Z
front v xs l = record { ptr = v.ptr; len = length xs; cap = v.cap; alloc = v.alloc; items = xs; ok = (refl, omega (arith, l, v.ok.0, v.ok.1)); small = v.small }

pub taken : {X : Type 0} (n : ℕ) (xs : List X) → length (take n xs) ≤ length xs
taken n xs = let l = length-take n xs in omega (arith, l)

pub fewer : (p : Fee → Bool) (fs : List Fee) → length (filter p fs) ≤ length fs
fewer p fs = let long = length-filter p fs in let few = count_by-le-length p fs in omega (arith, long, few)

-- the track cut behind its k-th cycle
abbrev pub cut_at : ℕ → Cycle → Track → Track
cut_at k c t =
    record {
      entries = front t.entries (take c.entries t.entries.items) (taken c.entries t.entries.items);
      cycles = front t.cycles (take k t.cycles.items) (taken k t.cycles.items);
      fees = front t.fees (filter (λ f. nat_le f.cycle k) t.fees.items) (fewer (λ f. nat_le f.cycle k) t.fees.items);
    }

is-cut : (k : ℕ) (c : Cycle) (t : Track) → IsCutTrack k c t (cut_at k c t)
unfolding front
is-cut k c t = record { entries = refl; cycles = refl; fees = refl }

-- the fees up to the cycle are the first ones
pub fees-first : (k : ℕ) (b : Summary) (t : Track) → AreFoldedBack k b t → take (length (filter (λ f. nat_le f.cycle k) t.fees.items)) t.fees.items ≡ filter (λ f. nat_le f.cycle k) t.fees.items
fees-first k b t h = fees_stand_in_order h.folded.given h.later t k h.cycle h.folded.stands h.back.there

-- its entries fit
pub entries-fit : (k : ℕ) (b : Summary) (t : Track) (h : AreFoldedBack k b t) → h.cycle.entries ≤ length t.entries.items
entries-fit k b t h = (behind h.later t k h.cycle h.folded h.back.there).within

-- and so do the balances
pub front-sums : (k : ℕ) (b : Summary) (t : Track) (h : AreFoldedBack k b t) → AreBalances (take h.cycle.entries t.entries.items) b.state.segments.balances × AreWithin balance_limit b.state.segments.balances
unfolding front
front-sums k b t h =
    let cut = cut_at k h.cycle t in
    let last = (behind h.later t k h.cycle h.folded h.back.there).last in
    folded-sums b cut (record {
      given = h.folded.given;
      sound = h.folded.sound;
      last = λ day e. let same = same-day h.cycle.closing day (sym h.back.day ∙ e) in omega (arith, last, same);
      stands = h.back.stands cut (is-cut k h.cycle t);
    })
  where
    same-day : (x y : ℕ) → Some x ≡ Some y → x ≡ y
    same-day x y e = cc

pub front-folded : (k : ℕ) (b : Summary) (t : Track) (g : Given) (c : Cycle) → StandsBehind g k c b t → IsFoldedTo g c.closing (told_with b (cut_at k c t))
front-folded k b t g c h = folded-to g b (cut_at k c t) c.closing (h.stands (cut_at k c t) (is-cut k c t)) h.day

-- what is told with the front of the track up to the closing
told-same : (b : Summary) (es xs : List Entry) (cs ys : List Cycle) (fs zs : List Fee) → es ≡ xs → cs ≡ ys → fs ≡ zs → told b es cs fs ≡ told b xs ys zs
told-same b es xs cs ys fs zs e f g = rw (e, f, g) refl

pub front-told : (k : ℕ) (b : Summary) (t : Track) (g : Given) (c d : Cycle) (es : List Entry) (cs : List Cycle) (fs : List Fee) → AreFoldedBack k b t → StandsBehind g k c b t
    → ((x : Cycle) → d ≡ get_or t.cycles.items (k - 1) x) → 1 ≤ k → k ≤ length t.cycles.items
    → es ≡ take d.entries t.entries.items → cs ≡ take k t.cycles.items → fs ≡ take (length (filter (λ f. nat_le f.cycle k) t.fees.items)) t.fees.items
    → IsFoldedTo g c.closing (told b es cs fs)
unfolding front
front-told k b t g c d es cs fs back h is first closed e f n =
    let same : d ≡ c = some-is (ap Some (is d) ∙ (sym (cycle-place k t.cycles.items d first closed) ∙ h.there)) in
    subst (IsFoldedTo g c.closing)
    (sym (told-same b es (take c.entries t.entries.items) cs (take k t.cycles.items) fs (filter (λ f. nat_le f.cycle k) t.fees.items)
    (e ∙ ap (λ (x : Cycle). take x.entries t.entries.items) same) f (n ∙ fees-first k b t back)))
    (front-folded k b t g c h)
  where
    some-is : {x y : Cycle} → Some x ≡ Some y → x ≡ y
    some-is e = cc

-- the cycle at the front is the one to which the Book was taken back
pub front-cycle : (k : ℕ) (b : Summary) (t : Track) (d : Cycle) (h : AreFoldedBack k b t) → ((x : Cycle) → d ≡ get_or t.cycles.items (k - 1) x) → 1 ≤ k → k ≤ length t.cycles.items → d ≡ h.cycle
front-cycle k b t d h is first closed = some-is (ap Some (is d) ∙ (sym (cycle-place k t.cycles.items d first closed) ∙ h.back.there))
  where
    some-is : {x y : Cycle} → Some x ≡ Some y → x ≡ y
    some-is e = cc
