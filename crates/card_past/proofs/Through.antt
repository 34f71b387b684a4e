-- The book at the end of the last day folded, where there may be none.
use Rattle.std.proofs.Common.{◌≡◌, ℕ, ◌+◌, ◌<◌, ◌≤◌, ◌⊎◌, inl, inr, refl, sym, ap, ◌∙◌, subst, arith, Option, Some, None}
use Rattle.std.proofs.lemmas.Bool.{cases_lt}
use Rattle.card_book.proofs.Closings.{closed-by, none-closed}
use Rattle.card_book.proofs.Days.{after-is, book_is_the_fold, through-is}
use Rattle.card_book.proofs.GoingOn.{books_go_on}
use Rattle.card_book.specs.GoingOn.{Continues, HaveSameRates}
use Rattle.card_book.specs.Stands.{StandsFor, Summary, book_through, day_to_fold}
use Rattle.card_daily.specs.Given.{Given, book_on, opened_in}
use Rattle.card_daily.specs.Stands.{before}
use Rattle.card_daily.specs.declared.track.Track.{Track}
use Rattle.card_events.specs.History.{anchor_of}
use Rattle.card_model.specs.Books.{Book}
use Rattle.card_model.specs.CycleDays.{IsOpening}
use Rattle.card_model.specs.Cycles.{Cycle}
use Rattle.card_model.specs.Folds.{cycle_at}
use Rattle.card_past.specs.Foldings.{Folding, IsFolding, Stands, day_of, day_reached}

-- ---- the day
-- it is the book of the day before the first that isn't folded
pub through : (g : Given) (o : Option ℕ) (x : ℕ) → day_to_fold g o ≡ x + 1 → book_through g o ≡ book_on g x
through g o x e = sym (through-is g o) ∙ (ap (before g) e ∙ after-is g x)

-- which is the last day folded, where one was
pub last-is : (g : Given) (o : Option ℕ) (x y : ℕ) → day_to_fold g o ≡ x + 1 → o ≡ Some y → y ≡ x
last-is g o x y e is = let here : day_to_fold g o ≡ y + 1 = ap (day_to_fold g) is in omega (arith, e, here)

-- one was, where that day isn't before the opening
pub some-day : (g : Given) (o : Option ℕ) (x : ℕ) → day_to_fold g o ≡ x + 1 → opened_in g ≤ x → o ≡ Some x
some-day g None x e low = absurd (omega (arith, e, low))
some-day g (Some y) x e low = let same : y ≡ x = omega (arith, e) in ap Some same

-- that of an account that is opened on the same day
pub same-first : (g h : Given) (o : Option ℕ) → opened_in g ≡ opened_in h → day_to_fold g o ≡ day_to_fold h o
same-first g h None same = same
same-first g h (Some y) same = refl

-- the day that is reached
pub reached-is : (g : Given) (opened : ℕ) (o : Option ℕ) → opened_in g ≡ opened → 1 ≤ opened → day_to_fold g o ≡ day_reached opened o + 1
reached-is g opened None same some = omega (arith, same, some)
reached-is g opened (Some y) same some = refl

-- it comes before the opening day by one at most
opened-by : (g : Given) (b : Summary) (t : Track) (x : ℕ) (o : Option ℕ) → b.day ≡ o → StandsFor g b t → day_to_fold g b.day ≡ x + 1 → opened_in g ≤ x + 1
opened-by g b t x None is h e = let here : day_to_fold g b.day ≡ opened_in g = ap (day_to_fold g) is in omega (arith, e, here)
opened-by g b t x (Some y) is h e =
    let here : day_to_fold g b.day ≡ y + 1 = ap (day_to_fold g) is in
    let low = h.opened y is in
    omega (arith, e, here, low)

pub opened-through : (g : Given) (b : Option Summary) (t : Track) (x : ℕ) → Stands g b t → day_to_fold g (day_of b) ≡ x + 1 → opened_in g ≤ x + 1
opened-through g None t x h e = let here : opened_in g ≡ x + 1 = e in omega (arith, here)
opened-through g (Some b) t x h e = opened-by g b t x b.day refl h e

-- a day that is folded doesn't
pub opened-on : (g : Given) (b : Option Summary) (t : Track) (day : ℕ) → Stands g b t → day_of b ≡ Some day → opened_in g ≤ day
opened-on g None t day h is = let no : None ≡ Some day = is in absurd (cc)
opened-on g (Some b) t day h is = h.opened day is

-- and where one is there is a Book
pub some-book : (b : Option Summary) (day : ℕ) → day_of b ≡ Some day → b ≡ None → ⊥
some-book b day is none = let no : None ≡ Some day = sym (ap day_of none) ∙ is in absurd (cc)

-- ---- what is recorded
-- the book at the end of the last day folded
pub record IsRecorded (g : Given) (day : Option ℕ) (t : Track) : Type 0 where
  pub entries : t.entries.items ≡ (book_through g day).entries
  pub cycles : t.cycles.items ≡ (book_through g day).cycles
  pub fees : t.fees.items ≡ (book_through g day).fees

pub recorded : (g : Given) (b : Option Summary) (t : Track) → Stands g b t → IsRecorded g (day_of b) t
recorded g None t h = record { entries = h.entries; cycles = h.cycles; fees = h.fees }
recorded g (Some b) t h = let is = book_is_the_fold g b t h in record { entries = is.entries; cycles = is.cycles; fees = is.fees }

-- ---- closed cycles
-- those of a track
pub cycles-through : (g : Given) (b : Option Summary) (t : Track) (x : ℕ) → Stands g b t → day_to_fold g (day_of b) ≡ x + 1 → t.cycles.items ≡ (book_on g x).cycles
cycles-through g b t x h e = (recorded g b t h).cycles ∙ ap (λ (k : Book). k.cycles) (through g (day_of b) x e)

-- a cycle closed by then
closed-within : (g : Given) (x k : ℕ) (c : Cycle) → opened_in g ≤ x + 1 → cycle_at k (book_on g x).cycles ≡ Some c → c.closing ≤ x
closed-within g x k c low at = by (cases_lt x (opened_in g))
  where
    by : (x < opened_in g) ⊎ (opened_in g ≤ x) → c.closing ≤ x
    by (inr l) = closed-by g x k c l at
    by (inl l) = absurd (none-closed k (book_on g x).cycles c (ap (λ (b : Book). b.cycles) (sym (through g None x (omega (arith, l, low))))) at)

pub closed-in : (g : Given) (f : Folding) (k : ℕ) (c : Cycle) → IsFolding g f → cycle_at k f.past.track.cycles.items ≡ Some c → c.closing ≤ f.reached
closed-in g f k c h at =
    closed-within g f.reached k c (opened-through g f.book f.past.track f.reached h.stands h.day)
    (ap (cycle_at k) (sym (cycles-through g f.book f.past.track f.reached h.stands h.day)) ∙ at)

-- so a day was folded where there is one
some-by : (g : Given) (b : Option Summary) (t : Track) (x k : ℕ) (c : Cycle) (o : Option ℕ) → day_of b ≡ o → Stands g b t → day_to_fold g (day_of b) ≡ x + 1 → cycle_at k t.cycles.items ≡ Some c → day_of b ≡ Some x
some-by g b t x k c None is h e at = absurd (none-closed k t.cycles.items c ((recorded g b t h).cycles ∙ ap (λ d. (book_through g d).cycles) is) at)
some-by g b t x k c (Some y) is h e at = is ∙ ap Some (last-is g (day_of b) x y e is)

pub some-closed : (g : Given) (b : Option Summary) (t : Track) (x k : ℕ) (c : Cycle) → Stands g b t → day_to_fold g (day_of b) ≡ x + 1 → cycle_at k t.cycles.items ≡ Some c → day_of b ≡ Some x
some-closed g b t x k c h e at = some-by g b t x k c (day_of b) refl h e at

-- ---- an account that goes on
-- what stood stands
pub stands-on : (old g : Given) (b : Option Summary) (t : Track) → IsOpening (anchor_of g.history) → Stands old b t → Continues old g (day_of b) → HaveSameRates old g → Stands g b t
stands-on old g None t open' h continues rates = h
stands-on old g (Some b) t open' h continues rates = books_go_on old g b t open' h continues rates

pub continues-through : (old g : Given) (o : Option ℕ) (x : ℕ) → day_to_fold old o ≡ x + 1 → Continues old g (Some x) → Continues old g o
continues-through old g None x e h = record {
  anchor = h.anchor;
  terms = h.terms;
  variable = h.variable;
  agree = λ d is. let no : None ≡ Some d = is in absurd (cc);
  books = λ d y is l. let no : None ≡ Some d = is in absurd (cc);
}
continues-through old g (Some y) x e h = let same : x ≡ y = omega (arith, e) in subst (λ n. Continues old g (Some n)) same h
