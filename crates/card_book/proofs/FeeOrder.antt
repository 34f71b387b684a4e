-- The fees of the first cycles stand before all others.
use Rattle.std.proofs.Common.{◌≡◌, ℕ, ◌+◌, ◌-◌, ◌<◌, ◌≤◌, ◌⊎◌, inl, inr, nat_le, List, [], ◌++◌, append-nil, length, length-append, take, refl, sym, ap, ◌∙◌, subst, arith, Option, Some, None}
use Rattle.std.specs.List.{filter}
use Rattle.std.proofs.lemmas.Bool.{cases_lt}
use Rattle.std.proofs.lemmas.List.{nil_from_length, take_all}
use Rattle.card_model.specs.Books.{Book}
use Rattle.card_model.specs.Cycles.{Cycle}
use Rattle.card_model.specs.Folds.{book, cycle_at}
use Rattle.card_model.specs.declared.fee.Fee.{Fee}
use Rattle.card_model.proofs.Cuts.{closings_are_cuts}
use Rattle.card_model.proofs.Grows.{Extends, book-grows}
use Rattle.card_daily.specs.Given.{Given, account_in, book_in, book_on, opened_in, seen_in}
use Rattle.card_daily.specs.Stands.{before}
use Rattle.card_daily.specs.declared.track.Track.{Track}
use Rattle.card_daily.proofs.Standing.{begins-with}
use Rattle.card_dayend.proofs.Opened.{before-opening}
use Rattle.card_book.proofs.Closings.{none-closed}
use Rattle.card_book.proofs.Days.{through-is}
use Rattle.card_book.proofs.Passing.{few-pass}
use Rattle.card_book.specs.Rewound.{FeesStandInOrder}
use Rattle.card_book.specs.Stands.{StandsFor, Summary, book_through, day_to_fold}

fees-grow : (g : Given) (x day : ℕ) → x ≤ day → Extends (book_on g x).fees (book_on g day).fees
unfolding book
fees-grow g x day l =
    let m = x + 1 - opened_in g in
    let n = day + 1 - opened_in g in
    let all : n - m + m ≡ n = omega (arith, l) in
    subst (λ k. Extends (book_in g m).fees (book_in g k).fees) all (book-grows g.issued (account_in g) (seen_in g) m (n - m)).fees

abbrev early : ℕ → List Fee → List Fee
early k fees = filter (λ (f : Fee). nat_le f.cycle k) fees

-- where those that pass are no fewer than all, all pass
all-early : (k : ℕ) (fees more rest : List Fee) → early k fees ≡ more → more ≡ fees ++ rest → take (length (early k fees)) fees ≡ early k fees
all-early k fees more rest e f =
    let long : length (early k fees) ≡ length fees + length rest = ap (λ (l : List Fee). length l) (e ∙ f) ∙ length-append fees rest in
    let few = few-pass (λ (f : Fee). nat_le f.cycle k) fees in
    let none : rest ≡ [] = nil_from_length rest (omega (arith, long, few)) in
    take_all (length (early k fees)) fees (omega (arith, long)) ∙ sym (e ∙ (f ∙ (ap (λ (l : List Fee). fees ++ l) none ∙ append-nil fees)))

some-early : (k : ℕ) (fees front : List Fee) → early k fees ≡ front → take (length front) fees ≡ front → take (length (early k fees)) fees ≡ early k fees
some-early k fees front e f = ap (λ (l : List Fee). take (length l) fees) e ∙ (f ∙ sym e)

-- by the book of the closing, whether that day is over or not
by-closing : (g : Given) (x day k : ℕ) → early k (book_on g day).fees ≡ (book_on g x).fees → take (length (early k (book_on g day).fees)) (book_on g day).fees ≡ early k (book_on g day).fees
by-closing g x day k cut = by (cases_lt day x)
  where
    by : (day < x) ⊎ (x ≤ day) → take (length (early k (book_on g day).fees)) (book_on g day).fees ≡ early k (book_on g day).fees
    by (inl l) =
        let grown = fees-grow g day x (omega (arith, l)) in
        all-early k (book_on g day).fees (book_on g x).fees grown.rest cut grown.is
    by (inr l) =
        let grown = fees-grow g x day l in
        some-early k (book_on g day).fees (book_on g x).fees cut (begins-with (book_on g x).fees (book_on g day).fees grown.rest grown.is)

in-order : (g : Given) (b : Summary) (t : Track) (k : ℕ) (c : Cycle) (o : Option ℕ) → b.day ≡ o → StandsFor g b t → cycle_at k t.cycles.items ≡ Some c → take (length (early k t.fees.items)) t.fees.items ≡ early k t.fees.items
in-order g b t k c None e h at =
    let empty : t.cycles.items ≡ [] = h.folded.stand.cycles ∙ (ap (λ o. (before g (day_to_fold g o)).cycles) e ∙ ap (λ (x : Book). x.cycles) (before-opening g)) in
    absurd (none-closed k t.cycles.items c empty at)
in-order g b t k c (Some day) e h at =
    let here : before g (day_to_fold g b.day) ≡ book_on g day = through-is g b.day ∙ ap (book_through g) e in
    let there : cycle_at k (book_on g day).cycles ≡ Some c = ap (cycle_at k) (sym (h.folded.stand.cycles ∙ ap (λ (x : Book). x.cycles) here)) ∙ at in
    let fees : t.fees.items ≡ (book_on g day).fees = h.folded.stand.fees ∙ ap (λ (x : Book). x.fees) here in
    let cut = (closings_are_cuts g.history g.issued g.shared day k c there).fees in
    subst (λ (fs : List Fee). take (length (early k fs)) fs ≡ early k fs) (sym fees) (by-closing g c.closing day k cut)

pub fees_stand_in_order : FeesStandInOrder
fees_stand_in_order g b t k c h at = in-order g b t k c b.day refl h at
