-- What an account keeps of its book is the book.
use Rattle.std.proofs.Common.{◌≡◌, ℕ, ◌≤◌, refl, sym, ap, ◌∙◌, subst, arith, Option, Some, None}
use Rattle.std.specs.Prelude.{IfSome}
use Rattle.card_book.proofs.Closings.{none-closed}
use Rattle.card_book.proofs.Days.{book_is_the_fold}
use Rattle.card_book.proofs.Rewound.{rewound_books_stand}
use Rattle.card_book.specs.Stands.{IsTheFold, StandsFor, Summary, day_to_fold}
use Rattle.card_daily.specs.Given.{Given, opened_in}
use Rattle.card_daily.specs.Stands.{IsBlank}
use Rattle.card_daily.specs.declared.track.Track.{Track}
use Rattle.card_events.specs.History.{anchor_of}
use Rattle.card_events.specs.Range.{last_request_day}
use Rattle.card_model.specs.Books.{Book}
use Rattle.card_model.specs.CycleDays.{IsOpening}
use Rattle.card_model.specs.Cycles.{Cycle}
use Rattle.card_model.specs.Folds.{cycle_at}
use Rattle.card_past.proofs.Through.{recorded, some-closed, through}
use Rattle.card_replay.specs.Laws.{HasClosing, IsNotFolded, IsTheBook, KeptBookIsTheFold, KeptClosingsAreTheFold}
use Rattle.card_replay.specs.Replays.{Folding, IsFolding, Stands, day_of, given_of}

-- ---- the Book
kept-is : (g : Given) (b : Option Summary) (t : Track) → Stands g b t → IfSome b (λ x. IsTheFold g x t)
kept-is g None t h = tt
kept-is g (Some b) t h = book_is_the_fold g b t h

none-is : (g : Given) (f : Folding) → IsFolding g f → f.book ≡ None → IsNotFolded g f
none-is g f h none =
    let here : day_to_fold g (day_of f.book) ≡ opened_in g = ap (λ o. day_to_fold g (day_of o)) none in
    record { before = sym h.day ∙ here; blank = subst (λ o. Stands g o f.past.track) none h.stands }

the-book : (g : Given) (f : Folding) → IsFolding g f → IsTheBook g f
the-book g f h =
    let is = recorded g f.book f.past.track h.stands in
    let same = through g (day_of f.book) f.reached h.day in
    record {
      entries = is.entries ∙ ap (λ (b : Book). b.entries) same;
      cycles = is.cycles ∙ ap (λ (b : Book). b.cycles) same;
      fees = is.fees ∙ ap (λ (b : Book). b.fees) same;
      some = kept-is g f.book f.past.track h.stands;
      none = none-is g f h;
    }

pub kept_book_is_the_fold : KeptBookIsTheFold
kept_book_is_the_fold shared r h = the-book (given_of r.lists shared) r.folding h.folding

-- ---- taken back to a closing
closing-is : (g : Given) (k : ℕ) (c : Cycle) (f : Folding) (o : Option Summary) → f.book ≡ o → IsOpening (anchor_of g.history) → f.reached ≤ last_request_day → IsFolding g f
    → cycle_at k f.past.track.cycles.items ≡ Some c → HasClosing g k c f
closing-is g k c f None is open' dated h at =
    let blank : IsBlank f.past.track = subst (λ o. Stands g o f.past.track) is h.stands in
    absurd (none-closed k f.past.track.cycles.items c blank.cycles at)
closing-is g k c f (Some b) is open' dated h at =
    let stands : StandsFor g b f.past.track = subst (λ o. Stands g o f.past.track) is h.stands in
    let day : b.day ≡ Some f.reached = sym (ap day_of is) ∙ some-closed g f.book f.past.track f.reached k c h.stands h.day at in
    record {
      book = b;
      there = is;
      back = λ back cut was. book_is_the_fold g back cut (rewound_books_stand g b f.past.track f.reached k c back cut open' (omega (arith, dated)) day stands at was);
    }

pub kept_closings_are_the_fold : KeptClosingsAreTheFold
kept_closings_are_the_fold shared r k c h at = closing-is (given_of r.lists shared) k c r.folding r.folding.book refl h.sound.opening h.dated h.folding at
