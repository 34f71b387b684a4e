-- The Book of an earlier day, with the front of the past up to that day.
use Rattle.std.proofs.Common.{◌≡◌, ℕ, ap, arith, Option, Some, None}
use Rattle.std.specs.Prelude.{IfSome}
use Rattle.card_book.specs.Stands.{day_to_fold}
use Rattle.card_daily.specs.Given.{Given, opened_in}
use Rattle.card_past.specs.Pasts.{IsFront}
use Rattle.card_past.specs.Foldings.{Folding, IsEve, IsFolding}
use Rattle.card_past.specs.declared.eve.Eve.{Eve}
use Rattle.card_past.specs.declared.past.Past.{Past}

pub if-some : {A : Type 0} (o : Option A) (P Q : A → Type 0) → ((x : A) → P x → Q x) → IfSome o P → IfSome o Q
if-some None P Q f h = tt
if-some (Some x) P Q f h = f x h

-- it is folded to its day
abbrev pub eve_folding : Eve → Past → Folding
eve_folding e front = record { reached = e.day; book = e.book; past = front; eve = None }

-- so it stands for another account where each such folding does
pub eve-goes-on : (old g : Given) (reached : ℕ) (past : Past) (e : Eve) → IsEve old reached past e → opened_in g ≡ opened_in old
    → ((front : Past) → IsFront e.ends past front → IsFolding old (eve_folding e front) → IsFolding g (eve_folding e front)) → IsEve g reached past e
eve-goes-on old g reached past e h same goes =
    let opened = h.opened in
    record {
      folded = h.folded;
      opened = omega (arith, opened, same);
      earlier = h.earlier;
      begins = record {
        within = h.begins.within;
        whole = h.begins.whole;
        stands = λ front is. (goes front is (before front is)).stands;
        marks = λ front is. (goes front is (before front is)).marks;
      };
    }
  where
    before : (front : Past) → IsFront e.ends past front → IsFolding old (eve_folding e front)
    before front is = record { day = ap (day_to_fold old) h.folded; whole = h.begins.whole; stands = h.begins.stands front is; marks = h.begins.marks front is; eve = tt }
