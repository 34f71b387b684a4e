-- What is recorded of an account is its book at the end of the day that it has reached.
use Rattle.std.proofs.Common.{◌≡◌, ℕ, ◌+◌, ◌-◌, ◌*◌, ◌<◌, ◌≤◌, ◌^◌, List, length, subst, sym, arith}
use Rattle.card_account.proofs.Few.{all_small}
use Rattle.card_account.specs.Entries.{AreSmallEntries}
use Rattle.card_bounds.proofs.CountDays.{entries_are_few}
use Rattle.card_daily.specs.Given.{opened_in}
use Rattle.card_events.specs.SharedRows.{SharedRows}
use Rattle.card_model.specs.Folds.{book}
use Rattle.card_model.specs.declared.entry.Entry.{Entry}
use Rattle.card_replay.proofs.KeptLaws.{kept_book_is_the_fold}
use Rattle.card_replay.specs.Replays.{IsReplay, Replay, given_of}

pub recorded_book : (shared : SharedRows) (r : Replay) → IsReplay shared r → r.folding.past.track.entries.items ≡ (book r.lists.posts r.lists.issued shared r.folding.reached).entries
recorded_book shared r h = (kept_book_is_the_fold shared r h).entries

-- 64 for each of at most 200,000 posts and for each day up to 2099-12-31
few : (n posts reached opened : ℕ) → n ≤ 64 * (posts + (reached + 1 - opened)) → posts ≤ 200_000 → reached ≤ 47_481 → n < 2 ^ 32
few n posts reached opened bound count dated = omega arith

pub recorded_few : (shared : SharedRows) (r : Replay) → IsReplay shared r → length r.folding.past.track.entries.items < 2 ^ 32
recorded_few shared r h =
    subst (λ (es : List Entry). length es < 2 ^ 32) (sym (recorded_book shared r h))
    (few _ (length r.lists.posts) r.folding.reached (opened_in (given_of r.lists shared)) (entries_are_few.lists r.lists.posts r.lists.issued shared r.folding.reached h.sound.segments) h.sound.accepted.count h.dated)

pub recorded_small : (shared : SharedRows) (r : Replay) → IsReplay shared r → AreSmallEntries r.folding.past.track.entries.items
recorded_small shared r h = subst AreSmallEntries (sym (recorded_book shared r h)) (all_small (given_of r.lists shared) r.folding.reached h.sound h.dated)
