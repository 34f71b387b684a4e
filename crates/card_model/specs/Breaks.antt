-- Break days, a notion of the ledger's own: the days on which something may happen on an account, or a rate begin.
-- `posts` is the whole corrected list, with posts of all kinds, and with those of later days.
use Rattle.std.specs.Prelude.{ℕ, ◌+◌, ◌-◌, Bool, false, ◌&&◌, ◌||◌, ◌==◌, nat_le, nat_lt, List, Option, Some, None}
use Rattle.std.specs.List.{count_by, list_any, range_with_len}
use Rattle.card_events.specs.Business.{is_due}
use Rattle.card_events.specs.Civil.{day_of_month}
use Rattle.card_events.specs.History.{CorrectedPost}
use Rattle.card_events.specs.SharedRows.{IndexRow}
use Rattle.card_model.specs.Books.{Account}
use Rattle.card_model.specs.Cycles.{IssuedRow}
use Rattle.card_model.specs.Segments.{SegmentTerms, segments}
use Rattle.card_model.specs.declared.segment.Interval.{Interval}

-- that very day
abbrev pub is_on : ℕ → Option ℕ → Bool
is_on day None = false
is_on day (Some other) = other == day

-- a plan ends, or a vintage or its rate begins
abbrev pub breaks_segment : ℕ → SegmentTerms → Bool
breaks_segment day g = is_on day g.ends || (g.begins == day) || (g.effective == day)

-- the day after that one
abbrev pub is_day_after : ℕ → Option ℕ → Bool
is_day_after day None = false
is_day_after day (Some last) = last + 1 == day

-- a penalty rate begins, or the day before was its last
abbrev pub breaks_penalty : ℕ → Interval → Bool
breaks_penalty day i = (i.begins == day) || is_day_after day i.last

-- A day with a post of the corrected list, a closing, the day after a due date, an issue day, a plan's end, a day on
-- which a vintage, its rate or a penalty begins, or the day after a penalty's last; or, in an account whose opening rates follow
-- the index, a day after its opening with an index row
unfoldable pub is_break : Account → List CorrectedPost → List IssuedRow → List IndexRow → List Interval → ℕ → Bool
is_break a posts issued index penalties day =
    list_any (λ p. p.day == day) posts
    || (nat_le a.anchor.opened day && (day_of_month day == a.anchor.close_day))
    || is_due a.anchor (day - 1)
    || list_any (λ r. r.day == day) issued
    || list_any (breaks_segment day) (segments a.anchor a.terms posts)
    || list_any (breaks_penalty day) penalties
    || (a.variable && nat_lt a.anchor.opened day && list_any (λ r. r.day == day) index)

-- how many of so many days, from the first on, are break days
abbrev pub breaks_among : (ℕ → Bool) → ℕ → ℕ → ℕ
breaks_among breaks first n = count_by breaks (range_with_len first n)
