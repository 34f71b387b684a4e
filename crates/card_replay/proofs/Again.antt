-- Where an account is taken back after a post: the Book at the closing before the change, with the front of the past.
use Rattle.std.proofs.Common.{◌≡◌, ℕ, ◌+◌, ◌-◌, ◌<◌, ◌≤◌, ◌⊎◌, inl, inr, false, true, nat_le, List, [], ◌∷◌, length, take, refl, sym, ap, ◌∙◌, subst, arith, Option, Some, None, Result, Ok, Err, get_or}
use Rattle.std.specs.Prelude.{IfOk, slice_get}
use Rattle.std.specs.List.{filter}
use Rattle.std.proofs.lemmas.Option.{slice_get_read}
use Rattle.card_events.specs.Billing.{closing, cycle_of}
use Rattle.card_events.specs.Civil.{day_of_month}
use Rattle.card_events.specs.Range.{last_request_day}
use Rattle.card_events.specs.declared.anchor.Anchor.{Anchor}
use Rattle.card_events.specs.History.{anchor_of}
use Rattle.card_events.specs.declared.post.Post.{Post}
use Rattle.card_model.specs.Cycles.{Cycle}
use Rattle.card_model.specs.Folds.{cycle_at}
use Rattle.card_model.specs.declared.fee.Fee.{Fee}
use Rattle.card_model.proofs.Calendar.{cycles_are_of_the_calendar}
use Rattle.card_daily.proofs.ClosingDay.{grows-to}
use Rattle.card_daily.specs.Given.{Given, opened_in}
use Rattle.card_daily.specs.declared.track.Track.{Track}
use Rattle.card_book.proofs.FeeOrder.{fees_stand_in_order}
use Rattle.card_book.proofs.MarksGoOn.{marks_go_on}
use Rattle.card_book.proofs.Passing.{few-pass}
use Rattle.card_book.proofs.Rewinding.{behind}
use Rattle.card_book.specs.GoingOn.{sets_rates}
use Rattle.card_book.specs.Marks.{AreMarks, IsMark, accrued_to}
use Rattle.card_book.specs.Renewed.{AwaitsPosts, HasNewPosts}
use Rattle.card_book.specs.Rewound.{AreFolded, GoesBack, IsCutTrack}
use Rattle.card_book.specs.Stands.{StandsFor, Summary, day_to_fold}
use Rattle.card_book.specs.declared.marks.Accruing.{Accruing}
use Rattle.card_replay.proofs.Changed.{anchor-stays, continues-before, plain-stands, terms-stay}
use Rattle.card_past.proofs.CycleBefore.{closed-before, closed-then, cycle-read, cycle-there}
use Rattle.card_replay.proofs.CutTrack.{cut-track}
use Rattle.card_replay.proofs.MarksFront.{among-front, marks-front}
use Rattle.card_past.proofs.NextClosing.{closing-dated, closing-none}
use Rattle.card_past.proofs.Parts.{first-front}
use Rattle.card_past.proofs.Reaching.{none-marked, none-recorded}
use Rattle.card_past.proofs.Through.{cycles-through, last-is, opened-through}
use Rattle.card_replay.specs.Pasts.{AreWithin, IsFront}
use Rattle.card_replay.proofs.Unread.{eve-on}
use Rattle.card_replay.specs.Rewinds.{AreEndsOf, IsAgain, IsAtBeginning, IsAtClosing, IsBeforeChange, MayBegin, MayGoBackOn, back_at, cycle_before}
use Rattle.card_replay.specs.Replays.{BeginsAgain, HasMarks, IsEve, IsWhole, Stands, day_of}
use Rattle.card_replay.specs.Steps.{first_in_cycle}
use Rattle.card_replay.specs.declared.change.TakenBack.{TakenBack}
use Rattle.card_past.specs.declared.eve.Eve.{Eve}
use Rattle.card_past.specs.declared.past.Ends.{Ends}
use Rattle.card_past.specs.declared.past.Past.{Past}
use Rattle.card_replay.specs.declared.rewinding.Earlier.{Earlier}

-- ---- where the lists ended
pub number-is : (g : Given) (from : ℕ) {a : Anchor} {k : ℕ} → k ≡ cycle_of a from - 1 → a ≡ anchor_of g.history → k ≡ cycle_before g from
number-is g from number anchor = number ∙ ap (λ (x : Anchor). cycle_of x from - 1) anchor

pub ends-are : (g : Given) (from : ℕ) (p : Past) (e : Ends) {k : ℕ} → k ≡ cycle_before g from → e.cycles ≡ k → (k ≡ 0 → e.entries ≡ 0)
    → ((d : Cycle) → 1 ≤ k → e.entries ≡ (get_or p.track.cycles.items (k - 1) d).entries) → e.fees ≡ length (filter (λ f. nat_le f.cycle k) p.track.fees.items)
    → e.accrued ≡ length (filter (λ a. nat_le a.cycle k) p.accrued.items) → AreEndsOf g from p e
ends-are g from p e {k = k} number same none some fees accrued = record {
  cycles = same ∙ number;
  none = λ z. none (sym same ∙ z);
  some = λ c at.
      let read = cycle-read p.track.cycles.items k c (ap (λ n. cycle_at n p.track.cycles.items) (sym same) ∙ at) in
      some c read.0 ∙ ap (λ (d : Cycle). d.entries) read.1;
  fees = fees ∙ ap (λ n. length (filter (λ (f : Fee). nat_le f.cycle n) p.track.fees.items)) (sym same);
  accrued = accrued ∙ ap (λ n. length (filter (λ (x : Accruing). nat_le x.cycle n) p.accrued.items)) (sym same);
}

-- the Book was taken back to the closing of the cycle before the change, by what was kept of it
pub record IsEarlier (old : Given) (k : ℕ) (b : Summary) (past : Past) (c : Cycle) (earlier : Summary) : Type 0 where
  pub there : cycle_at k past.track.cycles.items ≡ Some c
  pub first : 1 ≤ k
  pub day : earlier.day ≡ Some c.closing
  pub whole : earlier.whole ≡ true
  pub stands : (cut : Track) → IsCutTrack k c past.track cut → StandsFor old earlier cut

-- ---- an account before a change
module _ {old g : Given} {p : Post} {from reached : ℕ} {b : Summary} {past : Past} (h : IsBeforeChange old g p from reached b past) where
  -- ---- the account before the change
  pub folded-before : AreFolded b past.track
  folded-before = record {
    given = old;
    sound = h.changes.more.sound_before;
    last = λ day e. let same = last-is old b.day reached day h.folding.day e in let l = h.changes.last in omega (arith, same, l);
    stands = h.folding.stands;
  }

  same-opened : opened_in g ≡ opened_in old
  same-opened = ap (λ (a : Anchor). a.opened) (anchor-stays old g p from h.changes.more)

  -- the cycle before the change is closed by the day reached
  closed-of : cycle_before g from ≤ length past.track.cycles.items
  closed-of =
      let same = ap (λ (a : Anchor). cycle_of a from - 1) (anchor-stays old g p from h.changes.more) in
      let closed = closed-then old (Some b) past.track from reached h.folding.stands h.folding.day h.changes.within in
      omega (arith, same, closed)

  pub closed-at : {k : ℕ} → k ≡ cycle_before g from → k ≤ length past.track.cycles.items
  closed-at number = let closed = closed-of in omega (arith, number, closed)

  -- a closed cycle has the closing of the calendar
  closing-of : (k : ℕ) (c : Cycle) → cycle_at k past.track.cycles.items ≡ Some c
      → c.closing ≡ closing (anchor_of g.history) k
  closing-of k c at =
      let l = h.changes.last in
      let cycles = cycles-through old (Some b) past.track reached h.folding.stands h.folding.day in
      let days = cycles_are_of_the_calendar.days old.history old.issued old.shared reached k c h.changes.more.sound_before.opening (omega (arith, l)) (ap (cycle_at k) (sym cycles) ∙ at) in
      days.closing ∙ ap (λ (a : Anchor). closing a k) (sym (anchor-stays old g p from h.changes.more))

  -- one up to the cycle before the change closed before it
  early-closing : (k : ℕ) (c : Cycle) → cycle_at k past.track.cycles.items ≡ Some c
      → 1 ≤ k → k ≤ cycle_before g from → c.closing < from
  early-closing k c at one l =
      let a = anchor_of g.history in
      let within = h.changes.within in
      let last = h.changes.last in
      let is = closing-of k c at in
      let up = grows-to a k (cycle_before g from) l in
      let before = closed-before a from h.changes.more.sound.opening (omega (arith, within, last)) (omega (arith, one, l)) in
      omega (arith, is, up, before)

  -- ---- the front of the past
  within-past : (e : Ends) → AreEndsOf g from past e → AreWithin e past
  within-past e ends =
      let closed = closed-of in
      let count = h.folding.marks.count in
      let cycles = ends.cycles in
      let fees = few-pass (λ (f : Fee). nat_le f.cycle e.cycles) past.track.fees.items in
      let accrued = few-pass (λ (a : Accruing). nat_le a.cycle e.cycles) past.accrued.items in
      record {
        entries = entries-fit (cycle-there past.track.cycles.items e.cycles (omega (arith, cycles, closed)));
        cycles = omega (arith, cycles, closed);
        fees = omega (arith, fees, ends.fees);
        since = omega (arith, cycles, closed, count);
        accrued = omega (arith, accrued, ends.accrued);
      }
    where
      entries-fit : (e.cycles ≡ 0) ⊎ ((c : Cycle) × (cycle_at e.cycles past.track.cycles.items ≡ Some c)) → e.entries ≤ length past.track.entries.items
      entries-fit (inl z) = let none = ends.none z in omega (arith, none)
      entries-fit (inr (c, at)) =
          let same = ends.some c at in
          let fit = (behind b past.track e.cycles c folded-before at).within in
          omega (arith, same, fit)

  -- its marks go on
  front-marks : (front : Past) (e : Ends) → AreEndsOf g from past e → IsFront e past front → HasMarks g front
  front-marks front e ends is =
      let closed = closed-of in
      let cycles = ends.cycles in
      let count : e.cycles ≤ length past.track.cycles.items = omega (arith, cycles, closed) in
      let marks = marks-front old past.track.cycles.items past.since.items past.accrued.items e.cycles h.folding.marks count in
      let kept : front.accrued.items ≡ accrued_to e.cycles past.accrued.items = is.accrued ∙ (ap (λ n. take n past.accrued.items) ends.accrued ∙ h.folding.marks.ordered e.cycles) in
      let on = marks_go_on old g (take e.cycles past.track.cycles.items) (take e.cycles past.since.items) (accrued_to e.cycles past.accrued.items)
      (record {
        new = h.changes.more.kept ∷ [];
        history = h.changes.more.history;
        anchor = anchor-stays old g p from h.changes.more;
        terms = terms-stay old g p from h.changes.more;
        continues = λ k c at.
            let among = among-front past.track.cycles.items e.cycles k c at in
            let last = among.last in
            continues-before old g p from h.changes.more c.closing (early-closing k c among.there among.first (omega (arith, last, cycles)));
      })
      marks in
      subst (λ cs. AreMarks g cs front.since.items front.accrued.items) (sym is.cycles)
      (subst (λ ss. AreMarks g (take e.cycles past.track.cycles.items) ss front.accrued.items) (sym is.since)
      (subst (λ xs. AreMarks g (take e.cycles past.track.cycles.items) (take e.cycles past.since.items) xs) (sym kept) on))

  -- ---- at a closing
  earlier-is : (k : ℕ) (c : Cycle) (since : Option ℕ) (earlier : Summary) → cycle_at k past.track.cycles.items ≡ Some c → slice_get past.since.items (k - 1) ≡ Some since → GoesBack k b past.track since past.accrued.items earlier → earlier.day ≡ Some c.closing → earlier.whole ≡ true
      → IsEarlier old k b past c earlier
  earlier-is k c since earlier at kept goes dated whole =
      let mark : IsMark old k c since past.accrued.items = h.folding.marks.each k c since at kept in
      record {
        there = at;
        first = (cycle-read past.track.cycles.items k c at).0;
        day = dated;
        whole = whole;
        stands = λ cut is. goes old c cut h.changes.more.sound_before h.folding.stands at mark is;
      }

  cut-front : (front : Past) (e : Ends) (c : Cycle) → AreEndsOf g from past e → IsFront e past front
      → cycle_at e.cycles past.track.cycles.items ≡ Some c → IsCutTrack e.cycles c past.track front.track
  cut-front front e c ends is at = record {
    entries = is.entries ∙ ap (λ n. take n past.track.entries.items) (ends.some c at);
    cycles = is.cycles;
    fees = is.fees ∙ (ap (λ n. take n past.track.fees.items) ends.fees ∙ fees_stand_in_order old b past.track e.cycles c h.folding.stands at);
  }

  front-stands : (front : Past) (e : Ends) (c : Cycle) (earlier : Summary) → AreEndsOf g from past e
      → IsFront e past front → IsEarlier old (cycle_before g from) b past c earlier → StandsFor old earlier front.track
  front-stands front e c earlier ends is back =
      let at : cycle_at e.cycles past.track.cycles.items ≡ Some c = ap (λ k. cycle_at k past.track.cycles.items) ends.cycles ∙ back.there in
      back.stands front.track (subst (λ k. IsCutTrack k c past.track front.track) ends.cycles (cut-front front e c ends is at))

  earlier-closing : (c : Cycle) (earlier : Summary) → IsEarlier old (cycle_before g from) b past c earlier → c.closing < from
  earlier-closing c earlier back = early-closing (cycle_before g from) c back.there back.first (omega arith)

  -- where the post sets no rate, it stands on
  pub plain-begins : (e : Ends) (c : Cycle) (earlier : Summary) → AreEndsOf g from past e
      → IsEarlier old (cycle_before g from) b past c earlier → sets_rates p ≡ false → BeginsAgain g e past (Some earlier)
  plain-begins e c earlier ends back plain = record {
    within = within-past e ends;
    whole = back.whole;
    stands = λ front is.
        plain-stands old g p from c.closing earlier front.track h.changes.more plain back.day (earlier-closing c earlier back)
        (front-stands front e c earlier ends is back);
    marks = λ front is. front-marks front e ends is;
  }

  -- else with the segments and rates of all posts
  new-posts : (c : Cycle) (earlier : Summary) (t : Track) → IsEarlier old (cycle_before g from) b past c earlier → StandsFor old earlier t → HasNewPosts old g c.closing earlier t
  new-posts c earlier t back stands =
      let a = anchor_of g.history in
      let k = cycle_before g from in
      let within = h.changes.within in
      let last = h.changes.last in
      let before = earlier-closing c earlier back in
      let is = closing-of k c back.there in
      let one = back.first in
      let place : k - 1 + 1 ≡ k = omega (arith, one) in
      let at : closing a (k - 1 + 1) ≡ c.closing = ap (closing a) place ∙ sym is in
      let early : closing a (k - 1 + 1) ≤ last_request_day = omega (arith, at, before, within, last) in
      let on : day_of_month c.closing ≡ a.close_day = ap day_of_month (sym at) ∙ closing-dated a (k - 1) h.changes.more.sound.opening early in
      record {
        sound = h.changes.more.sound_before;
        stands = stands;
        day = back.day;
        last = omega (arith, before, within, last);
        closing = on ∙ ap (λ (x : Anchor). x.close_day) (anchor-stays old g p from h.changes.more);
        continues = continues-before old g p from h.changes.more c.closing before;
        new = h.changes.more.kept ∷ [];
        history = h.changes.more.history;
      }

  pub awaits-posts : (c : Cycle) (earlier : Summary) → IsEarlier old (cycle_before g from) b past c earlier → AwaitsPosts g earlier
  awaits-posts c earlier back =
      let cut = cut-track (cycle_before g from) c past.track in
      record {
        old = old;
        day = c.closing;
        track = cut.0;
        posts = new-posts c earlier cut.0 back (back.stands cut.0 cut.1);
      }

  pub renewed-begins : (e : Ends) (c : Cycle) (earlier again : Summary) → AreEndsOf g from past e
      → IsEarlier old (cycle_before g from) b past c earlier → again.whole ≡ true → ((was : Given) (day : ℕ) (t : Track) → HasNewPosts was g day earlier t → StandsFor g again t) → BeginsAgain g e past (Some again)
  renewed-begins e c earlier again ends back whole stands = record {
    within = within-past e ends;
    whole = whole;
    stands = λ front is.
        stands old c.closing front.track
        (new-posts c earlier front.track back (front-stands front e c earlier ends is back));
    marks = λ front is. front-marks front e ends is;
  }

  -- ---- what the account is taken back to
  -- the closing before the change
  first-closing : (c : Cycle) → cycle_at (cycle_before g from) past.track.cycles.items ≡ Some c → first_in_cycle (anchor_of g.history) from ≡ c.closing + 1
  first-closing c at = ap (λ d. d + 1) (sym (closing-of (cycle_before g from) c at))

  pub closing-again : {k : ℕ} (again : Summary) (e : Ends) → k ≡ cycle_before g from → 1 ≤ k → BeginsAgain g e past (Some again)
      → ((c : Cycle) → cycle_at k past.track.cycles.items ≡ Some c → again.day ≡ Some c.closing) → IsAgain g from reached past (back_at again e)
  closing-again {k = k} again e number some begins dated = by (cycle-there past.track.cycles.items k (closed-at number))
    where
      by : (k ≡ 0) ⊎ ((c : Cycle) × (cycle_at k past.track.cycles.items ≡ Some c)) → IsAgain g from reached past (back_at again e)
      by (inl z) = absurd (omega (arith, some, z))
      by (inr (c, at)) =
          let there : cycle_at (cycle_before g from) past.track.cycles.items ≡ Some c = ap (λ n. cycle_at n past.track.cycles.items) (sym number) ∙ at in
          let early = early-closing (cycle_before g from) c there (omega (arith, some, number)) (omega arith) in
          let first = first-closing c there in
          let here : day_to_fold g again.day ≡ c.closing + 1 = ap (day_to_fold g) (dated c at) in
          let within = h.changes.within in
          record {
            near = omega (arith, first, here);
            earlier = omega (arith, here, early, within);
            whole = begins.whole;
            closings = λ new front. record { stands = begins.stands new front; marks = begins.marks new front };
          }

  -- before the opening day, where none closed before it
  pub beginning-again : (r : TakenBack) → cycle_before g from ≡ 0 → IsAtBeginning r → IsAgain g from reached past r
  beginning-again r none is =
      let a = anchor_of g.history in
      let first : closing a (cycle_before g from) ≡ a.opened - 1 = ap (closing a) none ∙ closing-none a in
      let some = h.changes.more.sound.opening.first in
      let here : day_to_fold g (day_of r.book) ≡ opened_in g = ap (λ o. day_to_fold g (day_of o)) is.book in
      let low = opened-through old (Some b) past.track reached h.folding.stands h.folding.day in
      let same = same-opened in
      record {
        near = omega (arith, first, some, here);
        earlier = omega (arith, here, same, low);
        whole = subst IsWhole (sym is.book) tt;
        closings = λ new front.
            let empty = first-front r.ends past new is.ends front in
            record { stands = subst (λ o. Stands g o new.track) (sym is.book) (none-recorded new empty); marks = none-marked g new empty };
      }

  -- the eve
  module _ (e : Eve) (m : MayBegin past from (cycle_before g from) e) (plain : sets_rates p ≡ false) (s : IsEve old reached past e) where
    -- it stands for the account with the post
    eve-stands : IsEve g reached past e
    eve-stands =
        let more = h.changes.more in
        let before = m.earlier in
        eve-on old g reached past e more.kept more.sound_before more.sound more.history (ap sets_rates more.post ∙ plain)
        (λ y l. continues-before old g p from more y (omega (arith, l, before))) s

    first-by-eve : closing (anchor_of g.history) (cycle_before g from) ≤ e.day
    first-by-eve = by (cycle-there past.track.cycles.items (cycle_before g from) closed-of)
      where
        by : (cycle_before g from ≡ 0) ⊎ ((c : Cycle) × (cycle_at (cycle_before g from) past.track.cycles.items ≡ Some c)) → closing (anchor_of g.history) (cycle_before g from) ≤ e.day
        by (inl z) =
            let a = anchor_of g.history in
            let none : closing a (cycle_before g from) ≡ a.opened - 1 = ap (closing a) z ∙ closing-none a in
            let on = eve-stands in
            let low = on.opened in
            omega (arith, none, low)
        by (inr (c, at)) =
            let closed = m.closed c at in
            let is = closing-of (cycle_before g from) c at in
            omega (arith, closed, is)

    -- and so does a copy of its Book
    pub eve-again : (copy : Option Summary) → day_of copy ≡ day_of e.book → (IsWhole e.book → IsWhole copy) → ((t : Track) → Stands g e.book t → Stands g copy t)
        → IsAgain g from reached past (record { book = copy; ends = e.ends })
    eve-again copy dated whole stands =
        let on = eve-stands in
        let first = first-by-eve in
        let low = on.earlier in
        let here : day_to_fold g (day_of copy) ≡ e.day + 1 = ap (day_to_fold g) (dated ∙ on.folded) in
        record {
          near = omega (arith, first, here);
          earlier = omega (arith, here, low);
          whole = whole on.begins.whole;
          closings = λ new front. record { stands = stands new.track (on.begins.stands new front); marks = on.begins.marks new front };
        }

  -- the Book that was taken back, where what was kept was read from the list
  pub earlier-found : {k : ℕ} {since : Option ℕ} {kept : List Accruing} (earlier : Summary) → k ≡ cycle_before g from → 1 ≤ k
      → since ≡ get_or past.since.items (k - 1) since → kept ≡ past.accrued.items → GoesBack k b past.track since kept earlier
      → ((c : Cycle) → cycle_at k past.track.cycles.items ≡ Some c → earlier.day ≡ Some c.closing) → earlier.whole ≡ true → (c : Cycle) × IsEarlier old (cycle_before g from) b past c earlier
  earlier-found {k = k} {since = since} earlier number some read same goes dated whole = by (cycle-there past.track.cycles.items k (closed-at number))
    where
      there : slice_get past.since.items (k - 1) ≡ Some since
      there =
          let closed = closed-at number in
          let count = h.folding.marks.count in
          slice_get_read past.since.items (length past.since.items) (k - 1) since refl (omega (arith, closed, count, some)) read

      by : (k ≡ 0) ⊎ ((c : Cycle) × (cycle_at k past.track.cycles.items ≡ Some c)) → (c : Cycle) × IsEarlier old (cycle_before g from) b past c earlier
      by (inl z) = absurd (omega (arith, some, z))
      by (inr (c, at)) =
          let back = subst (λ xs. GoesBack k b past.track since xs earlier) same goes in
          (c, subst (λ n. IsEarlier old n b past c earlier) number (earlier-is k c since earlier at there back (dated c at) whole))

-- ---- an account before whichever change
-- taken back to the closing of a cycle
pub at-closing : (b : Summary) (past : Past) (e : Ends) (earlier : Summary) {k : ℕ} {since : Option ℕ} {kept : List Accruing}
    → ((g : Given) (from : ℕ) → k ≡ cycle_before g from → AreEndsOf g from past e) → 1 ≤ k
    → since ≡ get_or past.since.items (k - 1) since → kept ≡ past.accrued.items → GoesBack k b past.track since kept earlier
    → ((c : Cycle) → cycle_at k past.track.cycles.items ≡ Some c → earlier.day ≡ Some c.closing) → earlier.whole ≡ true → IsAtClosing k b past (record { book = earlier; ends = e })
at-closing b past e earlier ends some read same goes dated whole = record {
  plain = λ g p from reached may plain.
      let h = may.change.before in
      let found = earlier-found h earlier may.number some read same goes dated whole in
      closing-again h earlier e may.number some (plain-begins h e found.0 earlier (ends g from may.number) found.1 plain) dated;
  rates = λ g p from reached may.
      let h = may.change.before in
      let found = earlier-found h earlier may.number some read same goes dated whole in
      record {
        awaits = awaits-posts h found.0 earlier found.1;
        again = λ r has. closing-again h r e may.number some (renewed-begins h e found.0 earlier r (ends g from may.number) found.1 has.whole has.stands) (λ c at. has.day ∙ dated c at);
      };
}

-- to it for a post that sets no rate
pub closing-plain : {old g : Given} {p : Post} {from k reached : ℕ} {b : Summary} {past : Past} {eve : Option Eve} (r : Earlier) (made : Option Summary) → IsAtClosing k b past r → made ≡ Some r.book
    → MayGoBackOn old g p from k reached b past eve → IsAgain g from reached past (record { book = made; ends = r.ends })
closing-plain {old = old} {g = g} {p = p} {from = from} {reached = reached} {past = past} r made is same may =
    subst (λ o. IsAgain g from reached past (record { book = o; ends = r.ends })) (sym same)
    (is.plain g p from reached (record { change = record { old = old; before = may.before }; number = may.number }) may.plain)

-- before the opening day
pub beginning-plain : {old g : Given} {p : Post} {from k reached : ℕ} {b : Summary} {past : Past} {eve : Option Eve} (r : TakenBack) → k ≡ 0 → IsAtBeginning r → MayGoBackOn old g p from k reached b past eve
    → IsAgain g from reached past r
beginning-plain r none is may = beginning-again may.before r (sym may.number ∙ none) is

-- to the eve
pub eve-back : (old : Given) (from k : ℕ) (b : Summary) (past : Past) (e : Eve) (copy : Option Summary) → MayBegin past from k e → day_of copy ≡ day_of e.book → (IsWhole e.book → IsWhole copy)
    → ((g : Given) (t : Track) → Stands g e.book t → Stands g copy t) → (g : Given) (p : Post) (reached : ℕ) → MayGoBackOn old g p from k reached b past (Some e)
    → IsAgain g from reached past (record { book = copy; ends = e.ends })
eve-back old from k b past e copy begin dated whole stands g p reached may =
    eve-again may.before e (subst (λ n. MayBegin past from n e) may.number begin) may.plain may.stood copy dated whole (stands g)

-- whether there is an eve or not
pub closing-back : {E : Type 0} (from k : ℕ) (b : Summary) (past : Past) (eve : Option Eve) (result : Result TakenBack E)
    → IfOk result (λ r. (old g : Given) (p : Post) (from reached : ℕ) → MayGoBackOn old g p from k reached b past None → IsAgain g from reached past r)
    → IfOk result (λ r. (old g : Given) (p : Post) (reached : ℕ) → MayGoBackOn old g p from k reached b past eve → IsAgain g from reached past r)
closing-back from k b past eve (Ok r) h = λ old g p reached may. h old g p from reached (record { before = may.before; stood = tt; number = may.number; plain = may.plain })
closing-back from k b past eve (Err e) h = tt
