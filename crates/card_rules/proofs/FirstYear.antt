-- No notice takes effect in the first year.
use Rattle.std.proofs.Common.{◌≡◌, ℕ, ◌≤◌, ◌<◌, ◌⊎◌, inl, inr, true, false, List, [], ◌∷◌, ◌++◌, refl, sym, subst, arith, None, ltb}
use Rattle.std.proofs.lemmas.Bool.Decides.{nat_tests}
use Rattle.std.proofs.lemmas.List.Elements.{All-nil, All-cons, All-contains, All-push}
use Rattle.std.specs.List.{All, Contains}
use Rattle.card_model.proofs.Accepting.{all-none, where-false}
use Rattle.card_events.specs.History.{anchor_of, is_open, opening_in}
use Rattle.card_events.specs.Later.{year_after}
use Rattle.card_events.specs.SharedRows.{SharedRows}
use Rattle.card_events.specs.declared.kept.Kept.{Kept}
use Rattle.card_events.specs.declared.post.Post.{Post}
use Rattle.card_events.specs.declared.post.Post.TheVariants as post
use Rattle.card_events.specs.declared.reply.Refusal.TheVariants as refusal
use Rattle.card_model.specs.Cycles.{IssuedRow}
use Rattle.card_model.specs.Folds.{book}
use Rattle.card_model.specs.Machine.{accepted, kept_as, next_number}
use Rattle.card_model.specs.Refusals.{Lists, Present, anchor_now, first_year, reason_against, reason_to_open, reasons}
use Rattle.card_model.specs.Segments.{SegmentTerms}
use Rattle.card_rates.proofs.DayLaws.{segments_of_a_day}
use Rattle.card_rates.specs.Laws.{segments_on}
use Rattle.card_rules.proofs.Announced.{given-by}
use Rattle.card_rules.proofs.EveryRun.{of_every_run}
use Rattle.card_rules.proofs.Rises.{rates_rise_by_exceptions_alone}
use Rattle.card_rules.specs.FirstYear.{FirstYearKeepsItsRates, IsAfterFirstYear, KeepsFirstYear}
use Rattle.card_rules.specs.Notices.{AreNotices}
use Rattle.card_rules.specs.Rises.{HasBegun, HasEnded, IndexRose, MayRise, rate_at}

no-first-year : (now : Present) (p : Post) → reason_against now p ≡ None → first_year now p ≡ None
unfolding reason_against
no-first-year now p h = let none = all-none (reasons now p) h in none.1.1.1.1.1.1.1.1.1.1.1.0

after : (now : Present) (p : Post) → first_year now p ≡ None → IsAfterFirstYear (anchor_of now.lists.posts).opened p
unfolding first_year
after now (post.Charge d q c) h = tt
after now (post.Credit d q c) h = tt
after now (post.Payment d m y c) h = tt
after now (post.Return d t) h = tt
after now (post.Open d t) h = tt
after now (post.OpenVariable d t) h = tt
after now (post.Plan d k r e f) h = tt
after now (post.Notice d c r e) h = let t = where-false (ltb e (year_after (anchor_now now).opened)) (refusal.FirstYear (year_after (anchor_now now).opened)) h in low (year_after (anchor_of now.lists.posts).opened) t
  where
    low : (y : ℕ) → ltb e y ≡ false → y ≤ e
    low y t = grind (arith, nat_tests)
after now (post.Lower d c r) h = tt
after now post.Penalty h = tt
after now (post.Review d f) h = tt
after now (post.Dispute d t c) h = tt
after now (post.Ack d t) h = tt
after now (post.Resolve d t c) h = tt
after now (post.AskRefund d) h = tt
after now (post.Refund c) h = tt
after now (post.Amend t d c) h = tt
after now (post.Bill c) h = tt

not-opening : (p : Post) → is_open p ≡ false → opening_in p ≡ 0
not-opening (post.Charge d q c) o = refl
not-opening (post.Credit d q c) o = refl
not-opening (post.Payment d m y c) o = refl
not-opening (post.Return d t) o = refl
not-opening (post.Open d t) o = absurd (cc)
not-opening (post.OpenVariable d t) o = absurd (cc)
not-opening (post.Plan d k r e f) o = refl
not-opening (post.Notice d c r e) o = refl
not-opening (post.Lower d c r) o = refl
not-opening post.Penalty o = refl
not-opening (post.Review d f) o = refl
not-opening (post.Dispute d t c) o = refl
not-opening (post.Ack d t) o = refl
not-opening (post.Resolve d t c) o = refl
not-opening (post.AskRefund d) o = refl
not-opening (post.Refund c) o = refl
not-opening (post.Amend t d c) o = refl
not-opening (post.Bill c) o = refl

same-opened : (ks : List Kept) (k : Kept) → is_open k.post ≡ false → (anchor_of (ks ++ k ∷ [])).opened ≡ (anchor_of ks).opened
same-opened [] k e = not-opening k.post e
same-opened (x ∷ xs) k e = refl

opens-after : (opened : ℕ) (p : Post) → is_open p ≡ true → IsAfterFirstYear opened p
opens-after opened (post.Charge d q c) o = absurd (cc)
opens-after opened (post.Credit d q c) o = absurd (cc)
opens-after opened (post.Payment d m y c) o = absurd (cc)
opens-after opened (post.Return d t) o = absurd (cc)
opens-after opened (post.Open d t) o = tt
opens-after opened (post.OpenVariable d t) o = tt
opens-after opened (post.Plan d k r e f) o = absurd (cc)
opens-after opened (post.Notice d c r e) o = absurd (cc)
opens-after opened (post.Lower d c r) o = absurd (cc)
opens-after opened post.Penalty o = absurd (cc)
opens-after opened (post.Review d f) o = absurd (cc)
opens-after opened (post.Dispute d t c) o = absurd (cc)
opens-after opened (post.Ack d t) o = absurd (cc)
opens-after opened (post.Resolve d t c) o = absurd (cc)
opens-after opened (post.AskRefund d) o = absurd (cc)
opens-after opened (post.Refund c) o = absurd (cc)
opens-after opened (post.Amend t d c) o = absurd (cc)
opens-after opened (post.Bill c) o = absurd (cc)

accepts-first : (now : Present) (key : List ℕ) (p : Post) → is_open p ≡ false → reason_against now p ≡ None → KeepsFirstYear now.lists.posts → KeepsFirstYear (accepted now key p).posts
unfolding accepted
accepts-first now key p o e h =
    let k = kept_as (next_number now) key now.today p in
    subst (λ opened. All (λ (j : Kept). IsAfterFirstYear opened j.post) (now.lists.posts ++ k ∷ [])) (sym (same-opened now.lists.posts k o))
    (All-push (λ (j : Kept). IsAfterFirstYear (anchor_of now.lists.posts).opened j.post) now.lists.posts k h (after now p (no-first-year now p e)))

opens-first : (key : List ℕ) (today accounts : ℕ) (shared : SharedRows) (p : Post) → is_open p ≡ true → reason_to_open today accounts shared p ≡ None → KeepsFirstYear (kept_as 1 key today p ∷ [])
opens-first key today accounts shared p o e =
    All-cons (λ (j : Kept). IsAfterFirstYear (anchor_of (kept_as 1 key today p ∷ [])).opened j.post) (kept_as 1 key today p) [] (opens-after (anchor_of (kept_as 1 key today p ∷ [])).opened p o)
    (All-nil (λ (j : Kept). IsAfterFirstYear (anchor_of (kept_as 1 key today p ∷ [])).opened j.post))

first-rates : (history : List Kept) (issued : List IssuedRow) (shared : SharedRows) (day later : ℕ) (g : SegmentTerms) → AreNotices history → KeepsFirstYear history
    → (anchor_of history).opened ≤ day → day ≤ later → later < year_after (anchor_of history).opened → Contains (segments_on history issued shared day) g → g.begins ≤ day
    → rate_at history issued shared day g < rate_at history issued shared later g
    → IndexRose history shared day later g ⊎ (HasEnded day later g ⊎ HasBegun (book history issued shared later).penalties day later)
first-rates history issued shared day later g notices first opened l in-year c begun rise = by (rates_rise_by_exceptions_alone history issued shared day later g notices opened l c begun rise)
  where
    by : IndexRose history shared day later g ⊎ MayRise (book history issued shared later).penalties day later g → IndexRose history shared day later g ⊎ (HasEnded day later g ⊎ HasBegun (book history issued shared later).penalties day later)
    by (inl i) = inl i
    by (inr (inl e)) = inr (inl e)
    by (inr (inr (inl t))) =
        let n = given-by history issued shared day later g notices opened (segments_of_a_day.stay history issued shared day g c) t in
        let own = All-contains (λ (k : Kept). IsAfterFirstYear (anchor_of history).opened k.post) history n.notice first n.accepted in
        let late : year_after (anchor_of history).opened ≤ g.effective = subst (IsAfterFirstYear (anchor_of history).opened) n.is own in
        let by-then = t.by in
        absurd (omega (arith, late, by-then, in-year))
    by (inr (inr (inr b))) = inr (inr b)

pub first_year_keeps_its_rates : FirstYearKeepsItsRates
first_year_keeps_its_rates = record {
  runs = λ requests. of_every_run (λ (l : Lists). KeepsFirstYear l.posts) (record { opens = opens-first; accepts = accepts-first }) requests;
  rates = first-rates;
}
