-- Every run accepts plans of six months or more.
use Rattle.std.proofs.Common.{◌≡◌, ℕ, zero, suc, ◌+◌, ◌≤◌, Bool, true, false, ◌||◌, List, [], ◌∷◌, ◌++◌, ltb, refl, sym, ap, ◌∙◌, subst, arith, Option, Some, None}
use Rattle.std.proofs.lemmas.Bool.Decides.{nat_tests}
use Rattle.std.proofs.lemmas.List.Elements.{All-nil, All-cons, All-contains, All-push, All-tail}
use Rattle.std.specs.List.{Contains, cons_option}
use Rattle.card_model.proofs.Accepting.{all-none, where-false}
use Rattle.card_events.specs.History.{anchor_of, is_open, next_segment, terms_of}
use Rattle.card_events.specs.Later.{six_months_after}
use Rattle.card_events.specs.SharedRows.{SharedRows}
use Rattle.card_events.specs.declared.kept.Kept.{Kept}
use Rattle.card_events.specs.declared.post.Category.{Category}
use Rattle.card_events.specs.declared.post.Category.TheVariants as category
use Rattle.card_events.specs.declared.post.Post.{Post}
use Rattle.card_events.specs.declared.post.Post.TheVariants as post
use Rattle.card_events.specs.declared.reply.Refusal.TheVariants as refusal
use Rattle.card_model.specs.Cycles.{IssuedRow}
use Rattle.card_model.specs.Folds.{book}
use Rattle.card_model.specs.Machine.{accepted, kept_as, next_number}
use Rattle.card_model.specs.Refusals.{Lists, Present, plan_too_short, reason_against, reason_to_open, reasons}
use Rattle.card_model.specs.Segments.{SegmentTerms, is_over, is_plan, is_sort, opening_vintages, segment_of, sort_of_category, sort_of_plan}
use Rattle.card_model.specs.declared.segment.Sort.TheVariants as sort
use Rattle.card_rates.proofs.Added.{segments-are}
use Rattle.card_rates.proofs.DayLaws.{rates_later, segments_of_a_day}
use Rattle.card_rates.specs.Added.{added_from}
use Rattle.card_rates.specs.Laws.{segments_on}
use Rattle.card_rates.specs.RateBooks.{rates_of}
use Rattle.card_rules.proofs.Announced.{not-both}
use Rattle.card_rules.proofs.EveryRun.{of_every_run}
use Rattle.card_rules.proofs.Months.{six-months}
use Rattle.card_rules.proofs.Rises.{is-high, rate-lasting}
use Rattle.card_rules.specs.Months.{months_after}
use Rattle.card_rules.specs.PlanMonths.{LastsSixMonths, PlansLast, PlansLastSixMonths}
use Rattle.card_rules.specs.Rises.{rate_at}

-- ---- every run
none-short : (now : Present) (p : Post) → reason_against now p ≡ None → plan_too_short p ≡ None
unfolding reason_against
none-short now p h = (all-none (reasons now p) h).1.1.1.1.1.1.0

long : (p : Post) → plan_too_short p ≡ None → LastsSixMonths p
unfolding plan_too_short
long (post.Plan day kind rate end after) h = let t = where-false (ltb end (six_months_after day)) refusal.PlanTooShort h in low t (six-months day)
  where
    low : ltb end (six_months_after day) ≡ false → months_after 6 day ≡ six_months_after day → months_after 6 day ≤ end
    low t e = let m : six_months_after day ≤ end = grind (arith, nat_tests) in omega (arith, m, e)
long (post.Open d t) h = tt
long (post.OpenVariable d t) h = tt
long (post.Charge d a z) h = tt
long (post.Credit d a z) h = tt
long (post.Payment d m y z) h = tt
long (post.Return d t) h = tt
long (post.Notice d c r f) h = tt
long (post.Lower d y r) h = tt
long post.Penalty h = tt
long (post.Review d f) h = tt
long (post.Dispute d t z) h = tt
long (post.Ack d t) h = tt
long (post.Resolve d t z) h = tt
long (post.AskRefund d) h = tt
long (post.Refund z) h = tt
long (post.Amend t d z) h = tt
long (post.Bill z) h = tt

opens-long : (p : Post) → is_open p ≡ true → LastsSixMonths p
opens-long (post.Open d t) e = tt
opens-long (post.OpenVariable d t) e = tt
opens-long (post.Charge d a z) e = tt
opens-long (post.Credit d a z) e = tt
opens-long (post.Payment d m y z) e = tt
opens-long (post.Return d t) e = tt
opens-long (post.Notice d c r f) e = tt
opens-long (post.Lower d y r) e = tt
opens-long post.Penalty e = tt
opens-long (post.Review d f) e = tt
opens-long (post.Dispute d t z) e = tt
opens-long (post.Ack d t) e = tt
opens-long (post.Resolve d t z) e = tt
opens-long (post.AskRefund d) e = tt
opens-long (post.Refund z) e = tt
opens-long (post.Amend t d z) e = tt
opens-long (post.Bill z) e = tt
opens-long (post.Plan d k r f a) e = absurd (cc)

accepts-plans : (now : Present) (key : List ℕ) (p : Post) → is_open p ≡ false → reason_against now p ≡ None → PlansLast now.lists.posts → PlansLast (accepted now key p).posts
unfolding accepted
accepts-plans now key p o e h = All-push (λ (j : Kept). LastsSixMonths j.post) now.lists.posts (kept_as (next_number now) key now.today p) h (long p (none-short now p e))

opens-plans : (key : List ℕ) (today accounts : ℕ) (shared : SharedRows) (p : Post) → is_open p ≡ true → reason_to_open today accounts shared p ≡ None → PlansLast (kept_as 1 key today p ∷ [])
opens-plans key today accounts shared p o e = All-cons (λ (j : Kept). LastsSixMonths j.post) (kept_as 1 key today p) [] (opens-long p o) (All-nil (λ (j : Kept). LastsSixMonths j.post))

-- ---- the post of a plan's segment
-- the segment lasts for the six months of the plan that made it
record HasSixMonths (g : SegmentTerms) : Type 0 where
  end : ℕ
  ends : g.ends ≡ Some end
  long : months_after 6 g.begins ≤ end

no-plan : (c : Category) → (is_sort sort.Promo (sort_of_category c) || is_sort sort.Deferred (sort_of_category c)) ≡ false
no-plan category.Purchase = refl
no-plan category.Cash = refl
no-plan category.Transfer = refl

made : (s n : ℕ) (p : Post) (g : SegmentTerms) → LastsSixMonths p → segment_of s n p ≡ Some g → is_plan g ≡ true → HasSixMonths g
made s n (post.Plan day k rate end after) g l e plan =
    let is : record { id = s; sort = sort_of_plan k; post = n; begins = day; ends = Some end; rate = rate; effective = day; after = after } ≡ g = cc in
    subst HasSixMonths is (record { end = end; ends = refl; long = l })
made s n (post.Notice given c rate effective) g l e plan =
    let is : record { id = s; sort = sort_of_category c; post = n; begins = given + 15; ends = None; rate = rate; effective = effective; after = 0 } ≡ g = cc in
    absurd (not-both (is_plan g) plan (subst (λ (y : SegmentTerms). is_plan y ≡ false) is (no-plan c)))
made s n (post.Open d t) g l e plan = absurd (cc)
made s n (post.OpenVariable d t) g l e plan = absurd (cc)
made s n (post.Charge d a z) g l e plan = absurd (cc)
made s n (post.Credit d a z) g l e plan = absurd (cc)
made s n (post.Payment d m y z) g l e plan = absurd (cc)
made s n (post.Return d t) g l e plan = absurd (cc)
made s n (post.Lower d y r) g l e plan = absurd (cc)
made s n post.Penalty g l e plan = absurd (cc)
made s n (post.Review d f) g l e plan = absurd (cc)
made s n (post.Dispute d t z) g l e plan = absurd (cc)
made s n (post.Ack d t) g l e plan = absurd (cc)
made s n (post.Resolve d t z) g l e plan = absurd (cc)
made s n (post.AskRefund d) g l e plan = absurd (cc)
made s n (post.Refund z) g l e plan = absurd (cc)
made s n (post.Amend t d z) g l e plan = absurd (cc)
made s n (post.Bill z) g l e plan = absurd (cc)

of-plans : (n s : ℕ) (ks : List Kept) (g : SegmentTerms) → PlansLast ks → Contains (added_from n s ks) g → is_plan g ≡ true → HasSixMonths g
unfolding added_from
of-plans n s [] g h (k, l, e) plan = absurd (omega arith)
of-plans n s (k ∷ ks) g h c plan = by (segment_of s n k.post) refl c (λ d. of-plans (suc n) (next_segment s k.post) ks g (All-tail (λ (j : Kept). LastsSixMonths j.post) k ks h) d plan)
  where
    here : LastsSixMonths k.post
    here = All-contains (λ (j : Kept). LastsSixMonths j.post) (k ∷ ks) k h (zero, omega arith, refl)

    by : (o : Option SegmentTerms) → segment_of s n k.post ≡ o → Contains (cons_option o (added_from (suc n) (next_segment s k.post) ks)) g → (Contains (added_from (suc n) (next_segment s k.post) ks) g → HasSixMonths g) → HasSixMonths g
    by None f c rest = rest c
    by (Some v) f (zero, l, e) rest = made s n k.post g here (f ∙ ap (λ (x : SegmentTerms). Some x) e) plan
    by (Some v) f (suc j, l, e) rest = rest (j, omega arith, e)

not-opening : (opened : ℕ) (terms : _) (gs : List SegmentTerms) (g : SegmentTerms) → Contains (opening_vintages opened terms ++ gs) g → is_plan g ≡ true → Contains gs g
not-opening opened terms gs g (zero, l, e) plan = absurd (not-both (is_plan g) plan (subst (λ (y : SegmentTerms). is_plan y ≡ false) e refl))
not-opening opened terms gs g (suc zero, l, e) plan = absurd (not-both (is_plan g) plan (subst (λ (y : SegmentTerms). is_plan y ≡ false) e refl))
not-opening opened terms gs g (suc (suc zero), l, e) plan = absurd (not-both (is_plan g) plan (subst (λ (y : SegmentTerms). is_plan y ≡ false) e refl))
not-opening opened terms gs g (suc (suc (suc k)), l, e) plan = (k, omega arith, e)

same-rate : (history : List Kept) (issued : List IssuedRow) (shared : SharedRows) (day later : ℕ) (g : SegmentTerms) → PlansLast history → (anchor_of history).opened ≤ day
    → day ≤ later → later ≤ months_after 6 g.begins → Contains (segments_on history issued shared day) g → is_plan g ≡ true → g.begins ≤ day
    → rate_at history issued shared later g ≡ rate_at history issued shared day g
same-rate history issued shared day later g plans opened h six c plan begun =
    let r = rates_of shared.holidays history (book history issued shared later).penalties in
    let every = segments_of_a_day.stay history issued shared day g c in
    let listed = subst (λ (gs : List SegmentTerms). Contains gs g) (segments-are (anchor_of history) (terms_of history) shared.holidays history) every in
    let added = not-opening (anchor_of history).opened (terms_of history) (added_from 1 5 history) g listed plan in
    let lasting = of-plans 1 5 history g plans added plan in
    let end = lasting.end in
    let ends = lasting.ends in
    let long = lasting.long in
    let on : is_over g.ends later ≡ false = ap (λ o. is_over o later) ends ∙ is-high (suc end) later (omega (arith, long, six)) in
    let before : is_over g.ends day ≡ false = ap (λ o. is_over o day) ends ∙ is-high (suc end) day (omega (arith, long, six, h)) in
    sym (rates_later history issued shared later later g (omega arith))
    ∙ (rate-lasting shared.index r later g (omega (arith, begun, h)) plan on
    ∙ (sym (rate-lasting shared.index r day g begun plan before) ∙ rates_later history issued shared day later g h))

pub plans_last_six_months : PlansLastSixMonths
plans_last_six_months = record {
  runs = λ requests. of_every_run (λ (l : Lists). PlansLast l.posts) (record { opens = opens-plans; accepts = accepts-plans }) requests;
  rates = same-rate;
}
