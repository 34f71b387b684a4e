-- The day after a due date: the book with its late fee.
use Rattle.std.proofs.lemmas.Int.{ints}
use Rattle.card_closing.specs.Accruals.{Accrued, nothing_accrued}
use Rattle.card_daily.proofs.Charging.{high-of}
use Rattle.card_model.proofs.Caps.{fee-cycles}
use Rattle.card_model.specs.Limits.{balance_limit}
use Rattle.card_model.specs.declared.fee.FeeKind.TheVariants as fee
use Rattle.card_rates.proofs.Penalties.{fee-penalties}
use Rattle.card_rates.specs.RateBooks.{Rates, rates_of}
use Rattle.std.proofs.Common.{◌≡◌, negsuc, get_or, ℕ, zero, suc, ◌+◌, ◌-◌, ◌≤◌, Bool, true, false, cond, List, [], ◌∷◌, map, length, take, refl, sym, ap, ◌∙◌, subst, arith, eqb, Option, Some, None, ℤ, pos}
use Rattle.std.specs.List.{All, Contains}
use Rattle.std.specs.Prelude.{◌≤ℤ◌}
use Rattle.card_bounds.proofs.Steps.{Limits, late-small}
use Rattle.card_bounds.proofs.Whole.{folded-few, limits-on}
use Rattle.card_events.specs.History.{anchor_of}
use Rattle.card_closing.specs.BookRows.{brought, rows_of}
use Rattle.card_closing.specs.Growth.{with_repaid}
use Rattle.card_model.proofs.EntryFacts.{all-debit}
use Rattle.card_model.specs.Books.{Account, Book, newest_purchase, present_cycle, with_penalties}
use Rattle.card_model.specs.Caps.{capped_by}
use Rattle.card_model.specs.Cycles.{Cycle, IssuedRow, Seen, last_cycle}
use Rattle.card_model.specs.DueDates.{after_due_date, cured_by, on_due}
use Rattle.card_model.specs.Effects.{after_posts}
use Rattle.card_model.specs.Entries.{AreBalances, at_least_zero, credit_balance, debit}
use Rattle.card_model.specs.Fees.{charged_fee, fee_above, fee_cents, fee_for, issued_fee, late_fee, with_fee}
use Rattle.card_model.specs.Payments.{is_returned, met}
use Rattle.card_model.specs.Segments.{SegmentTerms}
use Rattle.card_model.specs.declared.entry.EntryKind.TheVariants as kind
use Rattle.card_model.specs.declared.fee.Fee.{Fee}
use Rattle.card_model.specs.declared.segment.Interval.{Interval}
use Rattle.card_daily.proofs.Books.{day-is}
use Rattle.card_daily.proofs.Penalized.{IsWithPenalties, accrued-with, stand-with}
use Rattle.card_daily.proofs.Repaying.{IsOther, others-bring, same-brought}
use Rattle.card_daily.proofs.Returning.{returned-start}
use Rattle.card_daily.proofs.Standing.{begins-with}
use Rattle.card_daily.specs.Due.{AreCharged, charged, fee_after, fee_due}
use Rattle.card_daily.specs.Given.{Given, IsSound, account_in, opened_in, row_in, seen_in}
use Rattle.card_daily.specs.Penalties.{cured_on}
use Rattle.card_daily.specs.Stands.{AreAmid, AreBefore, StandFor, amid, before, first_in, returned_by, rows_amid, rows_through}
use Rattle.card_daily.specs.declared.state.State.{State}
use Rattle.card_daily.specs.declared.track.Track.{Track}

due-is : (issued : Option IssuedRow) (a : Account) (seen : Seen) (b : Book) (c : Option Cycle)
    → on_due issued a seen b c ≡ with_penalties (cured_on seen b.cycles c b.penalties) (with_fee a seen 0 (fee_after issued seen b c) b)
unfolding on_due cured_on
due-is issued a seen b None = refl
due-is issued a seen b (Some c) = by (eqb seen.day (c.due + 1))
  where
    cured : List Interval
    cured = map (cured_by seen b.cycles c.due) b.penalties

    by : (t : Bool) → cond t (after_due_date issued a seen b c) b ≡ with_penalties (cond t cured b.penalties) (with_fee a seen 0 (cond t (late_fee issued seen b c) None) b)
    by true = refl
    by false = refl

pub amid-is : (g : Given) (day : ℕ) → opened_in g ≤ day
    → amid g day [] ≡ with_penalties (cured_on (seen_in g day) (before g day).cycles (last_cycle (before g day).cycles) (before g day).penalties) (charged g day)
unfolding after_posts fee_due
amid-is g day o =
    let row = row_in g (day - opened_in g) in
    let b = before g day in
    ap (λ d. on_due row (account_in g) (seen_in g d) b (last_cycle b.cycles)) (day-is (opened_in g) day o)
    ∙ due-is row (account_in g) (seen_in g day) b (last_cycle b.cycles)

-- ---- the fee
abbrev IsFewCents : Fee → Type 0
IsFewCents f = (pos 0 ≤ℤ f.cents) × (f.cents ≤ℤ pos balance_limit)

above-few : (n : ℕ) (f g : Fee) → fee_above n f ≡ Some g → pos 0 ≤ℤ g.cents
above-few zero f g e = cc
above-few (suc n) f g e = let same : pos (suc n) ≡ g.cents = cc in rw (← same) (omega (arith, ints))

charged-sign : (issued : Option IssuedRow) (o : Option Fee) (g : Fee) → charged_fee issued o ≡ Some g → pos 0 ≤ℤ g.cents
charged-sign issued None g e = cc
charged-sign issued (Some f) g e = above-few (capped_by (issued_fee f.due_cycle) issued (fee_cents f)) f g e

late-sign : (issued : Option IssuedRow) (seen : Seen) (b : Book) (c : Cycle) (g : Fee) → late_fee issued seen b c ≡ Some g → pos 0 ≤ℤ g.cents
late-sign issued seen b c g e = by (met seen c) e
  where
    by : (t : Bool) → cond t None (charged_fee issued (fee_for seen b.cycles b.fees (present_cycle b) fee.Late c)) ≡ Some g → pos 0 ≤ℤ g.cents
    by true e = cc
    by false e = charged-sign issued (fee_for seen b.cycles b.fees (present_cycle b) fee.Late c) g e

after-few : (issued : Option IssuedRow) (seen : Seen) (b : Book) (c : Option Cycle) (f : Fee) → Limits seen → fee_after issued seen b c ≡ Some f → IsFewCents f
after-few issued seen b None f l e = cc
after-few issued seen b (Some c) f l e = by (eqb seen.day (c.due + 1)) e
  where
    by : (t : Bool) → cond t (late_fee issued seen b c) None ≡ Some f → IsFewCents f
    by true e = (late-sign issued seen b c f e, high-of f.cents (late-small issued seen b c l f e))
    by false e = cc

pub fee-few : (g : Given) (day : ℕ) (f : Fee) → IsSound g → fee_due g day ≡ Some f → IsFewCents f
unfolding fee_due
fee-few g day f s e =
    let l = limits-on (anchor_of g.history) g.shared g.history g.issued day (folded-few (anchor_of g.history) g.shared.holidays g.history s.accepted.cents) s.fees in
    after-few (row_in g (day - opened_in g)) (seen_in g day) (before g day) (last_cycle (before g day).cycles) f l e

-- ---- rows
map-each : {X Y : Type 0} (f h : X → Y) → ((x : X) → f x ≡ h x) → (xs : List X) → map f xs ≡ map h xs
map-each f h e [] = refl
map-each f h e (x ∷ xs) = ap (λ y. y ∷ map f xs) (e x) ∙ ap (λ ys. h x ∷ ys) (map-each f h e xs)

fee-others : (f : ℕ → Bool) (a : Account) (seen : Seen) (n : ℕ) (b : Book) (o : Option Fee) (s first : ℕ) → brought f s first (with_fee a seen n o b).entries ≡ brought f s first b.entries
fee-others f a seen n b None s first = refl
fee-others f a seen n b (Some x) s first =
    others-bring f s first b.entries _ (all-debit IsOther seen.day n (newest_purchase a seen) (fee_cents x) (credit_balance b.entries) kind.Fee (λ s z. refl))

-- a day begins with the rows of the days before it
rows-begin : (g : Given) (day : ℕ) (o : Option Fee) (t : SegmentTerms)
    → rows_amid g day [] (with_fee (account_in g) (seen_in g day) 0 o (before g day)) t ≡ rows_through g (first_in g day) (day - 1) (before g day) t
unfolding rows_of
rows-begin g day o t =
    let b = before g day in
    let first = first_in g day in
    let b' = with_fee (account_in g) (seen_in g day) 0 o b in
    let earlier : ℕ → Bool = λ (n : ℕ). is_returned (seen_in g (day - 1)).posts (day - 1) n in
    ap (λ r. with_repaid r (rows_through g first (day - 1) b t))
    (same-brought t.id first (returned_by g day []) earlier (returned-start g day) b'.entries ∙ fee-others earlier (account_in g) (seen_in g day) 0 b o t.id first)

-- what a charged fee changes
pub record IsWithFee (g : Given) (day : ℕ) (o : Option Fee) (s new : State) (t after : Track) : Type 0 where
  pub entries : after.entries.items ≡ (with_fee (account_in g) (seen_in g day) 0 o (before g day)).entries
  pub cycles : after.cycles.items ≡ t.cycles.items
  pub fees : after.fees.items ≡ (with_fee (account_in g) (seen_in g day) 0 o (before g day)).fees
  pub sums : AreBalances (with_fee (account_in g) (seen_in g day) 0 o (before g day)).entries new.segments.balances
  pub segments : new.segments.segments ≡ s.segments.segments
  pub rates : new.rates ≡ s.rates
  pub rows : new.rows.items ≡ s.rows.items
  pub accruals : new.accruals.items ≡ s.accruals.items

pub begun : (g : Given) (day : ℕ) (o : Option Fee) (s new : State) (t after : Track) → fee_due g day ≡ o → AreBefore g day s t → IsWithFee g day o s new t after → AreCharged g day new after
begun g day o s new t after due h w =
    let b = before g day in
    let b' = with_fee (account_in g) (seen_in g day) 0 o b in
    let is : b' ≡ charged g day = ap (λ (o : Option Fee). with_fee (account_in g) (seen_in g day) 0 o b) (sym due) in
    let rates : new.rates ≡ rates_of g.shared.holidays g.history b'.penalties =
    w.rates ∙ (h.stand.rates ∙ ap (λ ps. rates_of g.shared.holidays g.history ps) (sym (fee-penalties (account_in g) (seen_in g day) 0 o b))) in
    let rows : new.rows.items ≡ map (rows_amid g day [] b') new.rates.segments =
    w.rows ∙ (h.stand.rows ∙ (map-each (rows_through g (first_in g day) (day - 1) b) (rows_amid g day [] b') (λ x. sym (rows-begin g day o x)) s.rates.segments
    ∙ ap (λ (r : Rates). map (rows_amid g day [] b') r.segments) (sym w.rates))) in
    let stand : StandFor g (rows_amid g day [] b') b' new after = record {
      entries = w.entries;
      cycles = w.cycles ∙ (h.stand.cycles ∙ sym (fee-cycles (account_in g) (seen_in g day) 0 o b));
      fees = w.fees;
      rates = rates;
      segments = w.segments ∙ h.stand.segments;
      sums = w.sums;
      rows = rows;
      accruals = ap (λ (xs : List Accrued). length xs) w.accruals ∙ (h.stand.accruals ∙ ap (λ (r : Rates). length r.segments) (sym w.rates));
    } in
    record {
      stand = subst (λ (b : Book). StandFor g (rows_amid g day [] b) b new after) is stand;
      accrued = record {
        sums = λ x there deferred over.
            ap (λ (xs : List Accrued). (get_or xs (x.id - 2) nothing_accrued).sum) w.accruals ∙ h.accrued.sums x (subst (λ (r : Rates). Contains r.segments x) w.rates there) deferred over;
        days = subst (λ (xs : List Accrued). All (λ a. a.days ≤ day - 1 + 1 - opened_in g) xs) (sym w.accruals) h.accrued.days;
      };
    }

pub fee-front : (a : Account) (seen : Seen) (n : ℕ) (f : Fee) (b : Book) → take (length b.entries) (with_fee a seen n (Some f) b).entries ≡ b.entries
fee-front a seen n f b = begins-with b.entries (with_fee a seen n (Some f) b).entries (debit (record { day = seen.day; kind = kind.Fee; post = n }) (newest_purchase a seen) (fee_cents f) (credit_balance b.entries)) refl

-- ---- the penalties
-- what the ends of penalties change after it
pub ended : (g : Given) (day : ℕ) (s new : State) (t : Track) → opened_in g ≤ day → AreCharged g day s t
    → IsWithPenalties (cured_on (seen_in g day) (before g day).cycles (last_cycle (before g day).cycles) (before g day).penalties) s new → AreAmid g day [] new t
ended g day s new t o h k =
    let ps = cured_on (seen_in g day) (before g day).cycles (last_cycle (before g day).cycles) (before g day).penalties in
    let stand = stand-with g (rows_amid g day [] (charged g day)) (rows_amid g day [] (with_penalties ps (charged g day))) ps (charged g day) s new t h.stand (λ x. refl) k in
    record {
      stand = subst (λ (b : Book). StandFor g (rows_amid g day [] b) b new t) (sym (amid-is g day o)) stand;
      accrued = accrued-with g (day - 1) (before g day) ps s new h.accrued k;
    }

-- the penalties and cycles before it
pub charged-penalties : (g : Given) (day : ℕ) → (charged g day).penalties ≡ (before g day).penalties
charged-penalties g day = fee-penalties (account_in g) (seen_in g day) 0 (fee_due g day) (before g day)

pub charged-cycles : (g : Given) (day : ℕ) → (charged g day).cycles ≡ (before g day).cycles
charged-cycles g day = fee-cycles (account_in g) (seen_in g day) 0 (fee_due g day) (before g day)
