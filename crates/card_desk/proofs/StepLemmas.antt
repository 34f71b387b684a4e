-- One step of the machine, by what it comes to.
use Rattle.std.proofs.Common.{◌≡◌, ℕ, ◌+◌, true, false, List, [], ◌∷◌, ◌++◌, length, Option, Some, None, refl, ap, sym, ◌∙◌, subst, append-nil, not, is_some, Result, Ok, Err, arith}
use Rattle.std.specs.Prelude.{IsErr, IsErrAnd}
use Rattle.std.proofs.lemmas.Bool.{eq-eqb}
use Rattle.card_events.specs.declared.post.Post.{Post}
use Rattle.card_events.specs.declared.reply.Refusal.{Refusal}
use Rattle.card_events.specs.declared.reply.Reply.{Reply}
use Rattle.card_events.specs.declared.reply.Reply.TheVariants as reply
use Rattle.card_events.specs.declared.request.Request.{Request}
use Rattle.card_events.specs.declared.request.Request.TheVariants as request
use Rattle.card_events.specs.declared.request.Shared.{Shared}
use Rattle.card_ports.specs.Rows.{AddsRows, GoOn, KeepsRows, SameRowsTold, next_after, next_seq, are_from}
use Rattle.card_ports.specs.declared.row.Row.{Row}
use Rattle.card_model.specs.Machine.{State, Outcome, Refuses, Repeats, Accepts, step, is_new, outcome_in, with_outcome, shared_reason, has_accounts, rolled, with_shared, with_lists, accepts}
use Rattle.card_model.specs.Refusals.{Lists}
use Rattle.card_desk.specs.Applied.{Carried, IsCounted, Steps}
use Rattle.card_desk.specs.declared.fault.Fault.{Fault}
use Rattle.card_desk.specs.declared.fault.Fault.TheVariants as fault
use Rattle.card_desk.specs.Kept.{new_rows, row_of, Fits, accepted_count}
use Rattle.card_account.specs.Verdicts.{verdict_of}
use Rattle.card_account.specs.declared.verdict.Verdict.TheVariants as verdict

-- ---- rows
pub adds_none : (rows : Option (List Row)) → AddsRows rows rows []
adds_none None = tt
adds_none (Some rows) = sym (append-nil rows)

next_after-append : (n : ℕ) (rows : List Row) (r : Row) → next_after n (rows ++ r ∷ []) ≡ r.seq + 1
unfolding next_after
next_after-append n [] r = refl
next_after-append n (x ∷ rows) r = next_after-append (x.seq + 1) rows r

fits_more : (old new : Option (List Row)) (s t : State) (r : Request) → SameRowsTold old new → AddsRows old new (row_of (accepted_count s + 1) r ∷ []) → accepted_count t ≡ accepted_count s + 1 → Fits new t
fits_more None None s t r told adds count = tt
fits_more None (Some ys) s t r told adds count = absurd (cc)
fits_more (Some xs) None s t r told adds count = absurd adds
fits_more (Some xs) (Some ys) s t r told adds count = ap next_seq adds ∙ next_after-append 1 xs (row_of (accepted_count s + 1) r) ∙ ap (λ (n : ℕ). n + 1) (sym count)

one_from : (n : ℕ) (row : Row) → row.seq ≡ n → are_from n (row ∷ []) ≡ true
unfolding are_from
one_from n row same = let e = eq-eqb row.seq n same in rw e refl

-- the next row goes on from those that are kept
pub goes_on : (rows : Option (List Row)) (s : State) (r : Request) (row : Row) → Fits rows s → row ≡ row_of (accepted_count s + 1) r → GoOn rows (row ∷ [])
goes_on None s r row fits is = tt
goes_on (Some rows) s r row fits is = one_from (next_seq rows) row (ap (λ (x : Row). x.seq) is ∙ sym fits)

-- nothing is kept, and the state stays
pub stays : (rows : Option (List Row)) (s : State) (r : Request) (a : Reply) → Fits rows s → step s r ≡ (s, a) → is_new s r ≡ false → Steps rows rows s r s a
unfolding new_rows
stays rows s r a fits is old = record {
  step_is = sym is;
  rows_are = rw old (adds_none rows);
  fits = fits;
}

-- the row is kept, and the state goes on
pub goes : (old new : Option (List Row)) (s t : State) (r : Request) (a : Reply) (row : Row) → SameRowsTold old new → AddsRows old new (row ∷ []) → row ≡ row_of (accepted_count s + 1) r
    → step s r ≡ (t, a) → is_new s r ≡ true → accepted_count t ≡ accepted_count s + 1 → Steps old new s r t a
unfolding new_rows
goes old new s t r a row told adds is next fresh count =
    let added : AddsRows old new (row_of (accepted_count s + 1) r ∷ []) = subst (λ (x : Row). AddsRows old new (x ∷ [])) is adds in
    record {
      step_is = sym next;
      rows_are = rw fresh added;
      fits = fits_more old new s t r told added count;
    }

-- ---- posts
pub post_step : (s : State) (name key : List ℕ) (p : Post) (o : Outcome) → outcome_in s name key p ≡ o → step s (request.Post name key p) ≡ with_outcome s name o
unfolding step
post_step s name key p o is = ap (with_outcome s name) is

post_new : (s : State) (name key : List ℕ) (p : Post) (o : Outcome) → outcome_in s name key p ≡ o → is_new s (request.Post name key p) ≡ accepts o
unfolding is_new
post_new s name key p o is = ap accepts is

pub post_refused : (rows : Option (List Row)) (s : State) (name key : List ℕ) (p : Post) (r : Refusal) → Fits rows s → outcome_in s name key p ≡ Refuses r
    → Steps rows rows s (request.Post name key p) s (reply.Refused r)
post_refused rows s name key p r fits is = stays rows s (request.Post name key p) (reply.Refused r) fits (post_step s name key p (Refuses r) is) (post_new s name key p (Refuses r) is)

pub post_repeated : (rows : Option (List Row)) (s : State) (name key : List ℕ) (p : Post) (n : ℕ) → Fits rows s → outcome_in s name key p ≡ Repeats n
    → Steps rows rows s (request.Post name key p) s (reply.Accepted n)
post_repeated rows s name key p n fits is = stays rows s (request.Post name key p) (reply.Accepted n) fits (post_step s name key p (Repeats n) is) (post_new s name key p (Repeats n) is)

pub post_accepted : (old new : Option (List Row)) (s t : State) (name key : List ℕ) (p : Post) (l : Lists) (n : ℕ) (row : Row)
    → SameRowsTold old new → AddsRows old new (row ∷ []) → row ≡ row_of (accepted_count s + 1) (request.Post name key p)
    → outcome_in s name key p ≡ Accepts l → t ≡ record { today = s.today; shared = s.shared; accounts = with_lists name l s.accounts } → n ≡ length l.posts
    → accepted_count t ≡ accepted_count s + 1 → Steps old new s (request.Post name key p) t (reply.Accepted n)
post_accepted old new s t name key p l n row told adds row_is is state number count =
    let next : step s (request.Post name key p) ≡ (t, reply.Accepted n) =
    post_step s name key p (Accepts l) is ∙ ap (λ (x : State). (x, reply.Accepted (length l.posts))) (sym state) ∙ ap (λ (m : ℕ). (t, reply.Accepted m)) (sym number) in
    goes old new s t (request.Post name key p) (reply.Accepted n) row told adds row_is next (post_new s name key p (Accepts l) is) count

-- an outcome by its verdict
pub refused_by : (o : Outcome) (r : Refusal) → verdict.Refused r ≡ verdict_of o → o ≡ Refuses r
refused_by (Refuses q) r is = let e : r ≡ q = cc in ap Refuses (sym e)
refused_by (Repeats n) r is = absurd (cc)
refused_by (Accepts l) r is = absurd (cc)

pub repeated_by : (o : Outcome) (n : ℕ) → verdict.Repeat n ≡ verdict_of o → o ≡ Repeats n
repeated_by (Refuses q) n is = absurd (cc)
repeated_by (Repeats m) n is = let e : n ≡ m = cc in ap Repeats (sym e)
repeated_by (Accepts l) n is = absurd (cc)

-- ---- shared requests
pub shared_refused : (rows : Option (List Row)) (s : State) (r : Shared) (e : Refusal) → Fits rows s → shared_reason s.today (has_accounts s) r ≡ Some e
    → Steps rows rows s (request.Shared r) s (reply.Refused e)
unfolding step is_new
shared_refused rows s r e fits is = stays rows s (request.Shared r) (reply.Refused e) fits (ap (with_shared s r) is) (ap (λ x. not (is_some x)) is)

pub shared_accepted : (old new : Option (List Row)) (s t : State) (r : Shared) (row : Row)
    → SameRowsTold old new → AddsRows old new (row ∷ []) → row ≡ row_of (accepted_count s + 1) (request.Shared r)
    → shared_reason s.today (has_accounts s) r ≡ None → t ≡ record { today = rolled s.today r; shared = s.shared ++ r ∷ []; accounts = s.accounts }
    → accepted_count t ≡ accepted_count s + 1 → Steps old new s (request.Shared r) t reply.Done
unfolding step is_new
shared_accepted old new s t r row told adds row_is is state count =
    goes old new s t (request.Shared r) reply.Done row told adds row_is (ap (with_shared s r) is ∙ ap (λ (x : State). (x, reply.Done)) (sym state)) (ap (λ x. not (is_some x)) is) count

-- ---- what a request leaves
-- it is answered, and nothing is kept
pub answered : (rows : Option (List Row)) (faults : ℕ) (s : State) (r : Request) (a : Reply) → Steps rows rows s r s a → Carried rows rows faults faults s r s (Ok a)
answered rows faults s r a steps = record {
  ok = steps;
  err = tt;
  rows_stay = tt;
  told = refl;
  counts = record { count = omega arith; unfailed = refl; cause = λ e. absurd (cc); wanted = λ e. absurd (cc) };
}

-- its row was kept
pub kept : (old new : Option (List Row)) (faults later : ℕ) (s t : State) (r : Request) (a : Reply) → SameRowsTold old new → later ≡ faults → Steps old new s r t a → Carried old new faults later s r t (Ok a)
kept old new faults later s t r a told same steps = record {
  ok = steps;
  err = tt;
  rows_stay = tt;
  told = told;
  counts = record { count = omega (arith, same); unfailed = same; cause = λ e. absurd (cc); wanted = λ e. absurd (cc) };
}

-- memory was wanted before anything was kept
keeps_rows : (rows : Option (List Row)) → KeepsRows rows rows
keeps_rows None = tt
keeps_rows (Some rows) = refl

pub out_of_memory : (rows : Option (List Row)) (faults : ℕ) (s new : State) (r : Request) → new ≡ s → Carried rows rows faults faults s r new (Err fault.Memory)
out_of_memory rows faults s new r same = record {
  ok = tt;
  err = same;
  rows_stay = keeps_rows rows;
  told = refl;
  counts = record { count = omega arith; unfailed = tt; cause = λ e. absurd (cc); wanted = λ e. refl };
}

pub wanted_memory : (rows : Option (List Row)) (faults : ℕ) (s new : State) (r : Request) (found : Result Reply Fault) → new ≡ s → IsErr found × IsErrAnd found (λ e. e ≡ fault.Memory) → Carried rows rows faults faults s r new found
wanted_memory rows faults s new r (Ok a) same is = absurd (is.1)
wanted_memory rows faults s new r (Err e) same is = subst (λ (x : Fault). Carried rows rows faults faults s r new (Err x)) (sym is.1) (out_of_memory rows faults s new r same)

-- its row wasn't kept
pub not_kept : (old new : Option (List Row)) (faults later : ℕ) (s : State) (r : Request) (f : Fault) (found : Result Reply Fault)
    → KeepsRows old new → SameRowsTold old new → IsCounted {T = Unit {0}} fault.Keeper fault.Memory faults later (Err f) → IsErr found × IsErrAnd found (λ e. e ≡ f)
    → Carried old new faults later s r s found
not_kept old new faults later s r f (Ok a) stay told counts is = absurd (is.1)
not_kept old new faults later s r f (Err e) stay told counts is = record {
  ok = tt;
  err = refl;
  rows_stay = stay;
  told = told;
  counts = record {
    count = counts.count;
    unfailed = tt;
    cause = λ k. counts.cause (let same : f ≡ fault.Keeper = cc in ap (λ (x : Fault). Err x) same);
    wanted = λ k. counts.wanted (let same : f ≡ fault.Memory = cc in ap (λ (x : Fault). Err x) same);
  };
}
