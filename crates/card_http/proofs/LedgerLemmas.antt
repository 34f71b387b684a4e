-- What a request comes to, and what the ledger did for it.
use Rattle.std.proofs.Common.{◌≡◌, ◌⊎◌, inl, inr, ℕ, ◌≤◌, List, [], refl, ap, sym, ◌∙◌, subst, arith, append-nil, Option, None, Some}
use Rattle.std.specs.Prelude.{string_bytes}
use Rattle.card_desk.specs.Applied.{Steps}
use Rattle.card_desk.specs.Kept.{Fits}
use Rattle.card_events.specs.declared.reply.Reply.{Reply}
use Rattle.card_events.specs.declared.reply.Reply.TheVariants as reply
use Rattle.card_events.specs.declared.request.Request.{Request}
use Rattle.card_wire.specs.Bodies.{FailsBody, Says, request, bad}
use Rattle.card_wire.specs.declared.json_body.BodyFault.{BodyFault}
use Rattle.card_wire.specs.declared.json_body.BodyFault.TheVariants as body_fault
use Rattle.card_ports.specs.Rows.{AddsRows, KeepsRows, SameRowsTold}
use Rattle.card_ports.specs.declared.row.Row.{Row}
use Rattle.card_model.specs.Machine.{State, step}
use Rattle.card_ports.specs.Counts.{Rose}
use Rattle.card_wire.specs.declared.route.Route.{Route}
use Rattle.card_wire.specs.declared.route.Route.TheVariants as route
use Rattle.card_http.specs.Answers.{reply_json, reply_status}
use Rattle.card_http.specs.Outcomes.{Acted, Answer, Comes, IsFaultOf, IsLookedUp, IsPosted, IsRouted, KeeperCount, KeeperTold, Ledger, asked, bad_request, keeper_failed, looked_up, memory_wanted, outcome_body, outcome_status, posted, told_asked, unread}
use Rattle.card_http.specs.declared.outcome.Outcome.{Outcome}
use Rattle.card_http.specs.declared.outcome.Outcome.TheVariants as outcome
use Rattle.card_http.specs.declared.status.Status.{Status}
use Rattle.card_http.specs.declared.status.Status.TheVariants as status

-- ---- nothing was done

rows_same : (a : Option (List Row)) → AddsRows a a []
rows_same None = tt
rows_same (Some xs) = sym (append-nil xs)

pub acted_none : (l : Ledger) → Fits l.rows l.state → Acted l l None
acted_none l fits = record { state_is = refl; kept = rows_same l.rows; fits = fits }

-- rows that stay grew by nothing
rows_stay : (a b : Option (List Row)) → KeepsRows a b → AddsRows a b []
rows_stay None b keeps = tt
rows_stay (Some xs) None keeps = absurd keeps
rows_stay (Some xs) (Some ys) keeps = keeps ∙ sym (append-nil xs)

-- and the next one still goes on from the ledger
fits_stay : (a b : Option (List Row)) (s : State) → SameRowsTold a b → KeepsRows a b → Fits a s → Fits b s
fits_stay None None s told keeps fits = tt
fits_stay None (Some ys) s told keeps fits = cc told
fits_stay (Some xs) None s told keeps fits = absurd keeps
fits_stay (Some xs) (Some ys) s told keeps fits = subst (λ (rows : List Row). Fits (Some rows) s) (sym keeps) fits

pub acted_stays : (old new : Ledger) → new.state ≡ old.state → SameRowsTold old.rows new.rows → KeepsRows old.rows new.rows → Fits old.rows old.state → Acted old new None
acted_stays old new same told keeps fits =
    record { state_is = same; kept = rows_stay old.rows new.rows keeps; fits = subst (λ (s : State). Fits new.rows s) (sym same) (fits_stay old.rows new.rows old.state told keeps fits) }

pub count_same : (n : ℕ) (s : Status) → KeeperTold n n s → KeeperCount n n s
count_same n s told = record { count = omega arith; told = told }

-- ---- a lookup

-- what a route asks is looked up
looked : (s : State) (r : Route) (body : List ℕ) (l : Ledger) (o : Outcome) → IsRouted s r body (looked_up (told_asked s (asked r))) → Fits l.rows l.state → IsLookedUp (told_asked s (asked r)) o
    → Comes (λ a. IsRouted s r body a ⊎ IsFaultOf r a) l l o
unfolding outcome_status outcome_body
looked s r body l (outcome.Told text) here fits is = record {
  answer = looked_up (told_asked s (asked r));
  stands = inl here;
  status_is = ap (λ (t : Option (List ℕ)). (looked_up t).status) (sym is);
  body_is = ap (λ (t : Option (List ℕ)). (looked_up t).body) (sym is);
  did = subst (λ (t : Option (List ℕ)). Acted l l (looked_up t).acted) (sym is) (acted_none l fits);
  counts = subst (λ (t : Option (List ℕ)). KeeperCount l.faults l.faults (looked_up t).status) (sym is) (count_same l.faults status.Done refl);
}
looked s r body l outcome.Missing here fits is = record {
  answer = looked_up (told_asked s (asked r));
  stands = inl here;
  status_is = ap (λ (t : Option (List ℕ)). (looked_up t).status) (sym is);
  body_is = ap (λ (t : Option (List ℕ)). (looked_up t).body) (sym is);
  did = subst (λ (t : Option (List ℕ)). Acted l l (looked_up t).acted) (sym is) (acted_none l fits);
  counts = subst (λ (t : Option (List ℕ)). KeeperCount l.faults l.faults (looked_up t).status) (sym is) (count_same l.faults status.NotFound refl);
}
looked s r body l outcome.MemoryWanted here fits is =
    record { answer = memory_wanted; stands = inr (inl refl); status_is = refl; body_is = refl; did = acted_none l fits; counts = count_same l.faults status.NoStorage refl }
looked s r body l (outcome.Replied a) here fits is = absurd is
looked s r body l outcome.NoJson here fits is = absurd is
looked s r body l (outcome.NoRequest name) here fits is = absurd is
looked s r body l outcome.KeeperFailed here fits is = absurd is

-- the same of a route that is this one
looked_at : (s : State) (r q : Route) (body : List ℕ) (l : Ledger) (o : Outcome) → r ≡ q → IsRouted s q body (looked_up (told_asked s (asked q))) → Fits l.rows l.state → IsLookedUp (told_asked s (asked r)) o
    → Comes (λ a. IsRouted s r body a ⊎ IsFaultOf r a) l l o
looked_at s r q body l o same here fits is =
    looked s r body l o (subst (λ (x : Route). IsRouted s x body (looked_up (told_asked s (asked x)))) (sym same) here) fits is

-- and where the ledger stays
pub looked_after : (s : State) (r q : Route) (body : List ℕ) (l m : Ledger) (o : Outcome) → r ≡ q → IsRouted s q body (looked_up (told_asked s (asked q))) → Fits l.rows l.state → m ≡ l → IsLookedUp (told_asked s (asked r)) o
    → Comes (λ a. IsRouted s r body a ⊎ IsFaultOf r a) l m o
looked_after s r q body l m o same here fits stays is =
    subst (λ (x : Ledger). Comes (λ a. IsRouted s r body a ⊎ IsFaultOf r a) l x o) (sym stays) (looked_at s r q body l o same here fits is)

-- the same route
pub at_route : (s : State) (r q : Route) (body : List ℕ) (old new : Ledger) (o : Outcome) → r ≡ q → Comes (λ a. IsRouted s q body a ⊎ IsFaultOf q a) old new o → Comes (λ a. IsRouted s r body a ⊎ IsFaultOf r a) old new o
at_route s r q body old new o same comes = subst (λ (x : Route). Comes (λ a. IsRouted s x body a ⊎ IsFaultOf x a) old new o) (sym same) comes

-- the same body
pub with_body : (s : State) (r : Route) (body given : List ℕ) (old new : Ledger) (o : Outcome) → given ≡ body
    → Comes (λ a. IsRouted s r given a ⊎ IsFaultOf r a) old new o → Comes (λ a. IsRouted s r body a ⊎ IsFaultOf r a) old new o
with_body s r body given old new o bodies comes = subst (λ (b : List ℕ). Comes (λ a. IsRouted s r b a ⊎ IsFaultOf r a) old new o) bodies comes

-- ---- a request

-- no reply says that the keeper failed
not_unavailable : (n : ℕ) (a : Reply) → KeeperTold n n (reply_status a)
not_unavailable n reply.Done = refl
not_unavailable n (reply.Accepted k) = refl
not_unavailable n (reply.Refused e) = refl

-- the machine's reply is told
pub replied : (old new : Ledger) (r : Request) (answer : Reply) → Steps old.rows new.rows old.state r new.state answer → new.faults ≡ old.faults
    → Comes (λ a. (a ≡ posted old.state (request r)) ⊎ IsFaultOf route.Posts a) old new (outcome.Replied answer)
unfolding outcome_status outcome_body
replied old new r answer stepped same =
    let reply_is : answer ≡ (step old.state r).1 = ap (λ (p : State × Reply). p.1) stepped.step_is in
    record {
      answer = posted old.state (request r);
      stands = inl refl;
      status_is = ap reply_status reply_is;
      body_is = ap reply_json reply_is;
      did = record { state_is = ap (λ (p : State × Reply). p.0) stepped.step_is; kept = stepped.rows_are; fits = stepped.fits };
      counts = subst (λ (n : ℕ). KeeperCount old.faults n (reply_status (step old.state r).1)) (sym same) (count_same old.faults (reply_status (step old.state r).1) (not_unavailable old.faults (step old.state r).1));
    }

-- the keeper failed
pub failed : (old new : Ledger) (r : Request) → Acted old new None → old.faults ≤ new.faults → Rose old.faults new.faults → Comes (λ a. (a ≡ posted old.state (request r)) ⊎ IsFaultOf route.Posts a) old new outcome.KeeperFailed
unfolding outcome_status outcome_body
failed old new r did low rose = record { answer = keeper_failed; stands = inr (inr (refl, refl)); status_is = refl; body_is = refl; did = did; counts = record { count = low; told = rose } }

-- memory was wanted
pub wanted_memory : (Is : Answer → Type 0) (old new : Ledger) → Is memory_wanted → Acted old new None → new.faults ≡ old.faults → Comes Is old new outcome.MemoryWanted
unfolding outcome_status outcome_body
wanted_memory Is old new is did same =
    record { answer = memory_wanted; stands = is; status_is = refl; body_is = refl; did = did; counts = subst (λ (n : ℕ). KeeperCount old.faults n status.NoStorage) (sym same) (count_same old.faults status.NoStorage refl) }

-- the request that a body says is carried out
pub said_request : (s : State) (body : List ℕ) (r : Request) (old new : Ledger) (o : Outcome) → Says body (request r) → Comes (λ a. (a ≡ posted s (request r)) ⊎ IsFaultOf route.Posts a) old new o
    → Comes (λ a. IsPosted s body a ⊎ IsFaultOf route.Posts a) old new o
said_request s body r old new o says comes = record { answer = comes.answer; stands = by comes.stands; status_is = comes.status_is; body_is = comes.body_is; did = comes.did; counts = comes.counts }
  where
    by : (comes.answer ≡ posted s (request r)) ⊎ IsFaultOf route.Posts comes.answer → IsPosted s body comes.answer ⊎ IsFaultOf route.Posts comes.answer
    by (inl is) = inl (inr (request r, says, is))
    by (inr fault) = inr fault

-- a body that gives no request
pub said_none : (s : State) (body : List ℕ) (why : BodyFault) (l : Ledger) → FailsBody body why → Fits l.rows l.state → Comes (λ a. IsPosted s body a ⊎ IsFaultOf route.Posts a) l l (unread why)
unfolding outcome_status outcome_body
said_none s body body_fault.NotJson l fails fits =
    record { answer = bad_request; stands = inl (inl (fails, refl)); status_is = refl; body_is = refl; did = acted_none l fits; counts = count_same l.faults status.BadRequest refl }
said_none s body (body_fault.Member name) l fails fits = record {
  answer = posted s (bad (string_bytes name));
  stands = inl (inr (bad (string_bytes name), fails, refl));
  status_is = refl;
  body_is = refl;
  did = acted_none l fits;
  counts = count_same l.faults status.NoRequest refl;
}
said_none s body body_fault.Memory l fails fits = wanted_memory (λ a. IsPosted s body a ⊎ IsFaultOf route.Posts a) l l (inr (inl refl)) (acted_none l fits) refl
