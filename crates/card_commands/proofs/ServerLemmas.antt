-- Connections that a server attended to, one after the other.
use Rattle.std.proofs.Common.{◌≡◌, inl, inr, ℕ, ◌+◌, ◌-◌, ◌<◌, ◌≤◌, List, [], ◌∷◌, ◌++◌, length, map, take, refl, ap, sym, ◌∙◌, subst, arith, append_assoc, append-nil, length-append, Option, None, Some}
use Rattle.std.proofs.lemmas.List.{map-append, take-append-le, take_all}
use Rattle.std.specs.Io.KnownBytes.{Appends}
use Rattle.std.specs.Option.{option_map}
use Rattle.std.specs.Prelude.{IfSome}
use Rattle.std.proofs.KnownBytes.{Appends-nil, Appends-trans}
use Rattle.card_desk.specs.Kept.{Fits}
use Rattle.card_http.specs.Chains.{AreServed, RoseBy, after_all, all_kept, count_unavailable, unavailable, unavailable_by}
use Rattle.card_http.specs.Exchanges.{Exchange, KeeperCounts, Moment, exchange}
use Rattle.card_http.specs.Exchanges as http
use Rattle.card_http.specs.Outcomes.{KeeperTold, after, rows_kept}
use Rattle.card_http.specs.declared.served.Served.{Served}
use Rattle.card_http.specs.declared.served.Served.TheVariants as served
use Rattle.card_http.specs.declared.status.Status.{Status}
use Rattle.card_http.specs.declared.status.Status.TheVariants as status
use Rattle.card_ports.specs.Rows.{AddsRows, KeepsRows}
use Rattle.card_ports.specs.declared.row.Row.{Row}
use Rattle.card_model.specs.Machine.{State}
use Rattle.card_ports.specs.Counts.{Rose}
use Rattle.card_ports.specs.Visits.{Accepts, Visits, Wire, closing, listening}
use Rattle.card_ports.specs.Written.{SinkSide, TookAll, TookFront, TookPart}
use Rattle.card_ports.specs.declared.source.SinkFault.{SinkFault}
use Rattle.card_ports.specs.declared.source.SinkFault.TheVariants as fault
use Rattle.card_commands.specs.Attended.{AreFresh, Attended, AttendedLast, AttendedOne, Attends, CameNone, DoorSide, FellAttending, HaveCome, HavePassed, KeptCounts, Parties, ServerFailed, Serves, Tended, WroteLines, WroteLinesFront, line_of, lines_of}
use Rattle.card_commands.specs.Statuses.{ended_by_sink}
use Rattle.card_commands.specs.Views.{GaveLedger}
use Rattle.card_commands.specs.Written.{KeeperSide, Sides, TookBetween}
use Rattle.card_commands.specs.declared.ended.Ended.{Ended}
use Rattle.card_commands.specs.declared.ended.Ended.TheVariants as ended
use Rattle.card_commands.proofs.RowLemmas.{AddsRows-nil, AddsRows-trans, kept_then}
use Rattle.card_commands.proofs.SideLemmas.{took_part}

-- ---- lists of connections

lines_append : (xs ys : List Exchange) → lines_of (xs ++ ys) ≡ lines_of xs ++ lines_of ys
lines_append [] ys = refl
lines_append (x ∷ xs) ys = ap (λ l. line_of x.finish ++ l) (lines_append xs ys) ∙ sym (append_assoc (line_of x.finish) (lines_of xs) (lines_of ys))

lines_one : (x : Exchange) → lines_of (x ∷ []) ≡ line_of x.finish
lines_one x = append-nil (line_of x.finish)

after_append : (s : State) (xs ys : List Exchange) → after_all s (xs ++ ys) ≡ after_all (after_all s xs) ys
after_append s [] ys = refl
after_append s (x ∷ xs) ys = after_append (after s x.acted) xs ys

kept_append : (s : State) (xs ys : List Exchange) → all_kept s (xs ++ ys) ≡ all_kept s xs ++ all_kept (after_all s xs) ys
kept_append s [] ys = refl
kept_append s (x ∷ xs) ys = ap (λ l. rows_kept s x.acted ++ l) (kept_append (after s x.acted) xs ys) ∙ sym (append_assoc (rows_kept s x.acted) (all_kept (after s x.acted) xs) (all_kept (after_all (after s x.acted) xs) ys))

served_append : (s : State) (xs ys : List Exchange) → AreServed s xs → AreServed (after_all s xs) ys → AreServed s (xs ++ ys)
served_append s [] ys first second = second
served_append s (x ∷ xs) ys first second = (first.0, served_append (after s x.acted) xs ys first.1 second)

count_append : (xs ys : List Exchange) → count_unavailable (xs ++ ys) ≡ count_unavailable xs + count_unavailable ys
count_append [] ys = omega arith
count_append (x ∷ xs) ys = let more = count_append xs ys in omega (arith, more)

fresh_append : (xs ys : List Exchange) → AreFresh xs → AreFresh ys → AreFresh (xs ++ ys)
fresh_append [] ys first second = second
fresh_append (x ∷ xs) ys first second = (first.0, fresh_append xs ys first.1 second)

-- ---- counts

rose_none : (n : ℕ) → RoseBy 0 n n
rose_none n = inl (omega arith)

rose_then : (m n a b c : ℕ) → a ≤ b → b ≤ c → RoseBy m a b → RoseBy n b c → RoseBy (m + n) a c
rose_then m n a b c low high (inl one) (inl two) = inl (omega (arith, one, two))
rose_then m n a b c low high (inl one) (inr last) = inr last
rose_then m n a b c low high (inr last) two = inr (omega (arith, last, high))

-- an answer of 503 has a fault of its own
rose_one : (e : Served) (old new : ℕ) → KeeperCounts old new e → RoseBy (unavailable e) old new
rose_one (served.Answered s) old new counts = by s counts.told
  where
    by : (s : Status) → KeeperTold old new s → RoseBy (unavailable_by s) old new
    by status.Unavailable (inl more) = inl (omega (arith, more))
    by status.Unavailable (inr last) = inr (omega (arith, last))
    by status.Done told = inl (omega (arith, told))
    by status.BadRequest told = inl (omega (arith, told))
    by status.NotFound told = inl (omega (arith, told))
    by status.BadMethod told = inl (omega (arith, told))
    by status.Conflict told = inl (omega (arith, told))
    by status.TooLarge told = inl (omega (arith, told))
    by status.NoRequest told = inl (omega (arith, told))
    by status.LongHead told = inl (omega (arith, told))
    by status.NoStorage told = inl (omega (arith, told))
rose_one served.Cut old new counts = inl (omega (arith, counts.count))
rose_one served.Memory old new counts = inl (omega (arith, counts.count))

-- ---- connections that were attended to

pub attended_none : (k : KeeperSide) (s : State) → Fits k.rows s → Attended k k s []
attended_none k s fits = record { each = tt; fresh = tt; kept = AddsRows-nil k.rows; fits = fits; count = omega arith; unavailable = rose_none k.faults }

pub attended_then : (a b c : KeeperSide) (s t : State) (xs ys : List Exchange) → t ≡ after_all s xs → Attended a b s xs → Attended b c t ys → Attended a c s (xs ++ ys)
attended_then a b c s t xs ys same one two =
    let next : Attended b c (after_all s xs) ys = subst (λ (q : State). Attended b c q ys) same two in
    record {
      each = served_append s xs ys one.each next.each;
      fresh = fresh_append xs ys one.fresh next.fresh;
      kept = subst (λ (l : List Row). AddsRows a.rows c.rows l) (sym (kept_append s xs ys)) (AddsRows-trans a.rows b.rows c.rows _ _ one.kept next.kept);
      fits = subst (λ (q : State). Fits c.rows q) (sym (after_append s xs ys)) next.fits;
      count = omega (arith, one.count, next.count);
      unavailable = subst (λ (n : ℕ). RoseBy n a.faults c.faults) (sym (count_append xs ys)) (rose_then _ _ a.faults b.faults c.faults one.count next.count one.unavailable next.unavailable);
    }

-- from a keeper whose rows were loaded
attended_from : (a b c : KeeperSide) (s : State) (xs : List Exchange) → KeepsRows a.rows b.rows → b.faults ≡ a.faults → Attended b c s xs → Attended a c s xs
attended_from a b c s xs keeps same at = record {
  each = at.each;
  fresh = at.fresh;
  kept = kept_then a.rows b.rows c.rows _ keeps at.kept;
  fits = at.fits;
  count = subst (λ (n : ℕ). n ≤ c.faults) same at.count;
  unavailable = subst (λ (n : ℕ). RoseBy (count_unavailable xs) n c.faults) same at.unavailable;
}

-- one connection, as it was served
pub attended_one : (old new : Moment) (e : Served) (by : http.Serves old new e) → old.link.faults ≡ 0
    → Attended (record { rows = old.desk.rows; faults = old.desk.faults }) (record { rows = new.desk.rows; faults = new.desk.faults }) old.desk.state (exchange old new by.acted e ∷ [])
attended_one old new e by fresh = record {
  each = (by.ends, tt);
  fresh = (fresh, tt);
  kept = subst (λ (l : List Row). AddsRows old.desk.rows new.desk.rows l) (sym (append-nil _)) by.did.kept;
  fits = subst (λ (q : State). Fits new.desk.rows q) by.did.state_is by.did.fits;
  count = by.counts.count;
  unavailable = subst (λ (n : ℕ). RoseBy n old.desk.faults new.desk.faults) (one_more (unavailable e)) (rose_one e old.desk.faults new.desk.faults by.counts);
}
  where
    one_more : (n : ℕ) → n ≡ n + 0
    one_more n = omega arith

-- ---- the door

passed_none : (v : Option Visits) → HavePassed v v []
passed_none None = refl
passed_none (Some v) = record { left = refl; closed = sym (append-nil v.closed); out = refl; port = refl }

passed_then : (a b c : Option Visits) (xs ys : List Exchange) → HavePassed a b xs → HavePassed b c ys → HavePassed a c (xs ++ ys)
passed_then None None c xs ys one two = two
passed_then None (Some b) c xs ys one two = cc one
passed_then (Some a) None c xs ys one two = absurd one
passed_then (Some a) (Some b) None xs ys one two = absurd two
passed_then (Some a) (Some b) (Some c) xs ys one two = record {
  left = one.left ∙ ap (λ l. map (λ (x : Exchange). x.opened) xs ++ l) two.left ∙ sym (append_assoc (map (λ (x : Exchange). x.opened) xs) (map (λ (x : Exchange). x.opened) ys) c.left)
      ∙ ap (λ l. l ++ c.left) (sym (map-append (λ (x : Exchange). x.opened) xs ys));
  closed = two.closed ∙ ap (λ l. l ++ map (λ (x : Exchange). x.closed) ys) one.closed ∙ append_assoc a.closed (map (λ (x : Exchange). x.closed) xs) (map (λ (x : Exchange). x.closed) ys)
      ∙ ap (λ l. a.closed ++ l) (sym (map-append (λ (x : Exchange). x.closed) xs ys));
  out = two.out ∙ one.out;
  port = two.port ∙ one.port;
}

-- what a door tells is one value
some_is : (v w : Visits) → ◌≡◌ {A = Option Visits} (Some v) (Some w) → v ≡ w
some_is v w is = cc is

-- a connection was accepted, and closed
pub passed_one : (a b c : Option Visits) (x : Exchange) → Accepts a b x.opened → c ≡ option_map (closing x.closed) b → HavePassed a c (x ∷ [])
passed_one None None c x came gone = gone
passed_one None (Some b) c x came gone = cc came
passed_one (Some a) b None x came gone = cc (came.2, gone)
passed_one (Some a) b (Some c) x came gone =
    let after_close : c ≡ closing x.closed (record { left = came.0; closed = a.closed; out = a.out + 1; port = a.port }) = some_is c _ (gone ∙ ap (option_map (closing x.closed)) came.2) in
    let back : a.out + 1 - 1 ≡ a.out = omega arith in
    record {
      left = came.1 ∙ ap (λ (v : Visits). x.opened ∷ v.left) (sym after_close);
      closed = ap (λ (v : Visits). v.closed) after_close;
      out = ap (λ (v : Visits). v.out) after_close ∙ back;
      port = ap (λ (v : Visits). v.port) after_close;
    }

-- one is out while it is served
pub is_out : (a b : Option Visits) (w : Wire) → Accepts a b w → IfSome b (λ v. 0 < v.out)
is_out None None w came = tt
is_out None (Some b) w came = cc came
is_out (Some a) None w came = tt
is_out (Some a) (Some b) w came = let is : b.out ≡ a.out + 1 = ap (λ (v : Visits). v.out) (some_is b _ came.2) in omega (arith, is)

-- ---- a server's lines

-- all lines but the last are a front of those written before it
lines_before : (xs : List Exchange) (x : Exchange) → lines_of (take (length (xs ++ x ∷ []) - 1) (xs ++ x ∷ [])) ≡ lines_of xs
lines_before xs x =
    let n = length (xs ++ x ∷ []) - 1 in
    let long : n ≡ length xs = omega (arith, length-append xs (x ∷ [])) in
    ap lines_of (take-append-le n xs (x ∷ []) (omega (arith, long)) ∙ take_all n xs (omega (arith, long)))

wrote_more : (a b c : SinkSide) (xs : List Exchange) (x : Exchange) → WroteLines a b xs → Appends b.taken c.taken (line_of x.finish) → WroteLines a c (xs ++ x ∷ [])
wrote_more a b c xs x one two =
    subst (Appends a.taken c.taken) (ap (λ l. lines_of xs ++ l) (sym (lines_one x)) ∙ sym (lines_append xs (x ∷ []))) (Appends-trans a.taken b.taken c.taken (lines_of xs) (line_of x.finish) one two)

-- of the last line a front was written
pub wrote_part : (a b c : SinkSide) (xs : List Exchange) (x : Exchange) → WroteLines a b xs → TookFront b.taken c.taken (line_of x.finish) → WroteLinesFront a c (xs ++ x ∷ [])
wrote_part a b c xs x one two =
    let high : lines_of xs ++ line_of x.finish ≡ lines_of (xs ++ x ∷ []) = ap (λ l. lines_of xs ++ l) (sym (lines_one x)) ∙ sym (lines_append xs (x ∷ [])) in
    subst (λ (l : List ℕ). TookBetween a.taken c.taken l (lines_of (xs ++ x ∷ []))) (sym (lines_before xs x))
    (subst (TookBetween a.taken c.taken (lines_of xs)) high (took_part a.taken b.taken c.taken (lines_of xs) (line_of x.finish) one two))

-- ---- a server, connection by connection

-- so many were attended to
pub record HasAttended (old new : Parties) (s t : State) (count : ℕ) : Type 0 where
  pub connections : List Exchange
  pub many : length connections ≡ count
  pub passed : HavePassed old.door.visits new.door.visits connections
  pub attended : Attended old.sides.keeper new.sides.keeper s connections
  pub ledger : t ≡ after_all s connections
  pub written : WroteLines old.sides.sink new.sides.sink connections
  pub counts : KeptCounts old new

pub has_none : (a : Parties) (s : State) → Fits a.sides.keeper.rows s → HasAttended a a s s 0
has_none a s fits = record {
  connections = [];
  many = refl;
  passed = passed_none a.door.visits;
  attended = attended_none a.sides.keeper s fits;
  ledger = refl;
  written = Appends-nil a.sides.sink.taken;
  counts = record { sink = refl; door = refl };
}

pub has_more : (a b c : Parties) (s t u : State) (n : ℕ) → HasAttended a b s t n → AttendedOne b c t u → HasAttended a c s u (n + 1)
has_more a b c s t u n one two =
    let xs = one.connections in
    let x = two.connection in
    record {
      connections = xs ++ x ∷ [];
      many = omega (arith, one.many, length-append xs (x ∷ []));
      passed = passed_then a.door.visits b.door.visits c.door.visits xs (x ∷ []) one.passed two.passed;
      attended = attended_then a.sides.keeper b.sides.keeper c.sides.keeper s t xs (x ∷ []) one.ledger one.attended two.attended;
      ledger = two.ledger ∙ ap (λ (q : State). after_all q (x ∷ [])) one.ledger ∙ sym (after_append s xs (x ∷ []));
      written = wrote_more a.sides.sink b.sides.sink c.sides.sink xs x one.written two.written;
      counts = record { sink = two.counts.sink ∙ one.counts.sink; door = two.counts.door ∙ one.counts.door };
    }

-- all were attended to
pub has_all : (a b : Parties) (s t : State) (n : ℕ) → HasAttended a b s t n → Serves (HavePassed a.door.visits b.door.visits) n s a b ended.Done
has_all a b s t n one =
    record { ends = record { connections = one.connections; came = one.passed; attended = one.attended; stands = (one.many, one.written) }; cause = one.counts }

-- none came any more
fallen_none : (a b c : Parties) (s t u : State) (n count : ℕ) → n < count → HasAttended a b s t n → CameNone b c t u
    → Tended (HavePassed a.door.visits c.door.visits) a.sides.keeper c.sides.keeper s (λ xs. (length xs ≤ count) × WroteLines a.sides.sink c.sides.sink xs)
fallen_none a b c s t u n count low one none = record {
  connections = one.connections;
  came = subst (λ (v : Option Visits). HavePassed a.door.visits v one.connections) (sym none.visits) one.passed;
  attended = subst (λ (x : Sides). Attended a.sides.keeper x.keeper s one.connections) (sym none.sides) one.attended;
  stands = (omega (arith, low, one.many), subst (λ (x : Sides). WroteLines a.sides.sink x.sink one.connections) (sym none.sides) one.written);
}

-- of the line of the last a front was written
fallen_part : (a b c : Parties) (s t : State) (n count : ℕ) → n < count → HasAttended a b s t n → AttendedLast b c t
    → Tended (HavePassed a.door.visits c.door.visits) a.sides.keeper c.sides.keeper s (λ xs. (length xs ≤ count) × WroteLinesFront a.sides.sink c.sides.sink xs)
fallen_part a b c s t n count low one last =
    let xs = one.connections in
    let x = last.connection in
    record {
      connections = xs ++ x ∷ [];
      came = passed_then a.door.visits b.door.visits c.door.visits xs (x ∷ []) one.passed last.passed;
      attended = attended_then a.sides.keeper b.sides.keeper c.sides.keeper s t xs (x ∷ []) one.ledger one.attended last.attended;
      stands = (omega (arith, low, one.many, length-append xs (x ∷ [])), wrote_part a.sides.sink b.sides.sink c.sides.sink xs x one.written last.took);
    }

-- some were, and then the server ended
pub has_fallen : (a b c : Parties) (s t u : State) (n count : ℕ) (e : Ended) → n < count → HasAttended a b s t n → FellAttending b c t u e → Serves (HavePassed a.door.visits c.door.visits) count s a c e
has_fallen a b c s t u n count ended.Door low one fell =
    record { ends = fallen_none a b c s t u n count low one fell.0; cause = subst (λ (k : ℕ). Rose k c.door.faults) one.counts.door fell.1 }
has_fallen a b c s t u n count ended.Sink low one fell =
    record { ends = fallen_part a b c s t n count low one fell.0; cause = subst (λ (k : ℕ). Rose k c.sides.sink.faults) one.counts.sink fell.1 }
has_fallen a b c s t u n count ended.Memory low one fell =
    record { ends = fallen_part a b c s t n count low one fell.0; cause = record { sink = fell.1.sink ∙ one.counts.sink; door = fell.1.door ∙ one.counts.door } }
has_fallen a b c s t u n count ended.Done low one fell = absurd fell
has_fallen a b c s t u n count ended.Refused low one fell = absurd fell
has_fallen a b c s t u n count ended.Usage low one fell = absurd fell
has_fallen a b c s t u n count ended.Source low one fell = absurd fell
has_fallen a b c s t u n count ended.Keeper low one fell = absurd fell
has_fallen a b c s t u n count ended.Damaged low one fell = absurd fell
has_fallen a b c s t u n count ended.Endless low one fell = absurd fell

-- ---- a server that listened, or failed at that

-- other connections that may have come
tended_by : (Came Came_too : List Exchange → Type 0) (a b : KeeperSide) (s : State) (P : List Exchange → Type 0) → ((xs : List Exchange) → Came xs → Came_too xs) → Tended Came a b s P → Tended Came_too a b s P
tended_by Came Came_too a b s P too at = record { connections = at.connections; came = too at.connections at.came; attended = at.attended; stands = at.stands }

serves_by : (Came Came_too : List Exchange → Type 0) (count : ℕ) (s : State) (a b : Parties) (e : Ended) → ((xs : List Exchange) → Came xs → Came_too xs) → Attends Came count s a b e → Attends Came_too count s a b e
serves_by Came Came_too count s a b ended.Done too at = tended_by Came Came_too a.sides.keeper b.sides.keeper s _ too at
serves_by Came Came_too count s a b ended.Door too at = tended_by Came Came_too a.sides.keeper b.sides.keeper s _ too at
serves_by Came Came_too count s a b ended.Sink too at = tended_by Came Came_too a.sides.keeper b.sides.keeper s _ too at
serves_by Came Came_too count s a b ended.Memory too at = tended_by Came Came_too a.sides.keeper b.sides.keeper s _ too at
serves_by Came Came_too count s a b ended.Refused too at = absurd at
serves_by Came Came_too count s a b ended.Usage too at = absurd at
serves_by Came Came_too count s a b ended.Source too at = absurd at
serves_by Came Came_too count s a b ended.Keeper too at = absurd at
serves_by Came Came_too count s a b ended.Damaged too at = absurd at
serves_by Came Came_too count s a b ended.Endless too at = absurd at

-- a server doesn't depend on what the door told before
moved : (Came : List Exchange → Type 0) (count : ℕ) (s : State) (sides : Sides) (v w : Option Visits) (n : ℕ) (b : Parties) (e : Ended)
    → Serves Came count s (record { sides = sides; door = record { visits = v; faults = n } }) b e → Serves Came count s (record { sides = sides; door = record { visits = w; faults = n } }) b e
moved Came count s sides v w n b e by = record { ends = as_it_is e by.ends; cause = failed_as_it_is e by.cause }
  where
    as_it_is : (e : Ended) → Attends Came count s (record { sides = sides; door = record { visits = v; faults = n } }) b e → Attends Came count s (record { sides = sides; door = record { visits = w; faults = n } }) b e
    as_it_is ended.Done at = at
    as_it_is ended.Door at = at
    as_it_is ended.Sink at = at
    as_it_is ended.Memory at = at
    as_it_is ended.Refused at = at
    as_it_is ended.Usage at = at
    as_it_is ended.Source at = at
    as_it_is ended.Keeper at = at
    as_it_is ended.Damaged at = at
    as_it_is ended.Endless at = at

    failed_as_it_is : (e : Ended) → ServerFailed (record { sides = sides; door = record { visits = v; faults = n } }) b e → ServerFailed (record { sides = sides; door = record { visits = w; faults = n } }) b e
    failed_as_it_is ended.Sink failed = failed
    failed_as_it_is ended.Door failed = failed
    failed_as_it_is ended.Done failed = record { sink = failed.sink; door = failed.door }
    failed_as_it_is ended.Memory failed = record { sink = failed.sink; door = failed.door }
    failed_as_it_is ended.Refused failed = record { sink = failed.sink; door = failed.door }
    failed_as_it_is ended.Usage failed = record { sink = failed.sink; door = failed.door }
    failed_as_it_is ended.Source failed = record { sink = failed.sink; door = failed.door }
    failed_as_it_is ended.Keeper failed = record { sink = failed.sink; door = failed.door }
    failed_as_it_is ended.Damaged failed = record { sink = failed.sink; door = failed.door }
    failed_as_it_is ended.Endless failed = record { sink = failed.sink; door = failed.door }

-- it listened, and then connections came
pub listened : (port count : ℕ) (s : State) (a mid b : Parties) (e : Ended) → mid.sides ≡ a.sides → mid.door.visits ≡ option_map (listening port) a.door.visits → mid.door.faults ≡ a.door.faults
    → Serves (HavePassed mid.door.visits b.door.visits) count s mid b e → Serves (HaveCome port a.door.visits b.door.visits) count s a b e
listened port count s a mid b e sides visits faults by =
    let Came = HavePassed mid.door.visits b.door.visits in
    let too : (xs : List Exchange) → Came xs → HaveCome port a.door.visits b.door.visits xs = λ xs came. inl (subst (λ (v : Option Visits). HavePassed v b.door.visits xs) visits came) in
    let here : Serves (HaveCome port a.door.visits b.door.visits) count s mid b e = record { ends = serves_by Came (HaveCome port a.door.visits b.door.visits) count s mid b e too by.ends; cause = by.cause } in
    let same : Serves (HaveCome port a.door.visits b.door.visits) count s (record { sides = a.sides; door = mid.door }) b e = subst (λ (x : Sides). Serves (HaveCome port a.door.visits b.door.visits) count s (record { sides = x; door = mid.door }) b e) sides here in
    let counted : Serves (HaveCome port a.door.visits b.door.visits) count s (record { sides = a.sides; door = record { visits = mid.door.visits; faults = a.door.faults } }) b e =
    subst (λ (n : ℕ). Serves (HaveCome port a.door.visits b.door.visits) count s (record { sides = a.sides; door = record { visits = mid.door.visits; faults = n } }) b e) faults same in
    moved (HaveCome port a.door.visits b.door.visits) count s a.sides mid.door.visits a.door.visits a.door.faults b e counted

-- it failed at that
pub listened_not : (port count : ℕ) (s : State) (a b : Parties) → Fits a.sides.keeper.rows s → b.sides ≡ a.sides → b.door.visits ≡ a.door.visits → Rose a.door.faults b.door.faults → Serves (HaveCome port a.door.visits b.door.visits) count s a b ended.Door
listened_not port count s a b fits sides visits rose = record {
  ends = record {
    connections = [];
    came = inr (visits, refl);
    attended = subst (λ (x : Sides). Attended a.sides.keeper x.keeper s []) (sym sides) (attended_none a.sides.keeper s fits);
    stands = (omega arith, subst (λ (x : Sides). WroteLines a.sides.sink x.sink []) (sym sides) (Appends-nil a.sides.sink.taken));
  };
  cause = rose;
}

-- memory was wanted before it listened
pub unmade : (port count : ℕ) (s : State) (a : Parties) → Fits a.sides.keeper.rows s → Serves (HaveCome port a.door.visits a.door.visits) count s a a ended.Memory
unmade port count s a fits = record {
  ends = record {
    connections = [];
    came = inr (refl, refl);
    attended = attended_none a.sides.keeper s fits;
    stands = (omega arith, record { bytes = []; taken = Appends-nil a.sides.sink.taken; whole = ([], refl); front = ([], refl) });
  };
  cause = record { sink = refl; door = refl };
}

-- ---- a server from the ledger that the kept rows gave

served_from : (Came : List Exchange → Type 0) (count : ℕ) (s : State) (a b c : KeeperSide) (x y : SinkSide) (d f : DoorSide) (e : Ended) → KeepsRows a.rows b.rows → b.faults ≡ a.faults
    → Attends Came count s (record { sides = record { sink = x; keeper = b }; door = d }) (record { sides = record { sink = y; keeper = c }; door = f }) e
    → Attends Came count s (record { sides = record { sink = x; keeper = a }; door = d }) (record { sides = record { sink = y; keeper = c }; door = f }) e
served_from Came count s a b c x y d f ended.Done keeps same at = record { connections = at.connections; came = at.came; attended = attended_from a b c s at.connections keeps same at.attended; stands = at.stands }
served_from Came count s a b c x y d f ended.Door keeps same at = record { connections = at.connections; came = at.came; attended = attended_from a b c s at.connections keeps same at.attended; stands = at.stands }
served_from Came count s a b c x y d f ended.Sink keeps same at = record { connections = at.connections; came = at.came; attended = attended_from a b c s at.connections keeps same at.attended; stands = at.stands }
served_from Came count s a b c x y d f ended.Memory keeps same at = record { connections = at.connections; came = at.came; attended = attended_from a b c s at.connections keeps same at.attended; stands = at.stands }
served_from Came count s a b c x y d f ended.Refused keeps same at = absurd at
served_from Came count s a b c x y d f ended.Usage keeps same at = absurd at
served_from Came count s a b c x y d f ended.Source keeps same at = absurd at
served_from Came count s a b c x y d f ended.Keeper keeps same at = absurd at
served_from Came count s a b c x y d f ended.Damaged keeps same at = absurd at
served_from Came count s a b c x y d f ended.Endless keeps same at = absurd at

-- what failed of a server doesn't depend on its keeper
failed_from : (a b c : KeeperSide) (x y : SinkSide) (d f : DoorSide) (e : Ended) → ServerFailed (record { sides = record { sink = x; keeper = b }; door = d }) (record { sides = record { sink = y; keeper = c }; door = f }) e
    → ServerFailed (record { sides = record { sink = x; keeper = a }; door = d }) (record { sides = record { sink = y; keeper = c }; door = f }) e
failed_from a b c x y d f ended.Sink failed = failed
failed_from a b c x y d f ended.Door failed = failed
failed_from a b c x y d f ended.Done failed = record { sink = failed.sink; door = failed.door }
failed_from a b c x y d f ended.Refused failed = record { sink = failed.sink; door = failed.door }
failed_from a b c x y d f ended.Usage failed = record { sink = failed.sink; door = failed.door }
failed_from a b c x y d f ended.Source failed = record { sink = failed.sink; door = failed.door }
failed_from a b c x y d f ended.Keeper failed = record { sink = failed.sink; door = failed.door }
failed_from a b c x y d f ended.Memory failed = record { sink = failed.sink; door = failed.door }
failed_from a b c x y d f ended.Damaged failed = record { sink = failed.sink; door = failed.door }
failed_from a b c x y d f ended.Endless failed = record { sink = failed.sink; door = failed.door }

pub loaded_server : (Came : List Exchange → Type 0) (count : ℕ) (s : State) (a b c : Sides) (d f : DoorSide) (e : Ended) → GaveLedger a b s
    → Serves Came count s (record { sides = b; door = d }) (record { sides = c; door = f }) e → Serves Came count s (record { sides = a; door = d }) (record { sides = c; door = f }) e
loaded_server Came count s a b c d f e gave by =
    let same : Serves Came count s (record { sides = record { sink = a.sink; keeper = b.keeper }; door = d }) (record { sides = c; door = f }) e =
    subst (λ (x : SinkSide). Serves Came count s (record { sides = record { sink = x; keeper = b.keeper }; door = d }) (record { sides = c; door = f }) e) gave.sink by in
    record {
      ends = served_from Came count s a.keeper b.keeper c.keeper a.sink c.sink d f e gave.rows gave.count same.ends;
      cause = failed_from a.keeper b.keeper c.keeper a.sink c.sink d f e same.cause;
    }

-- ---- one connection

-- none came, and nothing was done
pub came_none : (a b : Parties) (s : State) → b.sides ≡ a.sides → b.door.visits ≡ a.door.visits → CameNone a b s s
came_none a b s sides visits = record { sides = sides; visits = visits; ledger = refl }

-- a sink, a keeper and a door, before and after a connection was served and closed
abbrev before : Moment → SinkSide → DoorSide → Parties
before m sink door = record { sides = record { sink = sink; keeper = record { rows = m.desk.rows; faults = m.desk.faults } }; door = door }

-- it came, was served and was closed, and its line was written
pub attended_told : (old new : Moment) (e : Served) (by : http.Serves old new e) (x y : SinkSide) (u v w : Option Visits) (m n : ℕ) (line : List ℕ) → old.link.faults ≡ 0 → Accepts u v old.link → w ≡ option_map (closing new.link) v → n ≡ m → line ≡ line_of e → TookAll x y line
    → AttendedOne (before old x (record { visits = u; faults = m })) (before new y (record { visits = w; faults = n })) old.desk.state new.desk.state
attended_told old new e by x y u v w m n line fresh came gone same line_is took = record {
  connection = exchange old new by.acted e;
  passed = passed_one u v w (exchange old new by.acted e) came gone;
  attended = attended_one old new e by fresh;
  ledger = by.did.state_is;
  written = subst (Appends x.taken y.taken) line_is took.written;
  counts = record { sink = took.count; door = same };
}

-- the same, where a front of its line was written
pub attended_last : (old new : Moment) (e : Served) (by : http.Serves old new e) (f : SinkFault) (x y : SinkSide) (u v w : Option Visits) (m n : ℕ) (line : List ℕ) (end : Ended) → old.link.faults ≡ 0 → Accepts u v old.link → w ≡ option_map (closing new.link) v → n ≡ m
    → line ≡ line_of e → TookPart x y line f → end ≡ ended_by_sink f → FellAttending (before old x (record { visits = u; faults = m })) (before new y (record { visits = w; faults = n })) old.desk.state new.desk.state end
attended_last old new e by f x y u v w m n line end fresh came gone same line_is part is =
    subst (λ (z : Ended). FellAttending (before old x (record { visits = u; faults = m })) (before new y (record { visits = w; faults = n })) old.desk.state new.desk.state z) (sym is) (by_fault f (subst (λ (t : List ℕ). TookPart x y t f) line_is part))
  where
    last : AttendedLast (before old x (record { visits = u; faults = m })) (before new y (record { visits = w; faults = n })) old.desk.state
    last = record { connection = exchange old new by.acted e; passed = passed_one u v w (exchange old new by.acted e) came gone; attended = attended_one old new e by fresh; took = subst (TookFront x.taken y.taken) line_is part.took }

    by_fault : (f : SinkFault) → TookPart x y (line_of e) f → FellAttending (before old x (record { visits = u; faults = m })) (before new y (record { visits = w; faults = n })) old.desk.state new.desk.state (ended_by_sink f)
    by_fault fault.Failed p = (last, p.cause)
    by_fault fault.Memory p = (last, record { sink = p.cause; door = same })
