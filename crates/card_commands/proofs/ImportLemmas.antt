-- A run over the records of an input.
use Rattle.std.proofs.Common.{◌≡◌, ℕ, ◌+◌, ◌||◌, ◌⊎◌, inl, inr, List, [], ◌∷◌, ◌++◌, slice_get, drop, refl, ap, sym, ◌∙◌, subst, arith, append_assoc, append-nil, Option, None, Some}
use Rattle.std.proofs.KnownBytes.{Appends-nil, Consumes-trans}
use Rattle.card_desk.specs.Kept.{Fits}
use Rattle.card_text.specs.Import.{items_of_bytes}
use Rattle.card_text.specs.declared.item.Item.{Item}
use Rattle.card_model.specs.Machine.{State}
use Rattle.card_ports.specs.Rows.{AddsRows}
use Rattle.card_ports.specs.declared.row.Row.{Row}
use Rattle.card_ports.specs.Bytes.{IsFront}
use Rattle.card_ports.specs.Counts.{Rose}
use Rattle.card_commands.specs.Answers.{next, answer_text, is_refused, item_rows}
use Rattle.card_commands.specs.Statuses.{ended_by}
use Rattle.card_commands.specs.Feed.{Run}
use Rattle.card_commands.specs.Imported.{SourceSide, source_of, HasTaken, TookAllLeft, FellInPiece, FellTaking, HandledAll, DidFront, FellAmong}
use Rattle.card_commands.specs.Input.{records}
use Rattle.card_commands.specs.Outside.{Outside, AreFirst, Runs, HasCause, sides_of}
use Rattle.card_commands.specs.Ran.{Handled}
use Rattle.card_commands.specs.Run.{after, text_of, rows_kept, any_refused}
use Rattle.card_commands.specs.Written.{Sides, Did, DidPart, SameCounts, FellIn}
use Rattle.card_commands.specs.declared.stop.Stop.{Stop}
use Rattle.card_commands.specs.declared.stop.Stop.TheVariants as stop
use Rattle.card_commands.specs.declared.ended.Ended.{Ended}
use Rattle.card_commands.proofs.ApplyLemmas.{after-append, text_of-append, rows_kept-append, any_refused-append, or_assoc, or_false, OneMore, low_front, none_more}
use Rattle.card_commands.proofs.FeedLemmas.{cause_of}
use Rattle.card_commands.proofs.RowLemmas.{AddsRows-trans}
use Rattle.card_commands.proofs.SideLemmas.{front_trans, took_whole, took_part, did_none, did_then, did_same, counts_refl, counts_then, failed_after}

-- ---- reading

-- bytes were read before, and then no more came
pub fell_later : (a b c : SourceSide) (before : List ℕ) (e : Stop) → HasTaken a b before → FellInPiece b c e → FellTaking a c e
fell_later a b c before stop.Source one two =
    record { bytes = before ++ two.bytes; read = Consumes-trans a.left b.left c.left before two.bytes one.read two.read; cause = subst (λ (n : ℕ). Rose n c.faults) one.count two.cause }
fell_later a b c before stop.Memory one two = record { bytes = before ++ two.bytes; read = Consumes-trans a.left b.left c.left before two.bytes one.read two.read; cause = two.cause ∙ one.count }
fell_later a b c before stop.Sink one two = absurd two.cause
fell_later a b c before stop.Keeper one two = absurd two.cause
fell_later a b c before stop.Endless one two = absurd two.cause

-- ---- handling

pub handled_none : (a : Sides) (r : Run) → Fits a.keeper.rows r.ledger → HandledAll a a r [] r
handled_none a r fits = record { ledger = refl; refused = sym (or_false r.refused); did = did_none a; counts = counts_refl a; fits = fits }

text_one : (s : State) (done : List Item) (x : Item) → text_of s (done ++ x ∷ []) ≡ text_of s done ++ answer_text (after s done) x
text_one s done x = text_of-append s done (x ∷ []) ∙ ap (λ t. text_of s done ++ t) (append-nil (answer_text (after s done) x))

rows_one : (s : State) (done : List Item) (x : Item) → rows_kept s (done ++ x ∷ []) ≡ rows_kept s done ++ item_rows (after s done) x
rows_one s done x = rows_kept-append s done (x ∷ []) ∙ ap (λ t. rows_kept s done ++ t) (append-nil (item_rows (after s done) x))

-- an item more
pub handled_more : (a b c : Sides) (p q r : Run) (done : List Item) (x : Item) → HandledAll a b p done q → Handled b c q x r → HandledAll a c p (done ++ x ∷ []) r
handled_more a b c p q r done x one two =
    let s = p.ledger in
    let last = is_refused (after s done) x in
    record {
      ledger = ap (λ (n : Run). n.ledger) two.run ∙ ap (λ t. next t x) one.ledger ∙ sym (after-append s done (x ∷ []));
      refused = ap (λ (n : Run). n.refused) two.run ∙ ap (λ b. b || is_refused q.ledger x) one.refused ∙ ap (λ t. (p.refused || any_refused s done) || is_refused t x) one.ledger
          ∙ or_assoc p.refused (any_refused s done) last ∙ ap (λ b. p.refused || b) (ap (λ b. any_refused s done || b) (sym (or_false last)) ∙ sym (any_refused-append s done (x ∷ [])));
      did = did_same a c _ (text_of s (done ++ x ∷ [])) _ (rows_kept s (done ++ x ∷ []))
          (ap (λ t. text_of s done ++ answer_text t x) one.ledger ∙ sym (text_one s done x))
          (ap (λ t. rows_kept s done ++ item_rows t x) one.ledger ∙ sym (rows_one s done x))
          (did_then a b c _ _ _ _ one.did two.did);
      counts = counts_then a b c one.counts two.counts;
      fits = two.fits;
    }

-- an item is the first of those left
pub left_more : (all done left : List Item) (x : Item) → all ≡ done ++ left → Some x ≡ slice_get left 0 → all ≡ (done ++ x ∷ []) ++ drop 1 left
left_more all done [] x parts first = cc first
left_more all done (y ∷ left) x parts first =
    let same : x ≡ y = cc first in
    subst (λ (z : Item). all ≡ (done ++ z ∷ []) ++ left) (sym same) (parts ∙ sym (append_assoc done (y ∷ []) left))

-- no item is left
pub none_left : (all done left : List Item) → all ≡ done ++ left → ◌≡◌ {A = Option Item} None (slice_get left 0) → done ≡ all
none_left all done [] parts none = sym (parts ∙ append-nil done)
none_left all done (y ∷ left) parts none = cc none

-- all texts were written whole
front_whole : (a b : Sides) (s : State) (done : List Item) → Did a b (text_of s done) (rows_kept s done) → DidFront a b s done
front_whole a b s done did = record { took = took_whole a.sink.taken b.sink.taken b.sink.taken _ _ did.written (Appends-nil b.sink.taken) (low_front s done done (none_more done)); kept = did.kept }

-- memory was wanted between two items
pub fell_between : (a b : Sides) (p q : Run) (all done left : List Item) → all ≡ done ++ left → HandledAll a b p done q → FellAmong a b p.ledger all stop.Memory
fell_between a b p q all done left parts handled = record { items = done; first = (left, parts); did = front_whole a b p.ledger done handled.did; cause = handled.counts }

-- memory was wanted before any
pub fell_before : (a : Sides) (s : State) (all : List Item) → FellAmong a a s all stop.Memory
fell_before a s all = record { items = []; first = (all, refl); did = front_whole a a s [] (did_none a); cause = counts_refl a }

-- nothing was done of the item that ended the run
did_nothing : (a b c : Sides) (p q : Run) (done : List Item) → HandledAll a b p done q → Did b c [] [] → Did a c (text_of p.ledger done) (rows_kept p.ledger done)
did_nothing a b c p q done one none = did_same a c _ (text_of p.ledger done) _ (rows_kept p.ledger done) (append-nil (text_of p.ledger done)) (append-nil (rows_kept p.ledger done)) (did_then a b c _ [] _ [] one.did none)

-- its row was kept, and a front of its text was written
did_part : (a b c : Sides) (p q : Run) (done : List Item) (x : Item) → HandledAll a b p done q → DidPart b c (answer_text q.ledger x) (item_rows q.ledger x) → DidFront a c p.ledger (done ++ x ∷ [])
did_part a b c p q done x one part =
    let s = p.ledger in
    let took = took_part a.sink.taken b.sink.taken c.sink.taken (text_of s done) (answer_text q.ledger x) one.did.written part.took in
    let high : text_of s done ++ answer_text q.ledger x ≡ text_of s (done ++ x ∷ []) = ap (λ t. text_of s done ++ answer_text t x) one.ledger ∙ sym (text_one s done x) in
    let more : OneMore done (done ++ x ∷ []) = record { more = x ∷ []; parts = refl; one = omega arith } in
    record {
      took = record {
        bytes = took.bytes;
        taken = took.taken;
        whole = front_trans _ (text_of s done) took.bytes (low_front s done (done ++ x ∷ []) more) took.whole;
        front = subst (λ (l : List ℕ). IsFront took.bytes l) high took.front;
      };
      kept = subst (λ (l : List Row). AddsRows a.keeper.rows c.keeper.rows l) (ap (λ t. rows_kept s done ++ item_rows t x) one.ledger ∙ sym (rows_one s done x))
          (AddsRows-trans a.keeper.rows b.keeper.rows c.keeper.rows _ _ one.did.kept part.kept);
    }

fell_some : (a b c : Sides) (p q : Run) (all done left : List Item) (x : Item) (e : Stop) → all ≡ done ++ left → Some x ≡ slice_get left 0 → HandledAll a b p done q
    → Did b c [] [] ⊎ DidPart b c (answer_text q.ledger x) (item_rows q.ledger x) → (items : List Item) × AreFirst items all × DidFront a c p.ledger items
fell_some a b c p q all done left x e parts first one (inl none) = (done, (left, parts), front_whole a c p.ledger done (did_nothing a b c p q done one none))
fell_some a b c p q all done left x e parts first one (inr part) = (done ++ x ∷ [], (drop 1 left, left_more all done left x parts first), did_part a b c p q done x one part)

-- an item ended the run
pub fell_item : (a b c : Sides) (p q : Run) (all done left : List Item) (x : Item) (e : Stop) → all ≡ done ++ left → Some x ≡ slice_get left 0 → HandledAll a b p done q → FellIn b c (answer_text q.ledger x) (item_rows q.ledger x) e
    → FellAmong a c p.ledger all e
fell_item a b c p q all done left x stop.Source parts first one fell = absurd fell.cause
fell_item a b c p q all done left x stop.Sink parts first one fell =
    let some = fell_some a b c p q all done left x stop.Sink parts first one fell.did in
    record { items = some.0; first = some.1; did = some.2; cause = failed_after a b c stop.Sink one.counts fell.cause }
fell_item a b c p q all done left x stop.Keeper parts first one fell =
    record { items = done; first = (left, parts); did = did_nothing a b c p q done one fell.did; cause = failed_after a b c stop.Keeper one.counts fell.cause }
fell_item a b c p q all done left x stop.Memory parts first one fell =
    let some = fell_some a b c p q all done left x stop.Memory parts first one fell.did in
    record { items = some.0; first = some.1; did = some.2; cause = failed_after a b c stop.Memory one.counts fell.cause }
fell_item a b c p q all done left x stop.Endless parts first one fell = absurd fell.cause

-- ---- the whole run

-- nothing was written, and nothing kept
wrote_none : {I K : Type 0} (old new : Outside I K) (s : State) → sides_of new ≡ sides_of old → Did (sides_of old) (sides_of new) [] []
wrote_none old new s same = subst (λ (x : Sides). Did (sides_of old) x [] []) (sym same) (did_none (sides_of old))

same_counts : {I K : Type 0} (old new : Outside I K) → sides_of new ≡ sides_of old → SameCounts (sides_of old) (sides_of new)
same_counts old new same = subst (λ (x : Sides). SameCounts (sides_of old) x) (sym same) (counts_refl (sides_of old))

unread_run : {I K : Type 0} (old new : Outside I K) (s : State) (e : Stop) → sides_of new ≡ sides_of old → FellTaking (source_of old) (source_of new) e → Runs old new records s (ended_by e)
unread_run old new s stop.Source same fell = let none = wrote_none old new s same in record { bytes = fell.bytes; read = fell.read; stands = (none.written, none.kept) }
unread_run old new s stop.Sink same fell = absurd fell.cause
unread_run old new s stop.Keeper same fell = absurd fell.cause
unread_run old new s stop.Memory same fell =
    let none = front_whole (sides_of old) (sides_of new) s [] (wrote_none old new s same) in
    record { bytes = fell.bytes; read = fell.read; stands = ([], inl ([], refl), (none.took, none.kept)) }
unread_run old new s stop.Endless same fell = let none = wrote_none old new s same in record { bytes = fell.bytes; read = fell.read; stands = (fell.cause.0, (none.written, none.kept)) }

unread_cause : {I K : Type 0} (old new : Outside I K) (e : Stop) → sides_of new ≡ sides_of old → FellTaking (source_of old) (source_of new) e → HasCause old new (ended_by e)
unfolding HasCause
unread_cause old new stop.Source same fell = fell.cause
unread_cause old new stop.Sink same fell = absurd fell.cause
unread_cause old new stop.Keeper same fell = absurd fell.cause
unread_cause old new stop.Memory same fell = record { source = fell.cause; sides = same_counts old new same }
unread_cause old new stop.Endless same fell = record { source = fell.cause.1; sides = same_counts old new same }

-- the end of an import, and its cause
pub record Imports {I K : Type 0} (old new : Outside I K) (s : State) (e : Ended) : Type 0 where
  pub ran : Runs old new records s e
  pub cause : HasCause old new e

-- the input wasn't read to its end
pub import_unread : {I K : Type 0} (old new : Outside I K) (s : State) (e : Stop) (x : Ended) → x ≡ ended_by e → sides_of new ≡ sides_of old → FellTaking (source_of old) (source_of new) e → Imports old new s x
import_unread old new s e x is same fell = subst (Imports old new s) (sym is) (record { ran = unread_run old new s e same fell; cause = unread_cause old new e same fell })

fell_run : {I K : Type 0} (old new : Outside I K) (s : State) (bytes : List ℕ) (e : Stop) → TookAllLeft (source_of old) (source_of new) bytes → FellAmong (sides_of old) (sides_of new) s (items_of_bytes bytes) e → Runs old new records s (ended_by e)
fell_run old new s bytes stop.Source took fell = absurd fell.cause
fell_run old new s bytes stop.Sink took fell = record { bytes = bytes; read = took.taken.read; stands = (fell.items, inr (took.ends, fell.first), (fell.did.took, fell.did.kept)) }
fell_run old new s bytes stop.Keeper took fell = record { bytes = bytes; read = took.taken.read; stands = (fell.items, inr (took.ends, fell.first), (fell.did.written, fell.did.kept)) }
fell_run old new s bytes stop.Memory took fell = record { bytes = bytes; read = took.taken.read; stands = (fell.items, inr (took.ends, fell.first), (fell.did.took, fell.did.kept)) }
fell_run old new s bytes stop.Endless took fell = absurd fell.cause

-- a record ended the run
pub import_fell : {I K : Type 0} (old new : Outside I K) (s : State) (bytes : List ℕ) (e : Stop) (x : Ended) → x ≡ ended_by e → TookAllLeft (source_of old) (source_of new) bytes
    → FellAmong (sides_of old) (sides_of new) s (items_of_bytes bytes) e → Imports old new s x
import_fell old new s bytes e x is took fell =
    subst (Imports old new s) (sym is) (record { ran = fell_run old new s bytes e took fell; cause = cause_of old new e took.taken.count fell.cause })
