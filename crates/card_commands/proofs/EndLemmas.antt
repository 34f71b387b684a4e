-- How a run ends, from what its bytes came to.
use Rattle.std.proofs.Common.{◌≡◌, ℕ, ◌-◌, ◌^◌, Bool, true, false, ◌⊎◌, inl, inr, List, [], ◌++◌, take, ap, sym, ◌∙◌, subst, append-nil, Option, Result, Ok, Err}
use Rattle.std.specs.Io.KnownBytes.{Appends, Consumes, IsAtEnd}
use Rattle.std.specs.Prelude.{IfOk, IfErr}
use Rattle.card_ports.specs.Rows.{AddsRows}
use Rattle.card_model.specs.Machine.{State}
use Rattle.card_ports.specs.Bytes.{IsFront}
use Rattle.card_commands.specs.Statuses.{ended_by, ended_of}
use Rattle.card_commands.specs.Feed.{Progress, feed_all, text_all, rows_all, new_run, end_text, end_rows, end_refused, end_ledger}
use Rattle.card_commands.specs.Input.{ended_items, all_items, lines}
use Rattle.card_commands.specs.Outside.{Outside, ReadFirst, ReadAllTo, Wrote, WroteFront, Runs, RunsTo, HasCause, Unfailed, but_last, sides_of, AreFirst}
use Rattle.card_commands.specs.Ran.{Finished, HeldAt, StoppedAt, Ran, FellReading}
use Rattle.card_commands.specs.Run.{text_of, rows_kept}
use Rattle.card_ports.specs.Written.{TookFront}
use Rattle.card_commands.specs.Written.{TookBetween, Did, DidPart, SameCounts, FellIn}
use Rattle.card_commands.specs.declared.stop.Stop.{Stop}
use Rattle.card_commands.specs.declared.stop.Stop.TheVariants as stop
use Rattle.card_commands.specs.declared.ended.Ended.{Ended}
use Rattle.card_commands.specs.declared.ended.Ended.TheVariants as ended
use Rattle.card_text.specs.declared.item.Item.{Item}
use Rattle.card_commands.proofs.ApplyLemmas.{text_is, rows_are, whole_text, whole_rows, whole_refused, whole_ledger, first_items, all_first, OneMore, one_byte, low_front, last_more, none_more}
use Rattle.card_commands.proofs.FeedLemmas.{cause_of, cause_after}
use Rattle.card_commands.proofs.RowLemmas.{AddsRows-trans}
use Rattle.card_commands.proofs.SideLemmas.{front_trans, front_refl, took_whole, took_part, did_then, counts_then}

-- ---- the bytes that were read were handled

wrote : {I K : Type 0} (old new : Outside I K) (s : State) (bytes : List ℕ) → Did (sides_of old) (sides_of new) (text_all (new_run s) bytes) (rows_all (new_run s) bytes) → Wrote old new s (ended_items bytes)
wrote old new s bytes did = (subst (Appends old.taken new.taken) (text_is s bytes) did.written, subst (AddsRows old.rows new.rows) (rows_are s bytes) did.kept)

pub endless_run : {I K : Type 0} (old new : Outside I K) (s : State) (q : Progress) (n : ℕ) → Ran old new (new_run s) q n → n ≡ 2 ^ 36 → Runs old new lines s ended.Endless
endless_run old new s q n ran all = record { bytes = ran.bytes; read = ran.read; stands = (ran.length_is ∙ all, wrote old new s ran.bytes ran.fed.did) }

-- ---- some first bytes were handled

held : {I K : Type 0} (old new : Outside I K) (s : State) (bytes : List ℕ) (at : HeldAt (sides_of old) (sides_of new) (new_run s) bytes) → (items : List Item) × AreFirst items (ended_items bytes) × Wrote old new s items
held old new s bytes at =
    let front = take at.count bytes in
    (ended_items front, first_items at.count bytes, wrote old new s front at.did)

-- all items but the last have their replies, and the last a front of its own
wrote_front : {I K : Type 0} (old new : Outside I K) (s : State) (fewer ls : List Item) → OneMore fewer ls → TookBetween old.taken new.taken (text_of s fewer) (text_of s ls) → AddsRows old.rows new.rows (rows_kept s ls)
    → WroteFront old new s ls
wrote_front old new s fewer ls one took kept = (
  record {
    bytes = took.bytes;
    taken = took.taken;
    whole = front_trans (text_of s (but_last ls)) (text_of s fewer) took.bytes (low_front s fewer ls one) took.whole;
    front = took.front;
  },
  kept,
)

stopped : {I K : Type 0} (old new : Outside I K) (s : State) (bytes : List ℕ) (at : StoppedAt (sides_of old) (sides_of new) (new_run s) bytes) → (items : List Item) × AreFirst items (ended_items bytes) × WroteFront old new s items
stopped old new s bytes at =
    let fewer = take (at.count - 1) bytes in
    let front = take at.count bytes in
    let took : TookBetween old.taken new.taken (text_of s (ended_items fewer)) (text_of s (ended_items front)) = record {
      bytes = at.took.bytes;
      taken = at.took.taken;
      whole = subst (λ (x : List ℕ). IsFront x at.took.bytes) (text_is s fewer) at.took.whole;
      front = subst (IsFront at.took.bytes) (text_is s front) at.took.front;
    } in (
      ended_items front,
      first_items at.count bytes,
      wrote_front old new s (ended_items fewer) (ended_items front) (one_byte at.count bytes at.within) took (subst (AddsRows old.rows new.rows) (rows_are s front) at.kept),
    )

-- a run that was ended early
fell_run : {I K : Type 0} (old new : Outside I K) (s t : State) (e : Stop) → FellReading old new (new_run s) e → RunsTo old new lines s t (ended_by e)
fell_run old new s t stop.Source fell = record { bytes = fell.bytes; read = fell.read; stands = wrote old new s fell.bytes fell.did }
fell_run old new s t stop.Sink fell = let some = stopped old new s fell.bytes fell.did in record { bytes = fell.bytes; read = fell.read; stands = (some.0, inl some.1, some.2) }
fell_run old new s t stop.Keeper fell = let some = held old new s fell.bytes fell.did in record { bytes = fell.bytes; read = fell.read; stands = (some.0, inl some.1, some.2) }
fell_run old new s t stop.Memory fell = let some = stopped old new s fell.bytes fell.did in record { bytes = fell.bytes; read = fell.read; stands = (some.0, inl some.1, some.2) }
fell_run old new s t stop.Endless fell = absurd fell.did

pub fell_end : {I K : Type 0} (old new : Outside I K) (s t : State) (e : Stop) (x : Ended) → x ≡ ended_by e → FellReading old new (new_run s) e → RunsTo old new lines s t x
fell_end old new s t e x is fell = subst (λ (y : Ended). RunsTo old new lines s t y) (sym is) (fell_run old new s t e fell)

pub fell_end_cause : {I K : Type 0} (old new : Outside I K) (s : State) (e : Stop) (x : Ended) → x ≡ ended_by e → FellReading old new (new_run s) e → HasCause old new x
fell_end_cause old new s e x is fell = subst (λ (y : Ended). HasCause old new y) (sym is) fell.cause

-- ---- the input was read to its end: what was done of its last line

-- the source is as it was
pub record SameSource {I K : Type 0} (old new : Outside I K) : Type 0 where
  pub left : new.left ≡ old.left
  pub count : new.source_faults ≡ old.source_faults

read_on : {I K : Type 0} (old mid new : Outside I K) (p q : Progress) (n : ℕ) (ran : Ran old mid p q n) → SameSource mid new → Consumes old.left new.left ran.bytes
read_on old mid new p q n ran same = subst (λ (x : Option (List ℕ)). Consumes old.left x ran.bytes) (sym same.left) ran.read

at_end : {I K : Type 0} (mid new : Outside I K) → SameSource mid new → IsAtEnd mid.left → IsAtEnd new.left
at_end mid new same ends = subst IsAtEnd (sym same.left) ends

whole_run : {I K : Type 0} (old mid new : Outside I K) (s t : State) (q : Progress) (n : ℕ) (refused : Bool) → Ran old mid (new_run s) q n → SameSource mid new → IsAtEnd mid.left → Finished (sides_of mid) (sides_of new) q t refused
    → ReadAllTo old new lines s t refused
whole_run old mid new s t q n refused ran same ends last =
    let bytes = ran.bytes in
    let did = did_then (sides_of old) (sides_of mid) (sides_of new) _ _ _ _ ran.fed.did last.did in
    record {
      bytes = bytes;
      read = read_on old mid new (new_run s) q n ran same;
      stands = (
        at_end mid new same ends,
        (
          subst (Appends old.taken new.taken) (ap (λ r. text_all (new_run s) bytes ++ end_text r) ran.fed.progress ∙ whole_text s bytes) did.written,
          subst (AddsRows old.rows new.rows) (ap (λ r. rows_all (new_run s) bytes ++ end_rows r) ran.fed.progress ∙ whole_rows s bytes) did.kept,
        ),
        sym (last.refused_is ∙ ap end_refused ran.fed.progress ∙ whole_refused s bytes),
        last.ledger_is ∙ ap end_ledger ran.fed.progress ∙ whole_ledger s bytes,
      );
    }

-- nothing was done of it
held_end : {I K : Type 0} (old mid new : Outside I K) (s : State) (q : Progress) (n : ℕ) (ran : Ran old mid (new_run s) q n) → Did (sides_of mid) (sides_of new) [] [] → Wrote old new s (ended_items ran.bytes)
held_end old mid new s q n ran none =
    let bytes = ran.bytes in
    let did = did_then (sides_of old) (sides_of mid) (sides_of new) _ [] _ [] ran.fed.did none in (
      subst (Appends old.taken new.taken) (append-nil (text_all (new_run s) bytes) ∙ text_is s bytes) did.written,
      subst (AddsRows old.rows new.rows) (append-nil (rows_all (new_run s) bytes) ∙ rows_are s bytes) did.kept,
    )

stopped_none : {I K : Type 0} (old mid new : Outside I K) (s : State) (q : Progress) (n : ℕ) (ran : Ran old mid (new_run s) q n) → Did (sides_of mid) (sides_of new) [] [] → WroteFront old new s (ended_items ran.bytes)
stopped_none old mid new s q n ran none =
    let ls = ended_items ran.bytes in
    let text = subst (Appends old.taken mid.taken) (text_is s ran.bytes) ran.fed.did.written in
    let took = took_whole old.taken mid.taken new.taken (text_of s ls) (text_of s ls) text none.written (front_refl (text_of s ls)) in
    wrote_front old new s ls ls (none_more ls) took (held_end old mid new s q n ran none).1

-- its row was kept, and a front of its reply was written
stopped_last : {I K : Type 0} (old mid new : Outside I K) (s : State) (q : Progress) (n : ℕ) (ran : Ran old mid (new_run s) q n) → DidPart (sides_of mid) (sides_of new) (end_text q) (end_rows q) → WroteFront old new s (all_items ran.bytes)
stopped_last old mid new s q n ran part =
    let bytes = ran.bytes in
    let ls = ended_items bytes in
    let end = end_text (feed_all (new_run s) bytes) in
    let text = subst (Appends old.taken mid.taken) (text_is s bytes) ran.fed.did.written in
    let last : TookFront mid.taken new.taken end = subst (λ (r : Progress). TookFront mid.taken new.taken (end_text r)) ran.fed.progress part.took in
    let joined : text_of s ls ++ end ≡ text_of s (all_items bytes) = ap (λ t. t ++ end) (sym (text_is s bytes)) ∙ whole_text s bytes in
    let rows = subst (AddsRows old.rows new.rows) (ap (λ r. rows_all (new_run s) bytes ++ end_rows r) ran.fed.progress ∙ whole_rows s bytes) (AddsRows-trans old.rows mid.rows new.rows _ _ ran.fed.did.kept part.kept) in
    let took = subst (TookBetween old.taken new.taken (text_of s ls)) joined (took_part old.taken mid.taken new.taken (text_of s ls) end text last) in
    wrote_front old new s ls (all_items bytes) (last_more bytes) took rows

stopped_end : {I K : Type 0} (old mid new : Outside I K) (s : State) (q : Progress) (n : ℕ) → Ran old mid (new_run s) q n → SameSource mid new → IsAtEnd mid.left
    → Did (sides_of mid) (sides_of new) [] [] ⊎ DidPart (sides_of mid) (sides_of new) (end_text q) (end_rows q) → ReadFirst old new lines (WroteFront old new s)
stopped_end old mid new s q n ran same ends (inl none) = record {
  bytes = ran.bytes;
  read = read_on old mid new (new_run s) q n ran same;
  stands = (ended_items ran.bytes, inl (all_first (ended_items ran.bytes)), stopped_none old mid new s q n ran none);
}
stopped_end old mid new s q n ran same ends (inr part) = record {
  bytes = ran.bytes;
  read = read_on old mid new (new_run s) q n ran same;
  stands = (all_items ran.bytes, inr (at_end mid new same ends, all_first (all_items ran.bytes)), stopped_last old mid new s q n ran part);
}

fell_last : {I K : Type 0} (old mid new : Outside I K) (s t : State) (q : Progress) (n : ℕ) (e : Stop) → Ran old mid (new_run s) q n → SameSource mid new → IsAtEnd mid.left
    → FellIn (sides_of mid) (sides_of new) (end_text q) (end_rows q) e → RunsTo old new lines s t (ended_by e)
fell_last old mid new s t q n stop.Source ran same ends fell = absurd fell.cause
fell_last old mid new s t q n stop.Sink ran same ends fell = stopped_end old mid new s q n ran same ends fell.did
fell_last old mid new s t q n stop.Keeper ran same ends fell = record {
  bytes = ran.bytes;
  read = read_on old mid new (new_run s) q n ran same;
  stands = (ended_items ran.bytes, inl (all_first (ended_items ran.bytes)), held_end old mid new s q n ran fell.did);
}
fell_last old mid new s t q n stop.Memory ran same ends fell = stopped_end old mid new s q n ran same ends fell.did
fell_last old mid new s t q n stop.Endless ran same ends fell = absurd fell.cause

-- its last line was handled, or ended it
ended_run_of : {I K : Type 0} (old mid new : Outside I K) (s t : State) (q : Progress) (n : ℕ) (r : Result Bool Stop) → Ran old mid (new_run s) q n → SameSource mid new → IsAtEnd mid.left
    → IfOk r (Finished (sides_of mid) (sides_of new) q t) → IfErr r (FellIn (sides_of mid) (sides_of new) (end_text q) (end_rows q)) → RunsTo old new lines s t (ended_of r)
ended_run_of old mid new s t q n (Ok false) ran same ends ok err = whole_run old mid new s t q n false ran same ends ok
ended_run_of old mid new s t q n (Ok true) ran same ends ok err = whole_run old mid new s t q n true ran same ends ok
ended_run_of old mid new s t q n (Err e) ran same ends ok err = fell_last old mid new s t q n e ran same ends err

pub ended_run : {I K : Type 0} (old mid new : Outside I K) (s t : State) (q : Progress) (n : ℕ) (r : Result Bool Stop) (e : Ended) → e ≡ ended_of r → Ran old mid (new_run s) q n → SameSource mid new → IsAtEnd mid.left
    → IfOk r (Finished (sides_of mid) (sides_of new) q t) → IfErr r (FellIn (sides_of mid) (sides_of new) (end_text q) (end_rows q)) → RunsTo old new lines s t e
ended_run old mid new s t q n r e is ran same ends ok err = subst (λ (y : Ended). RunsTo old new lines s t y) (sym is) (ended_run_of old mid new s t q n r ran same ends ok err)

-- ---- what failed

unfailed_then : {I K : Type 0} (old mid new : Outside I K) (s : State) (q : Progress) (n : ℕ) → Ran old mid (new_run s) q n → SameSource mid new → SameCounts (sides_of mid) (sides_of new) → Unfailed old new
unfailed_then old mid new s q n ran same counts = record { source = same.count ∙ ran.source_count; sides = counts_then (sides_of old) (sides_of mid) (sides_of new) ran.fed.counts counts }

ended_cause_of : {I K : Type 0} (old mid new : Outside I K) (s t : State) (q : Progress) (n : ℕ) (r : Result Bool Stop) → Ran old mid (new_run s) q n → SameSource mid new
    → IfOk r (Finished (sides_of mid) (sides_of new) q t) → IfErr r (FellIn (sides_of mid) (sides_of new) (end_text q) (end_rows q)) → HasCause old new (ended_of r)
unfolding HasCause
ended_cause_of old mid new s t q n (Ok false) ran same ok err = unfailed_then old mid new s q n ran same ok.counts
ended_cause_of old mid new s t q n (Ok true) ran same ok err = unfailed_then old mid new s q n ran same ok.counts
ended_cause_of old mid new s t q n (Err e) ran same ok err = cause_after old mid new e ran.source_count ran.fed.counts (cause_of mid new e same.count err.cause)

pub ended_cause : {I K : Type 0} (old mid new : Outside I K) (s t : State) (q : Progress) (n : ℕ) (r : Result Bool Stop) (e : Ended) → e ≡ ended_of r → Ran old mid (new_run s) q n → SameSource mid new
    → IfOk r (Finished (sides_of mid) (sides_of new) q t) → IfErr r (FellIn (sides_of mid) (sides_of new) (end_text q) (end_rows q)) → HasCause old new e
ended_cause old mid new s t q n r e is ran same ok err = subst (λ (y : Ended). HasCause old new y) (sym is) (ended_cause_of old mid new s t q n r ran same ok err)

pub endless_cause : {I K : Type 0} (old new : Outside I K) (s : State) (q : Progress) (n : ℕ) → Ran old new (new_run s) q n → HasCause old new ended.Endless
unfolding HasCause
endless_cause old new s q n ran = record { source = ran.source_count; sides = ran.fed.counts }

-- ---- a run, whatever its ledger
pub runs_of : {I K : Type 0} (old new : Outside I K) (s t : State) (e : Ended) → RunsTo old new lines s t e → Runs old new lines s e
runs_of old new s t ended.Done ran = record { bytes = ran.bytes; read = ran.read; stands = (ran.stands.0, ran.stands.1, ran.stands.2) }
runs_of old new s t ended.Refused ran = record { bytes = ran.bytes; read = ran.read; stands = (ran.stands.0, ran.stands.1, ran.stands.2) }
runs_of old new s t ended.Usage ran = ran
runs_of old new s t ended.Source ran = ran
runs_of old new s t ended.Sink ran = ran
runs_of old new s t ended.Keeper ran = ran
runs_of old new s t ended.Memory ran = ran
runs_of old new s t ended.Door ran = ran
runs_of old new s t ended.Damaged ran = ran
runs_of old new s t ended.Endless ran = ran
