-- What a sink and a keeper did, one step after the other.
use Rattle.std.proofs.Common.{◌≡◌, ℕ, List, [], ◌++◌, refl, sym, ap, ◌∙◌, subst, append_assoc, append-nil, Option}
use Rattle.std.specs.Io.KnownBytes.{Appends}
use Rattle.std.proofs.KnownBytes.{Appends-trans, Appends-nil}
use Rattle.card_ports.specs.Rows.{AddsRows}
use Rattle.card_ports.specs.declared.row.Row.{Row}
use Rattle.card_ports.specs.Bytes.{IsFront}
use Rattle.card_ports.specs.Counts.{Rose}
use Rattle.card_ports.specs.declared.source.SinkFault.{SinkFault}
use Rattle.card_ports.specs.declared.source.SinkFault.TheVariants as fault
use Rattle.card_ports.specs.Written.{SinkSide, TookFront, TookAll, TookPart, SinkFailed}
use Rattle.card_commands.specs.Written.{Sides, TookBetween, Did, DidPart, SameCounts, Failed}
use Rattle.card_commands.specs.declared.stop.Stop.{Stop}
use Rattle.card_commands.specs.declared.stop.Stop.TheVariants as stop
use Rattle.card_commands.proofs.RowLemmas.{AddsRows-trans, AddsRows-nil}

-- ---- fronts of texts

pub front_refl : (xs : List ℕ) → IsFront xs xs
front_refl xs = ([], sym (append-nil xs))

pub front_none : (xs : List ℕ) → IsFront [] xs
front_none xs = (xs, refl)

pub front_trans : (xs ys zs : List ℕ) → IsFront xs ys → IsFront ys zs → IsFront xs zs
front_trans xs ys zs p q = (p.0 ++ q.0, q.1 ∙ ap (λ l. l ++ q.0) p.1 ∙ append_assoc xs p.0 q.0)

pub front_after : (first xs ys : List ℕ) → IsFront xs ys → IsFront (first ++ xs) (first ++ ys)
front_after first xs ys front = (front.0, ap (λ l. first ++ l) front.1 ∙ sym (append_assoc first xs front.0))

pub front_append : (xs ys : List ℕ) → IsFront xs (xs ++ ys)
front_append xs ys = (ys, refl)

-- what was taken before, and then a front
pub took_after : (a b c : Option (List ℕ)) (first text : List ℕ) → Appends a b first → TookFront b c text → TookFront a c (first ++ text)
took_after a b c first text before took = record { bytes = first ++ took.bytes; taken = Appends-trans a b c first took.bytes before took.taken; front = front_after first took.bytes text took.front }

-- a front of a text's front
pub took_first : (a b : Option (List ℕ)) (first rest : List ℕ) → TookFront a b first → TookFront a b (first ++ rest)
took_first a b first rest took = record { bytes = took.bytes; taken = took.taken; front = front_trans took.bytes first (first ++ rest) took.front (front_append first rest) }

-- all of a text, and then nothing
pub took_whole : (a b c : Option (List ℕ)) (low high : List ℕ) → Appends a b high → Appends b c [] → IsFront low high → TookBetween a c low high
took_whole a b c low high before none front = record {
  bytes = high ++ [];
  taken = Appends-trans a b c high [] before none;
  whole = subst (IsFront low) (sym (append-nil high)) front;
  front = subst (λ (l : List ℕ). IsFront l high) (sym (append-nil high)) (front_refl high);
}

-- all of a text, and then a front of another
pub took_part : (a b c : Option (List ℕ)) (low text : List ℕ) → Appends a b low → TookFront b c text → TookBetween a c low (low ++ text)
took_part a b c low text before took = record {
  bytes = low ++ took.bytes;
  taken = Appends-trans a b c low took.bytes before took.taken;
  whole = front_append low took.bytes;
  front = front_after low took.bytes text took.front;
}

-- ---- a sink

sink_failed_after : (a b c : SinkSide) (f : SinkFault) → b.faults ≡ a.faults → SinkFailed b c f → SinkFailed a c f
sink_failed_after a b c fault.Failed same failed = subst (λ (n : ℕ). Rose n c.faults) same failed
sink_failed_after a b c fault.Memory same failed = failed ∙ same

pub all_then : (a b c : SinkSide) (first text : List ℕ) → TookAll a b first → TookAll b c text → TookAll a c (first ++ text)
all_then a b c first text one two = record { written = Appends-trans a.taken b.taken c.taken first text one.written two.written; count = two.count ∙ one.count }

pub part_then : (a b c : SinkSide) (first text : List ℕ) (f : SinkFault) → TookAll a b first → TookPart b c text f → TookPart a c (first ++ text) f
part_then a b c first text f one two = record { took = took_after a.taken b.taken c.taken first text one.written two.took; cause = sink_failed_after a b c f one.count two.cause }

pub part_first : (a b : SinkSide) (first rest : List ℕ) (f : SinkFault) → TookPart a b first f → TookPart a b (first ++ rest) f
part_first a b first rest f part = record { took = took_first a.taken b.taken first rest part.took; cause = part.cause }

-- ---- both

pub did_none : (a : Sides) → Did a a [] []
did_none a = record { written = Appends-nil a.sink.taken; kept = AddsRows-nil a.keeper.rows }

pub did_then : (a b c : Sides) (xs ys : List ℕ) (rs ss : List Row) → Did a b xs rs → Did b c ys ss → Did a c (xs ++ ys) (rs ++ ss)
did_then a b c xs ys rs ss one two = record {
  written = Appends-trans a.sink.taken b.sink.taken c.sink.taken xs ys one.written two.written;
  kept = AddsRows-trans a.keeper.rows b.keeper.rows c.keeper.rows rs ss one.kept two.kept;
}

-- the same text, and the same rows
pub did_same : (a b : Sides) (xs ys : List ℕ) (rs ss : List Row) → xs ≡ ys → rs ≡ ss → Did a b xs rs → Did a b ys ss
did_same a b xs ys rs ss text rows did = record { written = subst (Appends a.sink.taken b.sink.taken) text did.written; kept = subst (λ (l : List Row). AddsRows a.keeper.rows b.keeper.rows l) rows did.kept }

pub did_part_same : (a b : Sides) (xs ys : List ℕ) (rs ss : List Row) → xs ≡ ys → rs ≡ ss → DidPart a b xs rs → DidPart a b ys ss
did_part_same a b xs ys rs ss text rows did = record { took = subst (TookFront a.sink.taken b.sink.taken) text did.took; kept = subst (λ (l : List Row). AddsRows a.keeper.rows b.keeper.rows l) rows did.kept }

pub counts_refl : (a : Sides) → SameCounts a a
counts_refl a = record { sink = refl; keeper = refl }

pub counts_then : (a b c : Sides) → SameCounts a b → SameCounts b c → SameCounts a c
counts_then a b c one two = record { sink = two.sink ∙ one.sink; keeper = two.keeper ∙ one.keeper }

pub failed_after : (a b c : Sides) (e : Stop) → SameCounts a b → Failed b c e → Failed a c e
failed_after a b c stop.Sink same failed = record { rose = subst (λ (n : ℕ). Rose n c.sink.faults) same.sink failed.rose; keeper = failed.keeper ∙ same.keeper }
failed_after a b c stop.Keeper same failed = record { rose = subst (λ (n : ℕ). Rose n c.keeper.faults) same.keeper failed.rose; sink = failed.sink ∙ same.sink }
failed_after a b c stop.Memory same failed = counts_then a b c same failed
failed_after a b c stop.Source same failed = absurd failed
failed_after a b c stop.Endless same failed = absurd failed
