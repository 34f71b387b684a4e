-- A track that is cut behind one of its cycles.
use Rattle.std.proofs.Common.{ℕ, ◌≤◌, nat_le, List, length, take, refl, arith}
use Rattle.std.specs.List.{filter}
use Rattle.std.specs.declared.vec.Vec.{Vec}
use Rattle.card_model.specs.Cycles.{Cycle}
use Rattle.card_daily.specs.declared.track.Track.{Track}
use Rattle.card_book.proofs.Fronts.{fewer, taken}
use Rattle.card_book.specs.Rewound.{IsCutTrack}

-- a list no longer than another, in its place
in-place : {X Z : Type 0} (v : Vec X Z) (xs : List X) → length xs ≤ length v.items → Vec X Z
in-place v xs l = record { ptr = v.ptr; len = length xs; cap = v.cap; alloc = v.alloc; items = xs; ok = (refl, omega (arith, l, v.ok.0, v.ok.1)); small = v.small }

-- there is one
pub cut-track : (k : ℕ) (c : Cycle) (t : Track) → (cut : Track) × IsCutTrack k c t cut
unfolding in-place
cut-track k c t =
    let cut : Track =
    record {
      entries = in-place t.entries (take c.entries t.entries.items) (taken c.entries t.entries.items);
      cycles = in-place t.cycles (take k t.cycles.items) (taken k t.cycles.items);
      fees = in-place t.fees (filter (λ f. nat_le f.cycle k) t.fees.items) (fewer (λ f. nat_le f.cycle k) t.fees.items);
    } in
    (cut, record { entries = refl; cycles = refl; fees = refl })
