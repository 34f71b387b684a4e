-- Reads of a connection, one after the other.
use Rattle.std.proofs.Common.{ℕ, List, [], ◌++◌, refl, ◌∙◌}
use Rattle.std.proofs.KnownBytes.{Consumes-nil, Consumes-trans}
use Rattle.card_ports.specs.Visits.{Wire}
use Rattle.card_wire.specs.Links.{Read}

-- nothing was read
pub read_none : (w : Wire) → Read w w []
read_none w = record { left = Consumes-nil w.left; taken = refl; faults = refl }

-- one read behind another
pub read_more : (w u v : Wire) (xs ys : List ℕ) → Read w u xs → Read u v ys → Read w v (xs ++ ys)
read_more w u v xs ys first second = record {
  left = Consumes-trans w.left u.left v.left xs ys first.left second.left;
  taken = second.taken ∙ first.taken;
  faults = second.faults ∙ first.faults;
}
