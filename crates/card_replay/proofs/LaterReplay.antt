-- Shared rows of later days leave an account as it is.
use Rattle.std.proofs.Common.{◌∙◌, refl, arith}
use Rattle.card_events.specs.History.{anchor_of}
use Rattle.card_posts.proofs.Holidays.{same-corrected}
use Rattle.card_past.proofs.Eves.{eve-goes-on, eve_folding, if-some}
use Rattle.card_replay.proofs.LaterRows.{rows-on}
use Rattle.card_replay.proofs.Lates.{later_rows_leave_them}
use Rattle.card_replay.specs.Laws.{LaterRowsLeaveIt}
use Rattle.card_replay.specs.Replays.{IsEve, given_of}

pub later_rows_leave_it : LaterRowsLeaveIt
later_rows_leave_it old new r day h reached accepted rows sound =
    let was = given_of r.lists old in
    let now = given_of r.lists new in
    let f = r.folding in
    record {
      corrected = h.corrected ∙ same-corrected (anchor_of r.lists.posts) old.holidays new.holidays r.lists.posts h.timely (λ x l. rows.holidays x (omega (arith, l, accepted)));
      sound = sound;
      timely = h.timely;
      opened = h.opened;
      dated = h.dated;
      late = later_rows_leave_them old new r.lists r.late f.reached day h.timely accepted rows h.late;
      folding = rows-on old new r day f h accepted rows reached
          (if-some f.eve (IsEve was f.reached f.past) (IsEve now f.reached f.past)
          (λ e stood. let low = stood.earlier in eve-goes-on was now f.reached f.past e stood refl (λ front is stands. rows-on old new r day (eve_folding e front) h accepted rows (omega (arith, low, reached)) tt stands)) h.folding.eve)
          h.folding;
    }
