use Rattle.std.proofs.Common.{rules, IsUtf8, subst}
use Rattle.std.proofs.KnownBytes.{Appends-trans}
use Rattle.std.specs.Io.KnownBytes.{Appends}
use Rattle.std.proofs.lemmas.Str.{IsUtf8-append}
use Rattle.csv.specs.Writing.{text_written}
use Rattle.card_text.proofs.EntryLemmas.{rows_more}
use Rattle.card_text.proofs.export.write_entries.Goals as goal

pub loop-i-preserved : goal.loop-i-preserved
loop-i-preserved g c =
    let more = rows_more c.args.segments.now c.args.entries.now c.loop-i.i c.index-entries-i.result c.index-segments-entry.result c.requires.segments (search rules) c.index-entries-i.is in
    record {
      rows = subst (λ l. Appends (text_written g.W.Write.contents c.args.writer.now) (text_written g.W.Write.contents c.write_entry.new.writer) l) more (Appends-trans _ _ _ _ _ c.loop-i.invariant.rows c.in_ok-write_entry.ensures.row);
      next = c.in_ok-write_entry.ensures.next;
      utf8 = subst IsUtf8 more (IsUtf8-append _ _ c.loop-i.invariant.utf8 c.in_ok-write_entry.ensures.utf8);
    }
