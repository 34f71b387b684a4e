use Rattle.std.proofs.Common.{take}
use Rattle.std.specs.Io.KnownBytes.{Appends}
use Rattle.std.specs.List.{flat_map}
use Rattle.std.specs.Str.{IsUtf8}
use Rattle.csv.specs.Writing.{text_written}
use Rattle.card_text.specs.Export.{entry_row}
use Rattle.card_text.specs.Records.{IsAtRecord}
use Rattle.card_text.proofs.export.write_entries.Given as goal

abbrev pub invariant-loop-i : goal.invariant-loop-i
invariant-loop-i g l = record {
  rows : Appends (text_written g.W.Write.contents l.initial.writer) (text_written g.W.Write.contents l.writer) (flat_map (entry_row l.segments) (take l.i l.entries));
  next : IsAtRecord l.writer;
  utf8 : IsUtf8 (flat_map (entry_row l.segments) (take l.i l.entries));
}
