use Rattle.std.proofs.Common.{◌≡◌, rules}
use Rattle.csv.specs.Reading.{default_config, records, strip_bom}
use Rattle.card_text.specs.Reading.{records_left}
use Rattle.card_text.proofs.RecordLemmas.{few}
use Rattle.card_text.proofs.reading.RecordReader.of.Goals as goal

pub returns-clause-few : goal.returns-clause-few
returns-clause-few c =
    let all : records_left c.in_ok-reader.reader.value ≡ records default_config (strip_bom c.args.bytes.now) = search rules in
    rw all (few c.args.bytes.now)
