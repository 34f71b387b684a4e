use Rattle.std.proofs.Common.{length, arith, ap, sym, ◌∙◌}
use Rattle.card_keys.specs.Buckets.{bucket}
use Rattle.card_keys.proofs.KeyLemmas.{entered}
use Rattle.card_keys.proofs.index.enter_key.Goals as goal

pub returns-clause-index : goal.returns-clause-index
returns-clause-index c k same = entered c.args.history.now k c.bucket_of-bucket.result _ c.args.index.now c.enter.new.self (c.bucket_of-bucket.ensures.bucket ∙ ap (bucket (length c.args.index.now.heads)) (c.bytes.ensures.value ∙ sym same)) c.bucket_of-bucket.ensures.within (omega arith) c.requires.index c.enter.ensures
