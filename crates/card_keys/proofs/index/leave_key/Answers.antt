use Rattle.std.proofs.Common.{[], length, arith, ap, ◌∙◌}
use Rattle.card_keys.specs.Buckets.{bucket, earlier_from, last_in}
use Rattle.card_keys.proofs.KeyLemmas.{left, split}
use Rattle.card_keys.proofs.index.leave_key.Goals as goal

pub bucket_of-bucket-requires : goal.bucket_of-bucket-requires
bucket_of-bucket-requires c = let i = c.requires.index in omega (arith, i.some, i.long)

pub returns-clause-index : goal.returns-clause-index
returns-clause-index c =
    left c.args.history.now c.args.last.now c.bucket_of-bucket.result c.args.index.now c.leave.new.self (c.bucket_of-bucket.ensures.bucket ∙ ap (bucket (length c.args.index.now.heads)) c.bytes.ensures.value) c.bucket_of-bucket.ensures.within c.requires.index c.leave.ensures

pub returns-clause-room : goal.returns-clause-room
returns-clause-room c =
    let i = c.requires.index in
    let b = c.bucket_of-bucket.result in
    c.leave.ensures.room (earlier_from (bucket i.size) [] c.args.history.now) (last_in (bucket i.size) b 1 c.args.history.now)
    (split c.args.history.now c.args.last.now b c.args.index.now (c.bucket_of-bucket.ensures.bucket ∙ ap (bucket (length c.args.index.now.heads)) c.bytes.ensures.value) i)
