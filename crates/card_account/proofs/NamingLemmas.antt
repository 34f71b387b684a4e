-- What an accepted post names.
use Rattle.std.proofs.Common.{◌≡◌, ◌+◌, length, None, sym, ◌∙◌, arith}
use Rattle.card_daily.specs.Given.{NamesAPayment}
use Rattle.card_events.specs.History.{at_number}
use Rattle.card_events.specs.declared.post.Post.{Post}
use Rattle.card_events.specs.declared.post.Post.TheVariants as post
use Rattle.card_model.specs.Refusals.{Present, reason_against}
use Rattle.card_reasons.proofs.Accepted.{returns-fitting, returns-there}
use Rattle.card_reasons.proofs.ReturnLemmas.{fits-named}

-- where it is a Return, it names a payment
pub names : (now : Present) (p : Post) → reason_against now p ≡ None → NamesAPayment now.lists.posts (1 + length now.lists.posts) p
names now (post.Return d t) none =
    let there = returns-there now d t none in (omega (arith, there), sym (fits-named d t (at_number t now.lists.posts)) ∙ returns-fitting now d t none)
names now (post.Charge d p c) none = tt
names now (post.Credit d p c) none = tt
names now (post.Payment d m by c) none = tt
names now (post.Bill c) none = tt
names now (post.Amend t d c) none = tt
names now (post.Plan d v r w f) none = tt
names now (post.Notice d y r w) none = tt
names now (post.Lower d y r) none = tt
names now post.Penalty none = tt
names now (post.Review d f) none = tt
names now (post.Dispute d t c) none = tt
names now (post.Ack d t) none = tt
names now (post.Resolve d t c) none = tt
names now (post.AskRefund d) none = tt
names now (post.Refund c) none = tt
names now (post.Open d t) none = tt
names now (post.OpenVariable d t) none = tt
