-- Generated requests, worked out apart from their definition. Days are day numbers: 2011-01-02 is 14976, 2024-01-20 is 19742.
use Rattle.std.specs.Prelude.{◌≡◌, ℕ, List, [], ◌∷◌, codes}
use Rattle.card_events.specs.declared.anchor.Channel.TheVariants as channel
use Rattle.card_events.specs.declared.post.Place.TheVariants as place
use Rattle.card_events.specs.declared.post.Post.{Post}
use Rattle.card_events.specs.declared.post.Post.TheVariants as post
use Rattle.card_events.specs.declared.request.Request.{Request}
use Rattle.card_events.specs.declared.request.Request.TheVariants as request
use Rattle.card_events.specs.declared.request.Shared.TheVariants as shared
use Rattle.card_demo.specs.Requests.{account, amend_key, bill_key, charge_key, demo_requests, payment_key, roll_to, terms_closing}

-- a post of the first account
abbrev pub of_first : List ℕ → Post → Request
of_first key p = request.Post (account 1) key p

-- one account over one cycle, where the generator begins at 1
abbrev pub WorkedRequests : Type 0
WorkedRequests =
    demo_requests 1 1 1
    ≡ request.Shared (shared.FeeRow 14976 3000 4100)
    ∷ roll_to 19742
    ∷ of_first (codes "o") (post.Open 19727 (terms_closing 18))
    ∷ of_first (bill_key 1) (post.Bill 1)
    ∷ of_first (charge_key 1 1) (post.Charge 19739 place.Purchase 12970)
    ∷ of_first (charge_key 1 2) (post.Charge 19738 place.Transfer 7230)
    ∷ of_first (charge_key 1 3) (post.Charge 19740 place.Purchase 6846)
    ∷ of_first (charge_key 1 4) (post.Charge 19739 place.Cash 7552)
    ∷ of_first (payment_key 1) (post.Payment 19742 1274 channel.Online 14912)
    ∷ of_first (amend_key 1) (post.Amend 3 19732 4890)
    ∷ roll_to 19773
    ∷ []
