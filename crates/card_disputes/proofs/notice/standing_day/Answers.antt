use Rattle.std.proofs.Common.{◌≤◌, sym, ap, ◌∙◌, subst, Some}
use Rattle.card_events.specs.Range.{last_request_day}
use Rattle.card_disputes.proofs.NoticeLemmas.{no-slot, slot-stands, stands-dated}
use Rattle.card_posts.specs.Posted.{slot_with}
use Rattle.card_disputes.proofs.notice.standing_day.Goals as goal

pub returns-in-Some-clause-value : goal.returns-in-Some-clause-value
returns-in-Some-clause-value c holidays k own stands there charge =
    let posts = c.args.posts.now in
    let slot = c.in-Some.slot in
    let day = slot-stands holidays posts c.args.number own k slot stands there charge (ap (λ n. slot_with n posts.corrected) (sym c.get.ensures.value) ∙ (sym c.slot.ensures ∙ c.in-Some.is)) in
    let dated = subst (λ d. d ≤ last_request_day) (sym day) (stands-dated posts.history c.args.number own k c.requires there charge) in
    c.requested.ensures.value dated ∙ ap Some day

pub returns-in-None-clause-value : goal.returns-in-None-clause-value
returns-in-None-clause-value c holidays k own stands there charge =
    let posts = c.args.posts.now in
    absurd (no-slot holidays posts c.args.number k stands there (ap (λ n. slot_with n posts.corrected) (sym c.get.ensures.value) ∙ (sym c.slot.ensures ∙ c.in-None.is)))
