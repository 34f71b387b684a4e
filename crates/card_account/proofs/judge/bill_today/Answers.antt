use Rattle.std.proofs.Common.{◌≡◌, List, ℕ, refl, sym, ap, ◌∙◌, subst}
use Rattle.card_daily.specs.Given.{AreInTurn}
use Rattle.card_events.specs.Billing.{IsCloseDay}
use Rattle.card_events.specs.declared.anchor.Anchor.{Anchor}
use Rattle.card_events.specs.History.{anchor_of}
use Rattle.card_events.specs.declared.kept.Kept.{Kept}
use Rattle.card_events.specs.declared.post.Post.TheVariants as post
use Rattle.card_model.specs.Refusals.{Lists}
use Rattle.card_reasons.specs.Reasons.{AreInOrder, bill_reason, judged_of}
use Rattle.card_reasons.proofs.ReasonLemmas.{of_bill}
use Rattle.card_account.proofs.judge.bill_today.Goals as goal

in-order : (l : Lists) (a : Anchor) (h : List Kept) → a ≡ anchor_of l.posts → h ≡ l.posts → AreInTurn l → AreInOrder a h
in-order l a h e f turn =
    subst (λ (x : Anchor). AreInOrder x h) (sym e) (subst (λ (ks : List Kept). AreInOrder (anchor_of l.posts) ks) (sym f) (record { accepted = turn.accepted; billed = turn.billed }))

pub ordered_bill_reason-requires-clause-close_day : goal.ordered_bill_reason-requires-clause-close_day
ordered_bill_reason-requires-clause-close_day c = subst (λ (x : Anchor). IsCloseDay x.close_day) (sym c.anchor.ensures.value) c.anchor.ensures.sound.opening.close_day

pub ordered_bill_reason-requires-clause-order : goal.ordered_bill_reason-requires-clause-order
ordered_bill_reason-requires-clause-order c = in-order c.args.now.now.lists c.anchor.result c.posts.result.now.history c.anchor.ensures.value c.posts.ensures.history c.anchor.ensures.sound.in_turn

pub returns : goal.returns
returns c issued =
    let now = c.args.now.now in
    let a = c.anchor.result in
    let cycle = c.args.cycle in
    of_bill (judged_of now.today now.shared issued now.lists.posts) (post.Bill cycle) cycle a c.ordered_bill_reason.result refl c.anchor.ensures.value
    (c.ordered_bill_reason.ensures ∙ ap (λ (h : List Kept). bill_reason c.today.result a h cycle) c.posts.ensures.history ∙ ap (λ (n : ℕ). bill_reason n a now.lists.posts cycle) c.today.ensures.value)
