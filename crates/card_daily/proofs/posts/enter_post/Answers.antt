use Rattle.std.proofs.Common.{◌≡◌, ◌-◌, true, sym, ap, ◌∙◌, refl, subst, arith, eq-eqb}
use Rattle.card_events.specs.declared.post.Post.{Post}
use Rattle.card_events.specs.declared.post.Post.TheVariants as post
use Rattle.card_model.specs.Books.{Book}
use Rattle.card_model.specs.Deadlines.{resolves}
use Rattle.card_model.specs.Payments.{is_payment, returns}
use Rattle.card_rates.specs.declared.day.DayPost.{DayPost}
use Rattle.card_daily.proofs.Posting.{nothing-done, of-kind, of-return, on-ok, returns-none, slot-is}
use Rattle.card_daily.proofs.Standing.{room-same}
use Rattle.card_daily.specs.Given.{account_in, opened_in, row_in, seen_in}
use Rattle.card_daily.specs.Posts.{StandWith}
use Rattle.card_daily.proofs.posts.enter_post.Goals as goal

pub returns-in-Charge-clause-stands : goal.returns-in-Charge-clause-stands
returns-in-Charge-clause-stands c =
    let x = c.args.post.now in
    let a = account_in c.args.inputs.now in
    let seen = seen_in c.args.inputs.now x.slot.day in
    let row = row_in c.args.inputs.now (x.slot.day - opened_in c.args.inputs.now) in
    on-ok c.enter_charge.result _ _ c.enter_charge.ensures.stands
    (λ did first returned rows_by p b l cycles may e h.
    of-kind row a seen first returned rows_by p x _ b c.enter_charge.new.state c.enter_charge.new.track e c.in-Charge.is (λ n. refl)
    (did a seen c.in-Charge.day c.in-Charge.cents row first returned rows_by p b (slot-is seen p x e refl) h))

pub returns-in-Credit-clause-stands : goal.returns-in-Credit-clause-stands
returns-in-Credit-clause-stands c =
    let x = c.args.post.now in
    let a = account_in c.args.inputs.now in
    let seen = seen_in c.args.inputs.now x.slot.day in
    let row = row_in c.args.inputs.now (x.slot.day - opened_in c.args.inputs.now) in
    on-ok c.enter_credit.result _ _ c.enter_credit.ensures.stands
    (λ did first returned rows_by p b l cycles may e h.
    of-kind row a seen first returned rows_by p x _ b c.enter_credit.new.state c.enter_credit.new.track e c.in-Credit.is (λ n. refl)
    (did c.in-Credit.day c.in-Credit.cents row first returned rows_by p b l (slot-is seen p x e refl) h))

pub returns-in-Payment-clause-stands : goal.returns-in-Payment-clause-stands
returns-in-Payment-clause-stands c =
    let x = c.args.post.now in
    let a = account_in c.args.inputs.now in
    let seen = seen_in c.args.inputs.now x.slot.day in
    let row = row_in c.args.inputs.now (x.slot.day - opened_in c.args.inputs.now) in
    on-ok c.enter_payment.result _ _ c.enter_payment.ensures.stands
    (λ did first returned rows_by p b l cycles may e h.
    of-kind row a seen first returned rows_by p x _ b c.enter_payment.new.state c.enter_payment.new.track e c.in-Payment.is (λ n. refl)
    (did c.in-Payment.day c.in-Payment.minute c.in-Payment.cents c.in-Payment.channel row first returned rows_by p b
    (record { begun = l; stands = may.stands (subst (λ (q : Post). is_payment q ≡ true) (sym c.in-Payment.is ∙ ap (λ (y : DayPost). y.post) e) refl); cycles = cycles }) (slot-is seen p x e refl) h))

pub returns-in-Refund-clause-stands : goal.returns-in-Refund-clause-stands
returns-in-Refund-clause-stands c =
    let x = c.args.post.now in
    let a = account_in c.args.inputs.now in
    let seen = seen_in c.args.inputs.now x.slot.day in
    let row = row_in c.args.inputs.now (x.slot.day - opened_in c.args.inputs.now) in
    on-ok c.enter_refund.result _ _ c.enter_refund.ensures.stands
    (λ did first returned rows_by p b l cycles may e h.
    of-kind row a seen first returned rows_by p x _ b c.enter_refund.new.state c.enter_refund.new.track e c.in-Refund.is (λ n. refl)
    (did a seen c.in-Refund.cents row first returned rows_by p b (slot-is seen p x e refl) h))

pub overflow_cast-get : goal.overflow_cast-get
overflow_cast-get c =
    let target = c.in-Return.target in
    let few = (c.requires.named target (subst (λ (q : Post). returns target q ≡ true) (sym c.in-Return.is) (eq-eqb target target refl))).0 in
    omega (arith, few)

pub returns-in-Return-clause-stands : goal.returns-in-Return-clause-stands
returns-in-Return-clause-stands c =
    let x = c.args.post.now in
    let a = account_in c.args.inputs.now in
    let seen = seen_in c.args.inputs.now x.slot.day in
    let row = row_in c.args.inputs.now (x.slot.day - opened_in c.args.inputs.now) in
    let n = c.get.result in
    let day = c.in-Return.day in
    let is : x.post ≡ post.Return day n = c.in-Return.is ∙ ap (λ t. post.Return day t) (sym c.get.ensures.value) in
    on-ok c.enter_return.result _ _ c.enter_return.ensures.stands
    (λ did first returned rows_by p b l cycles may e h.
    of-return row a seen first returned rows_by p x day n b c.enter_return.new.state c.enter_return.new.track e is
    (did first returned rows_by p b day cycles (may.paid n (subst (λ (q : Post). returns n q ≡ true) (sym is ∙ ap (λ (y : DayPost). y.post) e) (eq-eqb n n refl))) may.those
    (slot-is seen p x e refl) h))

pub returns-in_default : goal.returns-in_default
returns-in_default c =
    let x = c.args.post.now in
    let a = account_in c.args.inputs.now in
    let seen = seen_in c.args.inputs.now x.slot.day in
    let row = row_in c.args.inputs.now (x.slot.day - opened_in c.args.inputs.now) in
    record {
      stands = λ first returned rows_by p b l cycles may e h.
          of-kind row a seen first returned rows_by p x x.post b c.args.state.now c.args.track.now e refl (λ n. returns-none n x.post c.in_default.not-Return)
          (subst (λ (d : Book). StandWith a seen first returned rows_by d c.args.state.now c.args.track.now)
          (sym (nothing-done row a seen p x.post b c.requires.kind c.in_default.not-Charge c.in_default.not-Credit c.in_default.not-Payment c.in_default.not-Refund c.in_default.not-Return c.in_default.not-Dispute c.in_default.not-Resolve)) h);
      left = record { rest = record { segments = refl; rates = refl; accruals = refl; cycles = refl }; err = tt };
      room = room-same c.args.track.now;
      tally = c.requires.tally;
    }

pub returns-in-Dispute-clause-stands : goal.returns-in-Dispute-clause-stands
returns-in-Dispute-clause-stands c =
    let x = c.args.post.now in
    let a = account_in c.args.inputs.now in
    let seen = seen_in c.args.inputs.now x.slot.day in
    let row = row_in c.args.inputs.now (x.slot.day - opened_in c.args.inputs.now) in
    on-ok c.enter_dispute.result _ _ c.enter_dispute.ensures.stands
    (λ did first returned rows_by p b l cycles may e h.
    of-kind row a seen first returned rows_by p x _ b c.enter_dispute.new.state c.enter_dispute.new.track e c.in-Dispute.is (λ n. refl)
    (did c.in-Dispute.day row first returned rows_by p b (slot-is seen p x e refl) h))

pub enter_resolve-requires-clause-held : goal.enter_resolve-requires-clause-held
enter_resolve-requires-clause-held c =
    let target = c.in-Resolve.target in
    c.requires.held target (subst (λ (q : Post). resolves target q ≡ true) (sym c.in-Resolve.is) (eq-eqb target target refl))

pub returns-in-Resolve-clause-stands : goal.returns-in-Resolve-clause-stands
returns-in-Resolve-clause-stands c =
    let x = c.args.post.now in
    let a = account_in c.args.inputs.now in
    let seen = seen_in c.args.inputs.now x.slot.day in
    let row = row_in c.args.inputs.now (x.slot.day - opened_in c.args.inputs.now) in
    on-ok c.enter_resolve.result _ _ c.enter_resolve.ensures.stands
    (λ did first returned rows_by p b l cycles may e h.
    of-kind row a seen first returned rows_by p x _ b c.enter_resolve.new.state c.enter_resolve.new.track e c.in-Resolve.is (λ n. refl)
    (did c.in-Resolve.day c.in-Resolve.cents row first returned rows_by p b (slot-is seen p x e refl) h))
