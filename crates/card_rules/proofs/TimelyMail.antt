-- Mail of the next business day is credited as of the due date.
use Rattle.std.proofs.Common.{◌≡◌, ℕ, true, List, ◌∙◌, arith}
use Rattle.std.proofs.lemmas.List.Elements.{All-contains}
use Rattle.card_events.proofs.Business.{next_business-later}
use Rattle.card_events.proofs.Cycles.{IsAnchor}
use Rattle.card_events.proofs.MailLaws.{mail_met}
use Rattle.card_events.specs.Billing.{due}
use Rattle.card_events.specs.Business.{IsGreatestMet, mail_day}
use Rattle.card_events.specs.History.{amended_day, anchor_of, corrected, last_amend}
use Rattle.card_events.specs.declared.anchor.Anchor.{Anchor}
use Rattle.card_events.specs.declared.anchor.Channel.TheVariants as channel
use Rattle.card_fees.proofs.Payments.{Stands, all-stand}
use Rattle.card_model.specs.CycleDays.{IsOpening}
use Rattle.card_rules.proofs.Credited.{credited-on, timely-credit}
use Rattle.card_rules.specs.TimelyMail.{IsNextBusinessDay, MailOfTheNextBusinessDayIsTimely}

an-anchor : (a : Anchor) → IsOpening a → IsAnchor a
an-anchor a o = let c = o.close_day in record { first = o.first; last = o.last; low = c.0; high = c.1 }

-- the greatest due date that it meets is the last one
is-last : (a : Anchor) (holidays : List ℕ) (receipt k d : ℕ) → IsGreatestMet a holidays receipt d → IsNextBusinessDay a holidays receipt k → d ≡ due a k
is-last a holidays receipt k d g n =
    let is = g.is in
    let first = g.met.first in
    let later = next_business-later holidays d in
    let low = n.last g.cycle g.numbered (omega (arith, is, first, later)) in
    let high = g.greatest k n.numbered n.met in
    omega (arith, is, low, high)

pub mail_of_the_next_business_day_is_timely : MailOfTheNextBusinessDayIsTimely
mail_of_the_next_business_day_is_timely history holidays p day minute cents k o h c e l low high n =
    let a = anchor_of history in
    let receipt = amended_day (last_amend p.number history) day in
    let posts = corrected a holidays history in
    let all = all-stand a holidays history in
    let on = credited-on a holidays history p channel.Mail day minute cents (All-contains (Stands a holidays history) posts p all c) e in
    let timely = timely-credit a holidays receipt minute true l in
    let greatest = mail_met a (an-anchor a o) holidays receipt k h low high n.numbered n.met in
    on ∙ (timely ∙ is-last a holidays receipt k (mail_day a holidays receipt) greatest n)
