use Rattle.card_fees.proofs.grace.purchase_case.Goals as goal

pub case_after-requires-clause-last : goal.case_after-requires-clause-last
case_after-requires-clause-last c = c.requires.last c.in-Some.c c.in-Some.is
