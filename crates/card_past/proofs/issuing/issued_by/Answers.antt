use Rattle.card_past.proofs.issuing.issued_by.Goals as goal

pub row_of-requires-clause-small : goal.row_of-requires-clause-small
row_of-requires-clause-small c = c.requires.small c.in-Bill.cycle c.in-Bill.is
