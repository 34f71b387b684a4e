-- Where amounts lie. No public clause cites this module.
use Rattle.card_model.specs.Cycles.{Amounts}
use Rattle.card_closing.specs.declared.amounts.Places.{Places}
use Rattle.card_closing.specs.declared.amounts.Places.TheVariants.{Few, Many}

-- the amounts that lie there
abbrev pub listed : Places → Amounts
listed (Few few) = few
listed (Many many) = many.items
