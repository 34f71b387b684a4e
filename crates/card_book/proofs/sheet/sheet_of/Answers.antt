use Rattle.card_book.proofs.Sheets.{day-of, stands-of}
use Rattle.card_book.proofs.sheet.sheet_of.Goals as goal

pub sheet_in-requires : goal.sheet_in-requires
sheet_in-requires c =
    let g = c.args.inputs.now in
    let cycle = c.args.cycle.now in
    record { stands = stands-of g cycle c.requires.closed; dated = day-of g cycle c.anchor-anchor.ensures.sound c.requires.closed; folded = c.requires.folded }
