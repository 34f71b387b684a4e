use Rattle.std.proofs.Common.{◌≡◌, ℕ, ◌<◌, ◌^◌, List, length, ap, sym, ◌∙◌, subst}
use Rattle.std.specs.List.{All}
use Rattle.card_account.proofs.Few.{entries_few, today_small}
use Rattle.card_account.specs.Entries.{AreSmallEntries}
use Rattle.card_model.specs.Books.{Book}
use Rattle.card_model.specs.Refusals.{book_today}
use Rattle.card_model.specs.declared.entry.Entry.{Entry}
use Rattle.card_account.proofs.entry_list.entries_today.Goals as goal

pub invariant_of-result : goal.invariant_of-result
invariant_of-result c =
    let now = c.args.now.now in
    let entries = c.in_ok-from_slice.field-0.items in
    let listed : entries ≡ c.args.folded.now.book.entries = c.in_ok-from_slice.ensures.items ∙ c.entries.ensures in
    let book : entries ≡ (book_today now).entries = listed ∙ ap (λ (b : Book). b.entries) c.requires.book in
    let on = subst (λ (l : List Entry). All (λ e. e.segment < length c.args.folded.now.segments) l) (sym listed) c.segments.ensures.entries in
    record {
      placed = subst (λ (n : ℕ). All (λ (e : Entry). e.segment < n) entries) (sym (ap length c.in_ok-segments.ensures.segments)) on;
      few = subst (λ (l : List Entry). length l < 2 ^ 32) (sym book) (entries_few now c.anchor-opening.ensures.sound c.today-last.ensures.reached);
      small = subst AreSmallEntries (sym book) (today_small now c.anchor-opening.ensures.sound c.today-last.ensures.reached);
    }
