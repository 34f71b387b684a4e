-- What a run takes, one after the other.
use Rattle.std.specs.Prelude.{◌≡◌, true}
use Rattle.card_events.specs.Dated.{is_dated}
use Rattle.card_text.specs.declared.item.Item.{Item}
use Rattle.card_text.specs.declared.item.Item.TheVariants as item

-- every day of the item's request is a day of requests
abbrev pub IsDatedItem : Item → Type 0
IsDatedItem (item.Request r) = is_dated r ≡ true
IsDatedItem (item.Show account) = Unit {0}
IsDatedItem (item.Bad number field) = Unit {0}
