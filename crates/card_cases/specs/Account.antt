-- The account of the cases: it opens on 2024-01-06 and closes its cycles on the 5th.
use Rattle.card_events.specs.declared.post.Post.{Post}
use Rattle.card_events.specs.declared.post.Post.TheVariants as post

abbrev pub opening : Post
opening = post.Open 19728 (record { close = 5; purchase = 1999; cash = 2499; transfer = 2199; penalty = 2999; floor = 2500; pct = 100 })
