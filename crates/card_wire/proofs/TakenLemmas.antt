-- What a router of the six routes takes from a path.
use Rattle.std.proofs.Common.{◌≡◌, ℕ, zero, suc, ◌+◌, ◌-◌, ◌<◌, ◌≤◌, true, false, ltb, leb, List, [], ◌∷◌, ◌++◌, length, take, drop, get_or, Option, None, Some, option_and_then, option_map, codes, refl, ap, sym, ◌∙◌, subst, arith, append-nil, append_assoc}
use Rattle.std.proofs.lemmas.Bool.Decides.{nat_tests}
use Rattle.std.proofs.lemmas.List.{length-append, drop_at, take_at, get_or_at}
use Rattle.std.proofs.lemmas.Str.{IsCharBoundary-after_ascii, IsCharBoundary-before_ascii, IsUtf8-drop, IsUtf8-take}
use lib.Utf8.{encode}
use Rattle.std.specs.Prelude.{IsUtf8}
use Rattle.card_lines.specs.Forms.{number_of}
use Rattle.card_wire.specs.Routes.{account_of, below_account, behind_slash, numbered, of_account, alone, rooted, parts, route_of}
use Rattle.card_wire.specs.Taken.{account_pattern, placed_route, six_routes, posts_route, account_route, statement_route, cycle_route, entries_route, work_route}
use Rattle.card_wire.specs.declared.route.Route.TheVariants as route
use Rattle.card_wire.specs.declared.routes.Place.{Place}
use Rattle.card_wire.specs.declared.routes.Place.TheVariants as place
use Rattle.matchit.specs.Level.{IsText}
use Rattle.matchit.specs.Params.{AllText, after_token, part_of, walk, wild_from, wild_stop}
use Rattle.matchit.specs.Router.{RouteOf, rename, map_key}
use Rattle.matchit.specs.Rows.{RowsOf}
use Rattle.matchit.proofs.RenameLemmas.{first-rename}
use Rattle.std.specs.Option.{unwrap_or}
use Rattle.matchit.specs.Seek.{first, has_slash}
use Rattle.card_wire.proofs.RowLemmas.{six, segment_cut}
use Rattle.card_wire.proofs.RouteLemmas.{IsAt, at_is, IsPart, literal, all_low, parts_last, parts_cut}

-- ---- places in a path

pair_is : (a b c d : ℕ) → a ≡ c → b ≡ d → ◌≡◌ {A = ℕ × ℕ} (a, b) (c, d)
pair_is a b c d first second = ap (λ (x : ℕ). (x, b)) first ∙ ap (λ (y : ℕ). (c, y)) second

from_literal : (w t : List ℕ) (len token at : ℕ) → IsText w → at + length w ≤ len → wild_from (w ++ 256 ∷ t) len token at ≡ (token + length w, at + length w)
from_literal [] t len token at text fits = pair_is token at (token + 0) (at + 0) (omega arith) (omega arith)
from_literal (x ∷ w) t len token at text fits =
    let low : ltb x 256 ≡ true = grind (arith, nat_tests, text.0) in
    let on : ltb at len ≡ true = grind (arith, nat_tests, fits) in
    rw (low, on) (from_literal w t len (token + 1) (at + 1) text.1 (omega (arith, fits)) ∙ pair_is (token + 1 + length w) (at + 1 + length w) (token + suc (length w)) (at + suc (length w)) (omega arith) (omega arith))

part_is : (w a rest : List ℕ) (start stop : ℕ) → start ≡ length w → stop ≡ length w + length a → part_of (w ++ (a ++ rest)) start stop ≡ a
part_is w a rest start stop begins ends =
    let low : leb start stop ≡ true = grind (arith, nat_tests, begins, ends) in
    let all : length (w ++ (a ++ rest)) ≡ length w + (length a + length rest) = omega (arith, length-append w (a ++ rest), length-append a rest) in
    let high : leb stop (length (w ++ (a ++ rest))) ≡ true = grind (arith, nat_tests, ends, all) in
    let long : stop - start ≡ length a = omega (arith, begins, ends) in
    rw (low, high, long, begins) (ap (take (length a)) (drop_at w (a ++ rest) (length w) refl) ∙ take_at a rest (length a) refl)

-- one parameter more
walk_step : (pattern text path : List ℕ) (name : ℕ × ℕ) (names : List (ℕ × ℕ)) (token at : ℕ) (wild : ℕ × ℕ) → wild_from (drop token pattern) (length path) token at ≡ wild
    → walk pattern text path (name ∷ names) token at ≡ (part_of text name.0 name.1, part_of path wild.1 (wild_stop pattern wild.0 path wild.1)) ∷ walk pattern text path names (after_token wild.0) (wild_stop pattern wild.0 path wild.1)
walk_step pattern text path name names token at wild is =
    ap (λ (w : ℕ × ℕ). (part_of text name.0 name.1, part_of path w.1 (wild_stop pattern w.0 path w.1)) ∷ walk pattern text path names (after_token w.0) (wild_stop pattern w.0 path w.1)) is

-- the account
account_walk : (below text path : List ℕ) (name : ℕ × ℕ) (names : List (ℕ × ℕ)) → 10 ≤ length path
    → walk (account_pattern below) text path (name ∷ names) 0 0
    ≡ (part_of text name.0 name.1, part_of path 10 (wild_stop (account_pattern below) 10 path 10)) ∷ walk (account_pattern below) text path names 11 (wild_stop (account_pattern below) 10 path 10)
unfolding all_low
account_walk below text path name names long =
    walk_step (account_pattern below) text path name names 0 0 (10, 10) (from_literal (codes "/accounts/") below (length path) 0 0 (literal (codes "/accounts/") refl) long)

-- ---- text

utf8_behind : (w : List ℕ) (b : ℕ) (rest : List ℕ) → b < 128 → IsUtf8 (w ++ b ∷ rest) → IsUtf8 rest
utf8_behind w b rest low text =
    let long : length w < length (w ++ b ∷ rest) = omega (arith, length-append w (b ∷ rest)) in
    let here : get_or (w ++ b ∷ rest) (length w) 0 ≡ b = get_or_at w b rest 0 (length w) refl in
    let regroup : w ++ b ∷ rest ≡ (w ++ b ∷ []) ++ rest = sym (append_assoc w (b ∷ []) rest) in
    let more : length (w ++ b ∷ []) ≡ length w + 1 = length-append w (b ∷ []) in
    let behind : drop (length w + 1) (w ++ b ∷ rest) ≡ rest = ap (drop (length w + 1)) regroup ∙ drop_at (w ++ b ∷ []) rest (length w + 1) more in
    subst IsUtf8 behind (IsUtf8-drop (w ++ b ∷ rest) (length w + 1) text (IsCharBoundary-after_ascii (w ++ b ∷ rest) (length w) text long (omega (arith, here, low))))

utf8_before : (a : List ℕ) (b : ℕ) (rest : List ℕ) → b < 128 → IsUtf8 (a ++ b ∷ rest) → IsUtf8 a
utf8_before a b rest low text =
    let long : length a < length (a ++ b ∷ rest) = omega (arith, length-append a (b ∷ rest)) in
    let here : get_or (a ++ b ∷ rest) (length a) 0 ≡ b = get_or_at a b rest 0 (length a) refl in
    subst IsUtf8 (take_at a (b ∷ rest) (length a) refl) (IsUtf8-take (a ++ b ∷ rest) (length a) text (IsCharBoundary-before_ascii (a ++ b ∷ rest) (length a) long (omega (arith, here, low))))

account_name : IsUtf8 (codes "account")
unfolding encode
account_name = (codes "account", (refl, refl))

cycle_name : IsUtf8 (codes "cycle")
unfolding encode
cycle_name = (codes "cycle", (refl, refl))

-- ---- by route

-- the routes by their numbers
abbrev pub route_keyed : ℕ → RouteOf Place
route_keyed k = get_or (posts_route ∷ account_route ∷ statement_route ∷ cycle_route ∷ entries_route ∷ work_route ∷ []) k posts_route

pub rows_keyed : six_routes ≡ rename route_keyed six
rows_keyed = refl

abbrev pub pairs_of : RouteOf Place → List ℕ → List (List ℕ × List ℕ)
pairs_of r path = walk r.pattern r.text path r.names 0 0

-- what is taken is text, and gives the route
pub record Gives (r : RouteOf Place) (path : List ℕ) : Type 0 where
  pub text : AllText (pairs_of r path)
  pub route : placed_route r.value (pairs_of r path) ≡ route_of path

-- the pairs
account_pairs : (a : List ℕ) → pairs_of account_route (codes "/accounts/" ++ a) ≡ (codes "account", a) ∷ []
account_pairs a =
    let path = codes "/accounts/" ++ a in
    let long : length path ≡ 10 + length a = length-append (codes "/accounts/") a in
    let taken : part_of path 10 (length path) ≡ a = ap (λ (l : List ℕ). part_of (codes "/accounts/" ++ l) 10 (length path)) (sym (append-nil a)) ∙ part_is (codes "/accounts/") a [] 10 (length path) refl long in
    account_walk [] (codes "/accounts/{account}") path (11, 18) [] (omega (arith, long)) ∙ ap (λ (l : List ℕ). (codes "account", l) ∷ []) taken

-- where the account ends, with a slash behind it
account_stop : (below a rest : List ℕ) → has_slash a ≡ false → wild_stop (account_pattern (47 ∷ below)) 10 (codes "/accounts/" ++ (a ++ 47 ∷ rest)) 10 ≡ 10 + length a
account_stop below a rest none =
    let long : 11 < length (account_pattern (47 ∷ below)) = omega arith in
    let low : ltb 10 (length (account_pattern (47 ∷ below))) ≡ true = grind (arith, nat_tests, long) in
    let some : ltb 11 (length (account_pattern (47 ∷ below))) ≡ true = grind (arith, nat_tests, long) in
    rw (low, some, segment_cut a rest none) (omega (arith, length-append a (47 ∷ [])))

entries_pairs : (a : List ℕ) → IsPart a → pairs_of entries_route (codes "/accounts/" ++ (a ++ 47 ∷ codes "entries")) ≡ (codes "account", a) ∷ []
entries_pairs a part =
    let path = codes "/accounts/" ++ (a ++ 47 ∷ codes "entries") in
    let long : length path ≡ 10 + (length a + 8) = omega (arith, length-append (codes "/accounts/") (a ++ 47 ∷ codes "entries"), length-append a (47 ∷ codes "entries")) in
    let stop = account_stop (codes "entries") a (codes "entries") part.none in
    let taken : part_of path 10 (wild_stop entries_route.pattern 10 path 10) ≡ a = ap (part_of path 10) stop ∙ part_is (codes "/accounts/") a (47 ∷ codes "entries") 10 (10 + length a) refl refl in
    account_walk (codes "/entries") entries_route.text path (11, 18) [] (omega (arith, long)) ∙ ap (λ (l : List ℕ). (codes "account", l) ∷ []) taken

-- the last part
last_part : (a below c : List ℕ) (at stop : ℕ) → at ≡ 10 + length a + length below → stop ≡ at + length c → part_of (codes "/accounts/" ++ (a ++ (below ++ c))) at stop ≡ c
last_part a below c at stop begins ends =
    let regroup : codes "/accounts/" ++ (a ++ (below ++ c)) ≡ (codes "/accounts/" ++ (a ++ below)) ++ (c ++ []) =
    ap (λ (l : List ℕ). codes "/accounts/" ++ l) (sym (append_assoc a below c) ∙ ap (λ (l : List ℕ). (a ++ below) ++ l) (sym (append-nil c))) in
    let long : length (codes "/accounts/" ++ (a ++ below)) ≡ 10 + length a + length below = omega (arith, length-append a below) in
    ap (λ (l : List ℕ). part_of l at stop) regroup ∙ part_is (codes "/accounts/" ++ (a ++ below)) c [] at stop (omega (arith, begins, long)) (omega (arith, begins, ends, long))

statement_pairs : (a c : List ℕ) → IsPart a → pairs_of statement_route (codes "/accounts/" ++ (a ++ (codes "/statements/" ++ c))) ≡ (codes "account", a) ∷ (codes "cycle", c) ∷ []
unfolding all_low
statement_pairs a c part =
    let path = codes "/accounts/" ++ (a ++ (codes "/statements/" ++ c)) in
    let pattern = statement_route.pattern in
    let long : length path ≡ 10 + length a + 12 + length c = omega (arith, length-append a (codes "/statements/" ++ c)) in
    let stop = account_stop (codes "statements/" ++ 256 ∷ []) a (codes "statements/" ++ c) part.none in
    let account : part_of path 10 (10 + length a) ≡ a = part_is (codes "/accounts/") a (codes "/statements/" ++ c) 10 (10 + length a) refl refl in
    let second = walk_step pattern statement_route.text path (32, 37) [] 11 (10 + length a) (23, 10 + length a + 12) (from_literal (codes "/statements/") [] (length path) 11 (10 + length a) (literal (codes "/statements/") refl) (omega (arith, long))) in
    let cycle : part_of path (10 + length a + 12) (length path) ≡ c = last_part a (codes "/statements/") c (10 + length a + 12) (length path) refl long in
    account_walk (codes "/statements/" ++ 256 ∷ []) statement_route.text path (11, 18) ((32, 37) ∷ []) (omega (arith, long))
    ∙ ap (λ (n : ℕ). (codes "account", part_of path 10 n) ∷ walk pattern statement_route.text path ((32, 37) ∷ []) 11 n) stop
    ∙ ap (λ (l : List ℕ). (codes "account", l) ∷ walk pattern statement_route.text path ((32, 37) ∷ []) 11 (10 + length a)) account
    ∙ ap (λ (l : List (List ℕ × List ℕ)). (codes "account", a) ∷ l) second
    ∙ ap (λ (l : List ℕ). (codes "account", a) ∷ (codes "cycle", l) ∷ []) cycle

cycle_pairs : (a c : List ℕ) → IsPart a → pairs_of cycle_route (codes "/accounts/" ++ (a ++ (codes "/cycles/" ++ c))) ≡ (codes "account", a) ∷ (codes "cycle", c) ∷ []
unfolding all_low
cycle_pairs a c part =
    let path = codes "/accounts/" ++ (a ++ (codes "/cycles/" ++ c)) in
    let pattern = cycle_route.pattern in
    let long : length path ≡ 10 + length a + 8 + length c = omega (arith, length-append a (codes "/cycles/" ++ c)) in
    let stop = account_stop (codes "cycles/" ++ 256 ∷ []) a (codes "cycles/" ++ c) part.none in
    let account : part_of path 10 (10 + length a) ≡ a = part_is (codes "/accounts/") a (codes "/cycles/" ++ c) 10 (10 + length a) refl refl in
    let second = walk_step pattern cycle_route.text path (28, 33) [] 11 (10 + length a) (19, 10 + length a + 8) (from_literal (codes "/cycles/") [] (length path) 11 (10 + length a) (literal (codes "/cycles/") refl) (omega (arith, long))) in
    let cycle : part_of path (10 + length a + 8) (length path) ≡ c = last_part a (codes "/cycles/") c (10 + length a + 8) (length path) refl long in
    account_walk (codes "/cycles/" ++ 256 ∷ []) cycle_route.text path (11, 18) ((28, 33) ∷ []) (omega (arith, long))
    ∙ ap (λ (n : ℕ). (codes "account", part_of path 10 n) ∷ walk pattern cycle_route.text path ((28, 33) ∷ []) 11 n) stop
    ∙ ap (λ (l : List ℕ). (codes "account", l) ∷ walk pattern cycle_route.text path ((28, 33) ∷ []) 11 (10 + length a)) account
    ∙ ap (λ (l : List (List ℕ × List ℕ)). (codes "account", a) ∷ l) second
    ∙ ap (λ (l : List ℕ). (codes "account", a) ∷ (codes "cycle", l) ∷ []) cycle

-- ---- what they give

-- behind `accounts`
route_behind : (a : List ℕ) (others : List (List ℕ)) (path : List ℕ) → parts path ≡ [] ∷ codes "accounts" ∷ a ∷ others → route_of path ≡ option_and_then (below_account others) (account_of a)
unfolding rooted behind_slash of_account
route_behind a others path is = ap rooted is

gives_account : (a : List ℕ) → IsPart a → IsUtf8 (codes "/accounts/" ++ a) → Gives account_route (codes "/accounts/" ++ a)
unfolding below_account
gives_account a part text = record {
  text = subst AllText (sym (account_pairs a)) (account_name, utf8_behind (codes "/accounts") 47 a (omega arith) text, tt);
  route = ap (placed_route place.Account) (account_pairs a) ∙ by (account_of a) ∙ sym (route_behind a [] (codes "/accounts/" ++ a) (ap (λ (ps : List (List ℕ)). [] ∷ codes "accounts" ∷ ps) (parts_last a part.none)));
}
  where
    by : (o : Option (List ℕ)) → option_map route.Account o ≡ option_and_then (below_account []) o
    by None = refl
    by (Some account) = refl

gives_entries : (a : List ℕ) → IsPart a → IsUtf8 (codes "/accounts/" ++ (a ++ 47 ∷ codes "entries")) → Gives entries_route (codes "/accounts/" ++ (a ++ 47 ∷ codes "entries"))
unfolding below_account
gives_entries a part text = record {
  text = subst AllText (sym (entries_pairs a part)) (account_name, utf8_before a 47 (codes "entries") (omega arith) (utf8_behind (codes "/accounts") 47 (a ++ 47 ∷ codes "entries") (omega arith) text), tt);
  route = ap (placed_route place.Entries) (entries_pairs a part) ∙ by (account_of a) ∙ sym (route_behind a (codes "entries" ∷ []) (codes "/accounts/" ++ (a ++ 47 ∷ codes "entries")) (ap (λ (ps : List (List ℕ)). [] ∷ codes "accounts" ∷ ps) (parts_cut a (codes "entries") part.none)));
}
  where
    by : (o : Option (List ℕ)) → option_map route.Entries o ≡ option_and_then (below_account (codes "entries" ∷ [])) o
    by None = refl
    by (Some account) = refl

-- what is behind the account is text
below_text : (a below c : List ℕ) → IsUtf8 (codes "/accounts/" ++ (a ++ 47 ∷ (below ++ 47 ∷ c))) → IsUtf8 a × IsUtf8 c
below_text a below c text =
    let behind : IsUtf8 (a ++ 47 ∷ (below ++ 47 ∷ c)) = utf8_behind (codes "/accounts") 47 (a ++ 47 ∷ (below ++ 47 ∷ c)) (omega arith) text in
    (utf8_before a 47 (below ++ 47 ∷ c) (omega arith) behind, utf8_behind below 47 c (omega arith) (utf8_behind a 47 (below ++ 47 ∷ c) (omega arith) behind))

gives_statement : (a c : List ℕ) → IsPart a → IsPart c → IsUtf8 (codes "/accounts/" ++ (a ++ (codes "/statements/" ++ c))) → Gives statement_route (codes "/accounts/" ++ (a ++ (codes "/statements/" ++ c)))
unfolding below_account numbered
gives_statement a c part number text =
    let both = below_text a (codes "statements") c text in record {
      text = subst AllText (sym (statement_pairs a c part)) (account_name, both.0, (cycle_name, both.1, tt));
      route = ap (placed_route place.Statement) (statement_pairs a c part) ∙ by (account_of a) (number_of c)
          ∙ sym (route_behind a (codes "statements" ∷ c ∷ []) (codes "/accounts/" ++ (a ++ (codes "/statements/" ++ c))) (ap (λ (ps : List (List ℕ)). [] ∷ codes "accounts" ∷ ps) (parts_cut a (codes "statements/" ++ c) part.none ∙ ap (λ (ps : List (List ℕ)). a ∷ codes "statements" ∷ ps) (parts_last c number.none))));
    }
  where
    by : (o : Option (List ℕ)) (n : Option ℕ) → option_and_then (λ account. option_map (route.Statement account) n) o ≡ option_and_then (λ account. option_and_then (numbered (codes "statements") account) n) o
    by None n = refl
    by (Some account) None = refl
    by (Some account) (Some n) = refl

gives_cycle : (a c : List ℕ) → IsPart a → IsPart c → IsUtf8 (codes "/accounts/" ++ (a ++ (codes "/cycles/" ++ c))) → Gives cycle_route (codes "/accounts/" ++ (a ++ (codes "/cycles/" ++ c)))
unfolding below_account numbered
gives_cycle a c part number text =
    let both = below_text a (codes "cycles") c text in record {
      text = subst AllText (sym (cycle_pairs a c part)) (account_name, both.0, (cycle_name, both.1, tt));
      route = ap (placed_route place.Cycle) (cycle_pairs a c part) ∙ by (account_of a) (number_of c)
          ∙ sym (route_behind a (codes "cycles" ∷ c ∷ []) (codes "/accounts/" ++ (a ++ (codes "/cycles/" ++ c))) (ap (λ (ps : List (List ℕ)). [] ∷ codes "accounts" ∷ ps) (parts_cut a (codes "cycles/" ++ c) part.none ∙ ap (λ (ps : List (List ℕ)). a ∷ codes "cycles" ∷ ps) (parts_last c number.none))));
    }
  where
    by : (o : Option (List ℕ)) (n : Option ℕ) → option_and_then (λ account. option_map (route.Cycle account) n) o ≡ option_and_then (λ account. option_and_then (numbered (codes "cycles") account) n) o
    by None n = refl
    by (Some account) None = refl
    by (Some account) (Some n) = refl

-- ---- what a router finds

gives : (path : List ℕ) → IsUtf8 path → (k : ℕ) → IsAt (Some k) path → Gives (route_keyed k) path
unfolding rooted behind_slash alone
gives path text zero at = subst (Gives posts_route) (sym at) (record { text = tt; route = refl })
gives path text (suc zero) at = subst (Gives account_route) (sym at.2) (gives_account at.0 at.1 (subst IsUtf8 at.2 text))
gives path text (suc (suc zero)) at = subst (Gives statement_route) (sym at.4) (gives_statement at.0 at.1 at.2 at.3 (subst IsUtf8 at.4 text))
gives path text (suc (suc (suc zero))) at = subst (Gives cycle_route) (sym at.4) (gives_cycle at.0 at.1 at.2 at.3 (subst IsUtf8 at.4 text))
gives path text (suc (suc (suc (suc zero)))) at = subst (Gives entries_route) (sym at.2) (gives_entries at.0 at.1 (subst IsUtf8 at.2 text))
gives path text (suc (suc (suc (suc (suc zero))))) at = subst (Gives work_route) (sym at) (record { text = tt; route = refl })
gives path text (suc (suc (suc (suc (suc (suc k)))))) at = absurd at

keyed : (path : List ℕ) → first six_routes path ≡ map_key route_keyed (first six path)
keyed path = ap (λ (rows : RowsOf (RouteOf Place)). first rows path) rows_keyed ∙ first-rename route_keyed six path

-- the bytes of a path
pub text_of : (path : List ℕ) → ((i : ℕ) → get_or path i 0 < 256) → IsText path
text_of [] low = tt
text_of (b ∷ bs) low = (low 0, text_of bs (λ i. low (suc i)))

pub found_gives : (path : List ℕ) → IsText path → IsUtf8 path → (r : RouteOf Place) → first six_routes path ≡ Some r → Gives r path
found_gives path bytes text r found = by (first six path) (at_is path bytes) (sym (keyed path) ∙ found)
  where
    by : (o : Option ℕ) → IsAt o path → map_key route_keyed o ≡ Some r → Gives r path
    by None at e = absurd (cc e)
    by (Some k) at e = subst (λ (x : RouteOf Place). Gives x path) (ap (λ (x : Option (RouteOf Place)). unwrap_or x r) e) (gives path text k at)

pub missing_none : (path : List ℕ) → IsText path → first six_routes path ≡ None → route_of path ≡ None
missing_none path bytes found = by (first six path) (at_is path bytes) (sym (keyed path) ∙ found)
  where
    by : (o : Option ℕ) → IsAt o path → map_key route_keyed o ≡ None → route_of path ≡ None
    by None at e = at
    by (Some k) at e = absurd (cc e)
