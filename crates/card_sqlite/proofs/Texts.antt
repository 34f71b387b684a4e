-- What the three statements are, where the schema is none or that of `kept`.
use Rattle.std.proofs.Common.{◌≡◌, pos, negsuc, List, [], ◌∷◌, codes, false, None, Ok, refl}
use Rattle.sqlite_value.specs.declared.value.Value.TheVariants.{Null, Int}
use Rattle.sqlite_value.specs.declared.keys.Collation.TheVariants.{Binary}
use Rattle.sqlite_value.specs.Keys.{ascending}
use Rattle.sqlite_sql.specs.Term.{Term, lit, col}
use Rattle.sqlite_sql.specs.Query.{Query, inner, end}
use Rattle.sqlite_schema.specs.declared.command.Source.TheVariants.{Values}
use Rattle.sqlite_schema.specs.declared.command.Command.TheVariants.{Insert, Select, CreateTable, Nothing}
use Rattle.sqlite_resolve.specs.Compile.{table_defined_by}
use Rattle.sqlite_tied.specs.Compute.{everything}
use Rattle.sqlite.specs.Listing.{understood, reads_listing}
use Rattle.sqlite.proofs.Callers.{IsPlain, command_of, statement_of}
use Rattle.card_sqlite.specs.Kept.{kept, no_schema, kept_schema, create_text, select_text, insert_text}

pub create_missing : (command_of (understood no_schema create_text) ≡ CreateTable) × (statement_of create_text (understood no_schema create_text) ≡ create_text) × (table_defined_by create_text ≡ Ok kept)
unfolding understood everything
create_missing = (refl, refl, refl)

pub create_there : command_of (understood kept_schema create_text) ≡ Nothing
unfolding understood everything
create_there = refl

abbrev pub terms : List Term
terms = col 0 0 ∷ lit Null ∷ col 0 1 ∷ []

pub insert_is : command_of (understood kept_schema insert_text) ≡ Insert 0 (Values terms 3)
unfolding understood everything
insert_is = refl

abbrev pub query : Query
query = record {
  from = inner 0 end;
  filter = [];
  group = None;
  project = col 1 0 ∷ col 1 2 ∷ [];
  distinct = false;
  collations = [];
  order = (col 1 0, ascending Binary) ∷ [];
  limit = lit (Int (negsuc 0));
  offset = lit (Int (pos 0));
}

pub select_is : (command_of (understood kept_schema select_text) ≡ Select (record { lets = []; body = query }) (codes "seq" ∷ codes "body" ∷ [])) × (reads_listing kept_schema select_text ≡ false)
unfolding understood everything
select_is = (refl, refl)

pub create_plain : IsPlain (understood no_schema create_text)
unfolding understood everything
create_plain = (refl, refl)

pub create_there_plain : IsPlain (understood kept_schema create_text)
unfolding understood everything
create_there_plain = (refl, refl)

pub insert_plain : IsPlain (understood kept_schema insert_text)
unfolding understood everything
insert_plain = (refl, refl)

pub select_plain : IsPlain (understood kept_schema select_text)
unfolding understood everything
select_plain = (refl, refl)
