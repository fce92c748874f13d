-- What the statements' texts mean.
use Rattle.std.proofs.Common.{◌≡◌, pos, negsuc, List, [], ◌∷◌, codes, false, None, Ok, refl}
use Rattle.sqlite.specs.declared.types.Value.TheVariants.{Null, Int}
use Rattle.sqlite_value.specs.Keys.{ascending}
use Rattle.sqlite.specs.Term.{Term, lit, col, op2}
use Rattle.sqlite_sql.specs.declared.ops.BinaryOp.TheVariants.{Compare}
use Rattle.sqlite_sql.specs.declared.ops.CompareOp.TheVariants.{Eq}
use Rattle.sqlite.specs.Collation.TheVariants.{Binary}
use Rattle.sqlite.specs.Query.{Query, inner, end}
use Rattle.sqlite.specs.Command.TheVariants.{Insert, Update, Delete, Select, CreateTable, Begin, Commit, Rollback}
use Rattle.sqlite.specs.Compile.{table_defined_by}
use Rattle.sqlite.specs.Source.TheVariants.{Values}
use Rattle.sqlite_tied.specs.Compute.{everything}
use Rattle.sqlite.specs.Listing.{understood, reads_listing}
use Rattle.sqlite.specs.Change.{created}
use Rattle.sqlite.proofs.Callers.{IsPlain, command_of, statement_of}
use Rattle.hib_sqlite_rows.specs.Texts.{create_text, read_text, list_text, insert_text, update_text, delete_text, begin_text, commit_text, rollback_text}
use Rattle.hib_sqlite_rows.specs.Stored.{kept, kept_schema, no_schema}

abbrev pub query_of : List Term → List Term → Query
query_of filter project = record {
  from = inner 0 end;
  filter = filter;
  group = None;
  project = project;
  distinct = false;
  collations = [];
  order = [];
  limit = lit (Int (negsuc 0));
  offset = lit (Int (pos 0));
}

abbrev pub has_entity : Term
has_entity = op2 (Compare Eq Binary) (col 1 1) (col 0 0)

abbrev pub has_id : Term
has_id = op2 (Compare Eq Binary) (col 1 2) (col 0 1)

abbrev pub read_query : Query
read_query = query_of (has_entity ∷ has_id ∷ []) (col 1 3 ∷ col 1 4 ∷ [])

abbrev pub list_query : Query
list_query = record (query_of (has_entity ∷ []) (col 1 2 ∷ col 1 3 ∷ col 1 4 ∷ [])) { order = (col 1 2, ascending Binary) ∷ [] }

abbrev pub update_query : Query
update_query = query_of (has_entity ∷ has_id ∷ []) (col 1 0 ∷ col 1 0 ∷ col 1 1 ∷ col 1 2 ∷ col 0 2 ∷ col 0 3 ∷ [])

abbrev pub delete_query : Query
delete_query = query_of (has_entity ∷ has_id ∷ []) (col 1 0 ∷ [])

abbrev pub terms : List Term
terms = lit Null ∷ col 0 0 ∷ col 0 1 ∷ col 0 2 ∷ col 0 3 ∷ []

pub create_is : (command_of (understood no_schema create_text) ≡ CreateTable) × (statement_of create_text (understood no_schema create_text) ≡ create_text) × (table_defined_by create_text ≡ Ok kept)
unfolding understood everything
create_is = (refl, refl, refl)

pub created_is : created no_schema kept ≡ kept_schema
created_is = refl

pub create_plain : IsPlain (understood no_schema create_text)
unfolding understood everything
create_plain = (refl, refl)

pub read_is : command_of (understood kept_schema read_text) ≡ Select (record { lets = []; body = read_query }) (codes "version" ∷ codes "body" ∷ [])
unfolding understood everything
read_is = refl

pub read_plain : IsPlain (understood kept_schema read_text)
unfolding understood everything
read_plain = (refl, refl)

pub read_unlisted : reads_listing kept_schema read_text ≡ false
unfolding understood everything
read_unlisted = refl

pub list_is : command_of (understood kept_schema list_text) ≡ Select (record { lets = []; body = list_query }) (codes "id" ∷ codes "version" ∷ codes "body" ∷ [])
unfolding understood everything
list_is = refl

pub list_plain : IsPlain (understood kept_schema list_text)
unfolding understood everything
list_plain = (refl, refl)

pub list_unlisted : reads_listing kept_schema list_text ≡ false
unfolding understood everything
list_unlisted = refl

pub insert_is : command_of (understood kept_schema insert_text) ≡ Insert 0 (Values terms 5)
unfolding understood everything
insert_is = refl

pub insert_plain : IsPlain (understood kept_schema insert_text)
unfolding understood everything
insert_plain = (refl, refl)

pub update_is : command_of (understood kept_schema update_text) ≡ Update 0 (record { lets = []; body = update_query })
unfolding understood everything
update_is = refl

pub update_plain : IsPlain (understood kept_schema update_text)
unfolding understood everything
update_plain = (refl, refl)

pub delete_is : command_of (understood kept_schema delete_text) ≡ Delete 0 (record { lets = []; body = delete_query })
unfolding understood everything
delete_is = refl

pub delete_plain : IsPlain (understood kept_schema delete_text)
unfolding understood everything
delete_plain = (refl, refl)

pub begin_is : command_of (understood kept_schema begin_text) ≡ Begin
unfolding understood everything
begin_is = refl

pub begin_plain : IsPlain (understood kept_schema begin_text)
unfolding understood everything
begin_plain = (refl, refl)

pub commit_is : command_of (understood kept_schema commit_text) ≡ Commit
unfolding understood everything
commit_is = refl

pub commit_plain : IsPlain (understood kept_schema commit_text)
unfolding understood everything
commit_plain = (refl, refl)

pub rollback_is : command_of (understood kept_schema rollback_text) ≡ Rollback
unfolding understood everything
rollback_is = refl

pub rollback_plain : IsPlain (understood kept_schema rollback_text)
unfolding understood everything
rollback_plain = (refl, refl)
