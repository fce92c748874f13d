-- The texts of the statements.
use Rattle.std.specs.Prelude.{ℕ, List, codes}

abbrev pub create_text : List ℕ
create_text = codes "CREATE TABLE IF NOT EXISTS hib_rows (entity INTEGER NOT NULL, id INTEGER NOT NULL, version INTEGER, body BLOB NOT NULL, PRIMARY KEY (entity, id)) STRICT"

abbrev pub read_text : List ℕ
read_text = codes "SELECT version, body FROM hib_rows WHERE entity = ?1 AND id = ?2"

abbrev pub list_text : List ℕ
list_text = codes "SELECT id, version, body FROM hib_rows WHERE entity = ?1 ORDER BY id"

abbrev pub insert_text : List ℕ
insert_text = codes "INSERT INTO hib_rows (entity, id, version, body) VALUES (?1, ?2, ?3, ?4)"

abbrev pub update_text : List ℕ
update_text = codes "UPDATE hib_rows SET version = ?3, body = ?4 WHERE entity = ?1 AND id = ?2"

abbrev pub delete_text : List ℕ
delete_text = codes "DELETE FROM hib_rows WHERE entity = ?1 AND id = ?2"

abbrev pub begin_text : List ℕ
begin_text = codes "BEGIN"

abbrev pub commit_text : List ℕ
commit_text = codes "COMMIT"

abbrev pub rollback_text : List ℕ
rollback_text = codes "ROLLBACK"
