-- The act that bytes look like, on the part whose word is given. Every function here is total.
use Rattle.std.specs.Prelude.{ℕ, if◌then◌else◌, List, length, codes, bytes_eq, drop}
use Rattle.hib_journal.specs.Types.{Change, Act, Script}
use Rattle.hib_entry_fields.specs.Fields.{piece, behind, next, after, number_of, version_of, query_of, session_of, key_at, after_key, names_from, cells_at, row_at, after_row, sets_from}

-- the tables after a word
abbrev pub tables_of : Script → List ℕ → List ℕ
tables_of script bs = names_from script (length bs) bs

-- the number after a key and a label
abbrev pub marked : List ℕ → ℕ
marked bs = number_of (next (after (after_key bs)))

-- ---- registry

abbrev pub registry_act : Script → List ℕ → List ℕ → Act
registry_act script word bs =
    if bytes_eq word (codes "end") then Act.End
    else (if bytes_eq word (codes "kill") then Act.Kill (session_of script (next bs))
    else (if bytes_eq word (codes "restart") then Act.Restart else Act.Begin))

-- ---- own

abbrev pub persist_of : Script → List ℕ → Act
persist_of script bs = Act.Persist (key_at script bs) (row_at (after_key bs))

abbrev pub set_of : Script → List ℕ → Act
set_of script bs = Act.Set (key_at script bs) (sets_from script (key_at script bs).entity (length (after_key bs)) (after_key bs))

abbrev pub own_act : Script → List ℕ → List ℕ → Act
own_act script word bs =
    if bytes_eq word (codes "find") then Act.Find (key_at script bs)
    else (if bytes_eq word (codes "persist") then persist_of script bs
    else (if bytes_eq word (codes "set") then set_of script bs
    else (if bytes_eq word (codes "remove") then Act.Remove (key_at script bs) else Act.Clear)))

-- ---- store

abbrev pub insert_of : Script → List ℕ → Act
insert_of script bs = Act.Write (Change.Insert (key_at script bs) (row_at (after_key bs)))

abbrev pub update_of : Script → List ℕ → Act
update_of script bs = Act.Write (Change.Update (key_at script bs) (version_of (next (after_key bs))) (row_at (after (after_key bs))))

abbrev pub delete_of : Script → List ℕ → Act
delete_of script bs = Act.Write (Change.Delete (key_at script bs) (version_of (next (after_key bs))))

abbrev pub store_act : Script → List ℕ → List ℕ → Act
store_act script word bs =
    if bytes_eq word (codes "load") then Act.Load (key_at script bs)
    else (if bytes_eq word (codes "list") then Act.List (query_of script (next bs))
    else (if bytes_eq word (codes "insert") then insert_of script bs
    else (if bytes_eq word (codes "update") then update_of script bs
    else (if bytes_eq word (codes "delete") then delete_of script bs
    else (if bytes_eq word (codes "commit") then Act.Commit else Act.Rollback)))))

-- ---- stamps and results

abbrev pub check_of : Script → List ℕ → Act
check_of script bs = Act.Check (query_of script (next bs)) (number_of (next (after (after bs))))

abbrev pub stamps_act : Script → List ℕ → List ℕ → Act
stamps_act script word bs =
    if bytes_eq word (codes "pre") then Act.Pre (tables_of script bs)
    else (if bytes_eq word (codes "stamp") then Act.Stamp (tables_of script bs) else check_of script bs)

abbrev pub keep_of : Script → List ℕ → Act
keep_of script bs = Act.Keep (query_of script (next bs)) (number_of (next (after (after bs)))) (cells_at (drop 1 (after (after (after bs))))).0

abbrev pub results_act : Script → List ℕ → List ℕ → Act
results_act script word bs = if bytes_eq word (codes "look") then Act.Look (query_of script (next bs)) else keep_of script bs

-- ---- region

abbrev pub get_of : Script → List ℕ → Act
get_of script bs = Act.Get (key_at script bs) (marked bs)

abbrev pub put_of : Script → List ℕ → Act
put_of script bs =
    Act.Put (key_at script bs) (row_at (after_key bs)) (number_of (next (after (after_row (after_key bs)))))
    (number_of (next (after (after (after (after_row (after_key bs)))))))

abbrev pub lock_of : Script → List ℕ → Act
lock_of script bs = Act.Lock (key_at script bs) (version_of (next (after_key bs))) (number_of (next (after (after (after_key bs)))))

abbrev pub unlock_of : Script → List ℕ → Act
unlock_of script bs = Act.Unlock (key_at script bs) (marked bs)

abbrev pub after_insert_of : Script → List ℕ → Act
after_insert_of script bs = Act.AfterInsert (key_at script bs) (row_at (after_key bs)) (number_of (next (after (after_row (after_key bs)))))

abbrev pub after_update_of : Script → List ℕ → Act
after_update_of script bs = Act.AfterUpdate (key_at script bs) (marked bs) (row_at (after (after (after_key bs))))

abbrev pub region_act : Script → List ℕ → List ℕ → Act
region_act script word bs =
    if bytes_eq word (codes "get") then get_of script bs
    else (if bytes_eq word (codes "put") then put_of script bs
    else (if bytes_eq word (codes "lock") then lock_of script bs
    else (if bytes_eq word (codes "unlock") then unlock_of script bs
    else (if bytes_eq word (codes "after-insert") then after_insert_of script bs
    else (if bytes_eq word (codes "after-update") then after_update_of script bs
    else (if bytes_eq word (codes "remove") then Act.RegionRemove (key_at script bs) else Act.Evict (key_at script bs)))))))

-- ---- any part

abbrev pub act_by : Script → List ℕ → List ℕ → List ℕ → Act
act_by script part word bs =
    if bytes_eq part (codes "own") then own_act script word bs
    else (if bytes_eq part (codes "store") then store_act script word bs
    else (if bytes_eq part (codes "stamps") then stamps_act script word bs
    else (if bytes_eq part (codes "results") then results_act script word bs
    else (if bytes_eq part (codes "region") then region_act script word bs else registry_act script word bs))))

unfoldable pub act_of : Script → List ℕ → List ℕ → Act
act_of script part bs = act_by script part (piece bs) (behind bs)
