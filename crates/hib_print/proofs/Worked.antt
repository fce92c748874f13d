-- A script, and its text as it is written by hand.
use Rattle.std.proofs.Common.{◌≡◌, true, false, [], ◌∷◌, ◌++◌, codes, Some, None, refl}
use Rattle.std.specs.Prelude.{pos, negsuc}
use Rattle.std.specs.Fmt.{digits}
use Rattle.hib_base.specs.declared.numbers.Key.{Key}
use Rattle.hib_base.specs.declared.rows.Cell.{Cell}
use Rattle.hib_base.specs.declared.scripts.ColumnType.{ColumnType}
use Rattle.hib_base.specs.declared.scripts.Cond.{Cond}
use Rattle.hib_base.specs.declared.scripts.EntityDef.{EntityDef}
use Rattle.hib_base.specs.declared.scripts.Mode.{Mode}
use Rattle.hib_base.specs.declared.scripts.Op.{Op}
use Rattle.hib_base.specs.declared.scripts.Order.{Order}
use Rattle.hib_base.specs.declared.scripts.Query.{Query}
use Rattle.hib_base.specs.declared.scripts.Script.{Script}
use Rattle.hib_base.specs.declared.scripts.Select.{Select}
use Rattle.hib_base.specs.declared.scripts.SessionDef.{SessionDef}
use Rattle.hib_base.specs.declared.scripts.Statement.{Statement}
use Rattle.hib_base.specs.declared.scripts.Strategy.{Strategy}
use Rattle.hib_print.specs.Printed.{printed}

abbrev book : EntityDef
book = record {
  name = codes "Book";
  strategy = Strategy.ReadWrite;
  versioned = true;
  capacity = 5;
  columns =
      record { name = codes "title"; kind = ColumnType.Text; default = None } ∷ record { name = codes "stock"; kind = ColumnType.Int; default = Some (Cell.Int (negsuc 16)) }
      ∷ record { name = codes "lent"; kind = ColumnType.Bool; default = Some (Cell.Bool false) } ∷ record { name = codes "sequel"; kind = ColumnType.Ref 0; default = Some (Cell.Int (pos 1)) } ∷ [];
}

abbrev stock_is : Op → Cell → Cond
stock_is op cell = Cond.Test op (record { column = 1; target = None }) cell

abbrev among : Cond
among = Cond.Among (record { column = 3; target = Some (record { entity = 0; column = 0 }) }) (Cell.Text (codes "a") ∷ Cell.Text (codes "b c") ∷ [])

abbrev low : Cond → Query
low condition = record {
  name = codes "low";
  cached = true;
  entity = 0;
  condition = Some condition;
  order = record { column = 1; desc = true } ∷ record { column = 0; desc = false } ∷ [];
  offset = 3;
  limit = 7;
  select = Select.Column 0;
}

abbrev all : Query
all = record { name = codes "all"; cached = false; entity = 0; condition = None; order = []; offset = 0; limit = 200; select = Select.Ids }

abbrev first : Key
first = record { entity = 0; id = 1 }

abbrev session : SessionDef
session = record {
  name = codes "a";
  statements =
      Statement.Mode Mode.Ignore ∷ Statement.Find first ∷ Statement.Set first ((1, Cell.Int (negsuc 4)) ∷ (2, Cell.Bool true) ∷ []) ∷ Statement.Remove first
      ∷ Statement.Persist first (Cell.Text [] ∷ Cell.Int (pos 0) ∷ Cell.Bool false ∷ Cell.Int (pos 1) ∷ []) ∷ Statement.List 1 ∷ Statement.Flush ∷ Statement.Clear ∷ Statement.Commit ∷ [];
}

abbrev worked : Cond → Script
worked condition = record {
  timeout = 7;
  results = 20;
  mapping = book ∷ [];
  rows = (first, record { version = Some 2; cells = Cell.Text (codes "The \"end\" \\") ∷ Cell.Int (pos 3) ∷ Cell.Bool true ∷ Cell.Int (pos 1) ∷ [] }) ∷ [];
  queries = low condition ∷ all ∷ [];
  sessions = session ∷ [];
  schedule = Order.Run 0 5 ∷ Order.Kill 0 ∷ Order.Evict first ∷ Order.Restart ∷ [];
}

script_text : (p q r : _) → printed (worked (Cond.And' p (stock_is Op.Ge (Cell.Int (negsuc 0))) q (Cond.Not' r among))) ≡
    codes "hib 1\ntimeout 7\nresults 20\nentity Book read-write versioned 5\ncolumn title text\ncolumn stock int default -17\ncolumn lent bool default false\ncolumn sequel ref Book default 1\n"
    ++ codes "row Book 1 v2 \"The \\\"end\\\" \\\\\" 3 true 1\n"
    ++ codes "query low cached from Book where (and (ge stock -1) (not (in sequel.title \"a\" \"b c\"))) order stock desc title offset 3 limit 7 select title\n"
    ++ codes "query all from Book offset 0 limit 200 select ids\n"
    ++ codes "session a\nmode ignore\nfind Book 1\nset Book 1 stock -5 lent true\nremove Book 1\npersist Book 1 \"\" 0 false 1\nlist all\nflush\nclear\ncommit\nend\n"
    ++ codes "schedule\nrun a 5\nkill a\nevict Book 1\nrestart\nend\n"
unfolding printed digits
script_text p q r = refl
