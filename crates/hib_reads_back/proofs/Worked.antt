-- What is printed of a made script, before its rows and of its queries, as it is written by hand.
use Rattle.std.proofs.Common.{◌≡◌, ◌++◌, map, flat_map, codes, refl}
use Rattle.std.specs.Fmt.{digits}
use Rattle.hib_make.specs.Rows.{Rows}
use Rattle.hib_make.specs.Sessions.{Sessions, Orders}
use Rattle.hib_make.specs.Made.{script}
use Rattle.hib_print.specs.Lines.{entity_lines, query_line}
use Rattle.hib_print.specs.Printed.{head_lines}
use Rattle.hib_print.specs.Spelling.{lines_text}

front : (rows : Rows) (sessions : Sessions) (orders : Orders) →
    lines_text (head_lines (script rows sessions orders) ++ flat_map (λ e. entity_lines (script rows sessions orders) e) (script rows sessions orders).mapping) ≡
    codes "hib 1\ntimeout 1000\nresults 20\n" ++ codes "entity Author read-only plain 50\ncolumn name text\n"
    ++ codes "entity Book read-write versioned 40\ncolumn title text\ncolumn author ref Author\ncolumn stock int\ncolumn price int\n"
    ++ codes "entity Customer read-write versioned 50\ncolumn name text\ncolumn credit int\n"
    ++ codes "entity Order nonstrict plain 50\ncolumn customer ref Customer\ncolumn book ref Book\ncolumn amount int\n"
    ++ codes "entity Shelf read-write plain 10\ncolumn label text\ncolumn full bool\n" ++ codes "entity Note none plain 0\ncolumn note text\n"
unfolding digits
front rows sessions orders = refl

queries : (rows : Rows) (sessions : Sessions) (orders : Orders) →
    lines_text (map (λ q. query_line (script rows sessions orders) q) (script rows sessions orders).queries) ≡
    codes "query low cached from Book where (lt stock 10) order stock offset 0 limit 200 select ids\n"
    ++ codes "query rich cached from Customer where (ge credit 1500) select count\n"
    ++ codes "query first cached from Book where (eq author.name \"author 1\") offset 0 limit 200 select title\n" ++ codes "query orders from Order select count\n"
unfolding digits
queries rows sessions orders = refl
