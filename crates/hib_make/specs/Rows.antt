-- The first rows of a made script.
use Rattle.std.specs.Prelude.{ℕ, ◌+◌, ◌==◌, List, [], ◌∷◌, ◌++◌, Option, Some, None, codes, pos}
use Rattle.std.specs.Fmt.{decimal}
use Rattle.hib_base.specs.declared.numbers.Key.{Key}
use Rattle.hib_base.specs.declared.rows.Cell.{Cell}
use Rattle.hib_base.specs.declared.rows.Row.{Row}
use Rattle.hib_make.specs.declared.rows.Form.{Form}
use Rattle.hib_make.specs.Draws.{Drawn, draw, at_once, then, many}
use Rattle.hib_make.specs.Entities.{author, book, customer, shelf}

abbrev pub key : ℕ → ℕ → Key
key entity id = record { entity = entity; id = id }

-- a word and a number after it
abbrev pub numbered : List ℕ → ℕ → List ℕ
numbered word k = word ++ decimal k

abbrev pub row : ℕ → ℕ → Option ℕ → List Cell → Key × Row
row entity id version cells = (key entity id, record { version = version; cells = cells })

abbrev pub number : ℕ → Cell
number n = Cell.Int (pos n)

-- one of two answers of a draw stands for true
abbrev pub truth : ℕ → Cell
truth d = Cell.Bool (d == 1)

abbrev pub Rows : Type 0
Rows = Drawn (Key × Row)

abbrev pub author_row : ℕ → ℕ → Rows
author_row k x = at_once (row author k None (Cell.Text (numbered (codes "author ") k) ∷ []) ∷ []) x

abbrev pub book_row : ℕ → ℕ → Rows
book_row k x =
    draw 10 x (λ a y. draw 50 y (λ stock z. draw 900 z (λ price w.
    at_once (row book k (Some 0) (Cell.Text (numbered (codes "book ") k) ∷ number (1 + a) ∷ number stock ∷ number (100 + price) ∷ []) ∷ []) w)))

abbrev pub customer_row : ℕ → ℕ → Rows
customer_row k x =
    draw 1000 x (λ credit y. at_once (row customer k (Some 0) (Cell.Text (numbered (codes "customer ") k) ∷ number (1000 + credit) ∷ []) ∷ []) y)

abbrev pub shelf_row : ℕ → ℕ → Rows
shelf_row k x = draw 2 x (λ full y. at_once (row shelf k None (Cell.Text (numbered (codes "shelf ") k) ∷ truth full ∷ []) ∷ []) y)

-- a row of a form, by its number
abbrev pub form_row : Form → ℕ → ℕ → Rows
form_row Form.Author = author_row
form_row Form.Book = book_row
form_row Form.Customer = customer_row
form_row Form.Shelf = shelf_row

unfoldable pub made_rows : ℕ → Rows
made_rows x = then (then (then (many author_row 10 x) (many book_row 60)) (many customer_row 30)) (many shelf_row 12)
