-- The sessions of a made script, and its schedule.
use Rattle.std.specs.Prelude.{ℕ, ◌+◌, ◌*◌, ◌==◌, nat_lt, if◌then◌else◌, List, [], ◌∷◌, ◌++◌, codes}
use Rattle.hib_base.specs.declared.numbers.Key.{Key}
use Rattle.hib_base.specs.declared.rows.Cell.{Cell}
use Rattle.hib_base.specs.declared.scripts.Statement.{Statement}
use Rattle.hib_base.specs.declared.scripts.SessionDef.{SessionDef}
use Rattle.hib_base.specs.declared.scripts.Order.{Order}
use Rattle.hib_make.specs.Draws.{Drawn, draw, at_once, many}
use Rattle.hib_make.specs.Entities.{book, customer, order, shelf}
use Rattle.hib_make.specs.Rows.{key, numbered, number, truth}

-- ---- statements
abbrev pub Statements : Type 0
Statements = Drawn Statement

abbrev pub found : Key → List Statement
found k = Statement.Find k ∷ []

-- found, and one of its columns set
abbrev pub changed : Key → ℕ → Cell → List Statement
changed k column cell = Statement.Find k ∷ Statement.Set k ((column, cell) ∷ []) ∷ []

-- one of the first n of an entity is found
abbrev pub one_found : ℕ → ℕ → ℕ → Statements
one_found entity n x = draw n x (λ b y. at_once (found (key entity (1 + b))) y)

-- a book's stock, at place 2
abbrev pub stock_set : ℕ → Statements
stock_set x = draw 60 x (λ b y. draw 50 y (λ stock z. at_once (changed (key book (1 + b)) 2 (number stock)) z))

-- a customer's credit, at place 1
abbrev pub credit_set : ℕ → Statements
credit_set x = draw 30 x (λ b y. draw 1000 y (λ credit z. at_once (changed (key customer (1 + b)) 1 (number (1000 + credit))) z))

-- the j-th step of session i places an order that no other places
abbrev pub order_placed : ℕ → ℕ → ℕ → Statements
order_placed i j x =
    draw 30 x (λ c y. draw 60 y (λ b z. draw 5 z (λ amount w.
    at_once (Statement.Persist (key order (1000 * i + j)) (number (1 + c) ∷ number (1 + b) ∷ number (1 + amount) ∷ []) ∷ []) w)))

-- one of the four queries
abbrev pub one_listed : ℕ → Statements
one_listed x = draw 4 x (λ q y. at_once (Statement.List q ∷ []) y)

-- whether a shelf is full, at place 1
abbrev pub full_set : ℕ → Statements
full_set x = draw 12 x (λ b y. draw 2 y (λ full z. at_once (changed (key shelf (1 + b)) 1 (truth full)) z))

-- what the j-th step of session i does, by the answer of a draw
abbrev pub step_by : ℕ → ℕ → ℕ → ℕ → Statements
step_by i j d x =
    if nat_lt d 4 then one_found book 60 x
    else (if d == 4 then one_found customer 30 x
    else (if d == 5 then stock_set x
    else (if d == 6 then credit_set x
    else (if d == 7 then order_placed i j x
    else (if d == 8 then one_listed x else full_set x)))))

unfoldable pub step : ℕ → ℕ → ℕ → Statements
step i j x = draw 10 x (λ d y. step_by i j d y)

-- ---- sessions
abbrev pub Sessions : Type 0
Sessions = Drawn SessionDef

abbrev pub ending : ℕ → Statement
ending d = if d == 0 then Statement.Rollback else Statement.Commit

-- session i of these steps, and how it ends
abbrev pub ended : ℕ → Statements → Sessions
ended i steps =
    draw 8 steps.state (λ d x. at_once (record { name = numbered (codes "s") i; statements = steps.made ++ ending d ∷ [] } ∷ []) x)

unfoldable pub session : ℕ → ℕ → Sessions
session i x = draw 6 x (λ c y. ended i (many (step i) (3 + c) y))

unfoldable pub made_sessions : ℕ → Sessions
made_sessions x = many session 40 x

-- ---- the schedule
abbrev pub Orders : Type 0
Orders = Drawn Order

-- one of the 40 sessions, counted from 0, and 1 to 4 steps
abbrev pub run : ℕ → Orders
run x = draw 40 x (λ s y. draw 4 y (λ n z. at_once (Order.Run s (1 + n) ∷ []) z))

unfoldable pub made_schedule : ℕ → Orders
made_schedule x = many (λ k y. run y) 400 x
