-- What a script may not have before a section of bulk lines or of places.
use Rattle.std.specs.Prelude.{ℕ, Bool, true, false, ◌&&◌, List, ◌∷◌, codes, unwrap_or, Option, Some, None}
use Rattle.std.specs.List.{find}
use Rattle.std.specs.Option.{option_map}
use Rattle.hib_base.specs.declared.refusals.Kind.{Kind}
use Rattle.hib_base.specs.declared.refusals.Refused.{Refused}
use Rattle.hib_base.specs.declared.scripts.EntityDef.{EntityDef}
use Rattle.hib_base.specs.declared.scripts.Strategy.{Strategy}
use Rattle.hib_lex.specs.Words.{begins, is_the_word}
use Rattle.hib_lex.specs.declared.lexer.Token.{Token}
use Rattle.hib_lex.specs.declared.lines.Line.{Line}

-- ---- an entity that is cached without soft locks, by the line that declares it
abbrev pub is_other : Strategy → Bool
is_other Strategy.Uncached = false
is_other Strategy.ReadWrite = false
is_other _ = true

abbrev pub declares : List ℕ → List Token → Bool
declares name (first ∷ second ∷ ts) = is_the_word (codes "entity") first && is_the_word name second
declares name _ = false

abbrev pub declaring_line : List ℕ → List Line → Option ℕ
declaring_line name ls = option_map (λ l. l.line) (find (λ l. declares name l.tokens) ls)

abbrev pub entity_line : List ℕ → List Line → ℕ
entity_line name ls = unwrap_or (declaring_line name ls) 0

abbrev pub other_strategy : List EntityDef → List Line → Option ℕ
other_strategy m ls = option_map (λ d. entity_line d.name ls) (find (λ d. is_other d.strategy) m)

-- ---- a query whose results are kept: query NAME cached ..
abbrev pub is_cached_query : List Token → Bool
is_cached_query (first ∷ second ∷ third ∷ ts) = is_the_word (codes "query") first && is_the_word (codes "cached") third
is_cached_query _ = false

abbrev pub cached_query : List Line → Option ℕ
cached_query ls = option_map (λ l. l.line) (find (λ l. is_cached_query l.tokens) ls)

-- ---- a schedule
abbrev pub schedule_line : List Line → Option ℕ
schedule_line ls = option_map (λ l. l.line) (find (λ l. begins (codes "schedule") l.tokens) ls)

-- ---- the first of them: in a script entities stand before queries, and these before the schedule
abbrev pub or_at : Option ℕ → Kind → Option Refused → Option Refused
or_at (Some n) k rest = Some (record { line = n; kind = k })
or_at None k rest = rest

abbrev pub fault_before : List EntityDef → List Line → Option Refused
fault_before m ls = or_at (other_strategy m ls) Kind.Strategy (or_at (cached_query ls) Kind.Cached (or_at (schedule_line ls) Kind.Order None))
