-- The row terms by a list of Exists nodes, and how many there are by how many each table has. Nothing here has to be
-- believed: no public contract says it.
use Rattle.std.specs.Prelude.{ℕ, ◌+◌, ◌-◌, ◌*◌, ◌^◌, min, nat_eq, List, [], ◌∷◌, ◌++◌, map, if◌then◌else◌}
use Rattle.std.specs.List.{flat_map}
use Rattle.sorted_skolem.specs.declared.asks.Ask.{Ask}
use Rattle.sorted_skolem.specs.declared.term.RowTerm.{RowTerm}
use Rattle.sorted_skolem.specs.declared.count.Tally.{Tally}
use Rattle.sorted_skolem.specs.Terms.{term_lists}

-- those of an Exists, over the terms so far
abbrev pub terms_from : List RowTerm → Ask → List RowTerm
terms_from terms ask = map (λ rows. record { sentence = ask.sentence; node = ask.node; rows = rows; table = ask.table }) (term_lists terms ask.foralls)

-- those of an Exists, if it is over the table
abbrev pub terms_where : List RowTerm → ℕ → Ask → List RowTerm
terms_where terms table ask =
    if nat_eq table ask.table
    then map (λ rows. record { sentence = ask.sentence; node = ask.node; rows = rows; table = table }) (term_lists terms ask.foralls)
    else []

-- table by table, behind the terms so far
abbrev pub terms_by : List Ask → List RowTerm → List ℕ → List RowTerm
terms_by asks terms [] = terms
terms_by asks terms (table ∷ tables) = terms_by asks (terms ++ flat_map (terms_where terms table) asks) tables

-- the greatest number that is counted
abbrev pub capped : ℕ → ℕ
capped n = min n (2 ^ 64 - 1)

-- how many terms a table has
abbrev pub tallied : List Tally → ℕ → ℕ
tallied [] table = 0
tallied (tally ∷ tallies) table = (if nat_eq tally.table table then tally.count else 0) + tallied tallies table

-- how many lists of one term for each of the tables there are
abbrev pub lists_tallied : List Tally → List ℕ → ℕ
lists_tallied tallies [] = 1
lists_tallied tallies (table ∷ tables) = tallied tallies table * lists_tallied tallies tables

-- how many terms the Exists nodes over a table give
abbrev pub asks_tallied : List Tally → ℕ → List Ask → ℕ
asks_tallied tallies table [] = 0
asks_tallied tallies table (ask ∷ asks) = (if nat_eq table ask.table then lists_tallied tallies ask.foralls else 0) + asks_tallied tallies table asks
