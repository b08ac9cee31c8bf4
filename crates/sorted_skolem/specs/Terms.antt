-- The row terms: one for each Exists over a live table and each list of row terms, one for each Forall around it, of that
-- Forall's table. They are numbered table by table in order, then by sentence, node and rows.
use Rattle.std.specs.Prelude.{ℕ, Bool, false, nat_eq, List, [], ◌∷◌, ◌++◌, length, map, slice_get, if◌then◌else◌}
use Rattle.std.specs.List.{filter, flat_map, zip}
use Rattle.std.specs.Option.{option_map_or}
use Rattle.lint_core.specs.Database.{below}
use Rattle.sorted_skolem.specs.declared.term.RowTerm.{RowTerm}
use Rattle.sorted_skolem.specs.Preorder.{Node, forall_tables, exists_table}

-- each with its number
abbrev pub numbered : {A : Type 0} → List A → List (ℕ × A)
numbered xs = zip (below (length xs)) xs

abbrev pub is_of_table : List RowTerm → ℕ → ℕ → Bool
is_of_table terms table number = option_map_or (λ (t : RowTerm). nat_eq t.table table) (slice_get terms number) false

-- the numbers of the terms of a table
abbrev pub terms_of : List RowTerm → ℕ → List ℕ
terms_of terms table = filter (is_of_table terms table) (below (length terms))

-- all lists of one term for each of the tables: those with the first term of the first table first
abbrev pub term_lists : List RowTerm → List ℕ → List (List ℕ)
term_lists terms [] = [] ∷ []
term_lists terms (table ∷ tables) = flat_map (λ row. map (λ rows. row ∷ rows) (term_lists terms tables)) (terms_of terms table)

-- those of a node over a table, over the terms so far
abbrev pub terms_at : List RowTerm → ℕ → ℕ → (ℕ × Node) → List RowTerm
terms_at terms table sentence node =
    if option_map_or (nat_eq table) (exists_table node.1) false
    then map (λ rows. record { sentence = sentence; node = node.0; rows = rows; table = table }) (term_lists terms (forall_tables node.1))
    else []

abbrev pub terms_over : List (List Node) → List RowTerm → ℕ → List RowTerm
terms_over outlines terms table =
    flat_map (λ (s : ℕ × List Node). flat_map (terms_at terms table s.0) (numbered s.1)) (numbered outlines)

-- table by table, behind the terms so far
abbrev pub terms_along : List (List Node) → List RowTerm → List ℕ → List RowTerm
terms_along outlines terms [] = terms
terms_along outlines terms (table ∷ tables) = terms_along outlines (terms ++ terms_over outlines terms table) tables

abbrev pub row_terms : List (List Node) → List ℕ → List RowTerm
row_terms outlines order = terms_along outlines [] order
