-- What clauses there are: one for each node of each sentence and each list of row terms, one for each Forall around the
-- node, of that Forall's table. First those without rows; the others by the last table, in the table order, among
-- their rows. Within these by sentence, node and rows.
use Rattle.std.specs.Prelude.{ℕ, suc, Bool, ◌&&◌, nat_eq, List, [], ◌∷◌, length, map, max, if◌then◌else◌}
use Rattle.std.specs.Cmp.Lexicographic.{pointwise}
use Rattle.std.specs.List.{flat_map}
use Rattle.lint_core.specs.Database.{below}
use Rattle.sorted_skolem.specs.declared.term.RowTerm.{RowTerm}
use Rattle.sorted_skolem.specs.Preorder.{Node, forall_tables}
use Rattle.sorted_skolem.specs.Terms.{numbered, term_lists}

-- a node of a sentence at these row terms
pub record Key : Type 0 where
  pub sentence : ℕ
  pub node : ℕ
  pub rows : List ℕ

abbrev pub is_same_key : Key → Key → Bool
is_same_key a b = nat_eq a.sentence b.sentence && (nat_eq a.node b.node && pointwise nat_eq a.rows b.rows)

-- the place of a table in the order, from 1; past the end where it is not there
abbrev pub place_in : List ℕ → ℕ → ℕ
place_in [] table = 1
place_in (t ∷ ts) table = if nat_eq t table then 1 else suc (place_in ts table)

-- 0 without rows, else the place of the last of their tables
abbrev pub stage_of : List ℕ → List ℕ → ℕ
stage_of order [] = 0
stage_of order (t ∷ ts) = max (place_in order t) (stage_of order ts)

module _ (order : List ℕ) (terms : List RowTerm) where
  abbrev pub keys_at : ℕ → ℕ → (ℕ × Node) → List Key
  keys_at stage sentence node =
      if nat_eq (stage_of order (forall_tables node.1)) stage
      then map (λ rows. record { sentence = sentence; node = node.0; rows = rows }) (term_lists terms (forall_tables node.1))
      else []

  abbrev pub keys_of_stage : List (List Node) → ℕ → List Key
  keys_of_stage outlines stage =
      flat_map (λ (s : ℕ × List Node). flat_map (keys_at stage s.0) (numbered s.1)) (numbered outlines)

  abbrev pub keys_of : List (List Node) → List Key
  keys_of outlines = flat_map (keys_of_stage outlines) (below (suc (length order)))

-- the place of a key among others; past the end where it is not there
abbrev pub number_of : List Key → Key → ℕ
number_of [] key = 0
number_of (k ∷ ks) key = if is_same_key k key then 0 else suc (number_of ks key)
