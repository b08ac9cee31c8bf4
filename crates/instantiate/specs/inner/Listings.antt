-- What the code keeps of sentences while it lists their clauses.
use Rattle.std.specs.Prelude.{◌≡◌, ℕ, true, ◌+◌, ◌-◌, ◌≤◌, List, [], ◌∷◌, length, map, take, Some, slice_get, unwrap_or, option_and_then, All}
use Rattle.std.specs.List.{flat_map}
use Rattle.sort_formula.specs.declared.formula.Formula.{Formula}
use Rattle.sort_formula.specs.declared.formula.Formula.TheOpen.{Formula-F}
use Rattle.sort_formula.specs.Sentences.{is_sentence}
use Rattle.sort_formula.specs.Variables.{atom_is_below}
use Rattle.sorted_skolem.specs.Graph.{IsOrder}
use Rattle.sorted_skolem.specs.Preorder.{Node, Way, outlines_of}
use Rattle.sorted_skolem.specs.Terms.{numbered, row_terms, term_lists}
use Rattle.ground_theory.specs.declared.literal.Clause.{Clause}
use Rattle.ground_theory.specs.declared.literal.Guard.{Guard}
use Rattle.instantiate.specs.Keys.{Key, keys_at, keys_of_stage, number_of}
use Rattle.instantiate.specs.Ground.{keys, guard_of, present_guard, clause_of}
use Rattle.instantiate.specs.declared.listing.Listing.{Listing}
use Rattle.instantiate.specs.inner.Bases.{node_base}
use Rattle.instantiate.specs.inner.Flat.{node_of}
use Rattle.instantiate.specs.inner.Spots.{spot_of}
use Rattle.instantiate.specs.inner.Steps.{index_along}

abbrev pub outlines_in : Listing → List (List Node)
outlines_in l = map (map node_of) l.outlines

abbrev pub keys_for : Listing → List Key
keys_for l = keys (outlines_in l) l.order.now l.terms.now

-- the key is one of them
abbrev pub HasKey : Listing → Key → Type 0
HasKey l key = (place : ℕ) × (slice_get (keys_for l) place ≡ Some key)

-- all is there, and the number of a key is its node's base and the index of its rows
pub record IsListing (l : Listing) : Type 0 where
  pub order : IsOrder l.sentences.now l.order.now
  pub closed : All (λ s. is_sentence s ≡ true) l.sentences.now
  pub outlines : outlines_in l ≡ outlines_of l.sentences.now
  pub terms : l.terms.now ≡ row_terms (outlines_of l.sentences.now) l.order.now
  pub few_terms : length l.terms.now ≤ 512
  pub few_keys : length (keys_for l) ≤ 400000
  pub spots : l.spots ≡ map (map (spot_of l.order.now l.terms.now)) (outlines_in l)
  pub numbers : (sentence node : ℕ) (rows : List ℕ) → HasKey l (record { sentence = sentence; node = node; rows = rows })
      → number_of (keys_for l) (record { sentence = sentence; node = node; rows = rows }) ≡ unwrap_or (node_base l.bases sentence node) 0 + index_along l.steps 0 rows

-- each variable of an atom is below the number
abbrev pub IsClosedBy : ℕ → Formula-F Formula → Type 0
IsClosedBy count (Formula-F.Atom a) = atom_is_below count a ≡ true
IsClosedBy count (Formula-F.And parts) = Unit {0}
IsClosedBy count (Formula-F.Or parts) = Unit {0}
IsClosedBy count (Formula-F.Exists table body) = Unit {0}
IsClosedBy count (Formula-F.Forall table body) = Unit {0}

abbrev pub IsAtom : Formula-F Formula → Type 0
IsAtom (Formula-F.Atom a) = Unit {0}
IsAtom (Formula-F.And parts) = ⊥
IsAtom (Formula-F.Or parts) = ⊥
IsAtom (Formula-F.Exists table body) = ⊥
IsAtom (Formula-F.Forall table body) = ⊥

module _ (l : Listing) where
  -- those of a clause below a Forall
  abbrev pub inside_guards : ℕ → List ℕ → Way → List Guard
  inside_guards sentence rows way =
      guard_of (outlines_in l) l.order.now l.terms.now (record { sentence = sentence; node = way.node; rows = take (length rows - 1) rows }) way.way
      ∷ unwrap_or (option_and_then (λ row. Some (present_guard (outlines_in l) l.order.now l.terms.now row)) (slice_get rows (length rows - 1))) []

  abbrev pub clauses_at : List Key → List Clause
  clauses_at ks = map (clause_of (outlines_in l) l.order.now l.terms.now) ks

  -- the clauses of a node, those of a stage of a sentence, and those of a stage of some sentences
  abbrev pub node_clauses : ℕ → ℕ → List ℕ → List Clause
  node_clauses sentence node tables = clauses_at (map (λ rows. record { sentence = sentence; node = node; rows = rows }) (term_lists l.terms.now tables))

  abbrev pub sentence_clauses : ℕ → ℕ → List Node → List Clause
  sentence_clauses stage sentence nodes = clauses_at (flat_map (keys_at l.order.now l.terms.now stage sentence) (numbered nodes))

  abbrev pub stage_clauses : ℕ → List (List Node) → List Clause
  stage_clauses stage outlines = clauses_at (keys_of_stage l.order.now l.terms.now outlines stage)
