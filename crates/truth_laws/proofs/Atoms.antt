-- A test that each atom of a formula passes: of negations, of quantified formulas, and of the formulas of a condition.
use Rattle.std.proofs.Common.{◌≡◌, ◌∙◌, ◌≤◌, sym, ap, ap₂, refl, subst, ℕ, ℤ, pos, ◌-ℤ◌, Bool, true, false, ◌&&◌, ◌||◌, List, [], ◌∷◌, ◌++◌, map, if◌then◌else◌, arith}
use Rattle.std.proofs.lemmas.List.{append_assoc}
use Rattle.std.specs.Prelude.{unwrap_or}
use Rattle.std.proofs.lemmas.List.Folds.{list_all-map}
use Rattle.std.specs.List.{list_all}
use Rattle.lint_tables.specs.declared.op.Op.{Op}
use Rattle.lint_tables.specs.declared.op.Op.TheVariants.{Eq, Ne, Lt, Le, Gt, Ge}
use Rattle.lint_tables.specs.Ways.{ways_of}
use Rattle.lint_tables.specs.Operators.{negation}
use Rattle.lint_core.specs.declared.condition.Term.{Term}
use Rattle.lint_core.specs.declared.condition.Term.TheVariants as term
use Rattle.lint_core.specs.Fits.{at_entry}
use Rattle.lint_core.specs.declared.condition.Block.{Block, roll-Block, fold-Block, fold-roll-Block, map-Block}
use Rattle.lint_core.specs.declared.condition.Cond.{Cond, ind-Cond, roll-Cond, fold-roll-Cond, map-Cond}
use Rattle.lint_core.specs.declared.condition.Cond.TheOpen.{Cond-F, Block-F}
use Rattle.lint_core.specs.declared.schema.Table.{Table}
use Rattle.sort_formula.specs.declared.formula.Side.{Side}
use Rattle.sort_formula.specs.declared.formula.Side.TheVariants as side
use Rattle.sort_formula.specs.declared.formula.Atom.{Atom}
use Rattle.sort_formula.specs.declared.formula.Atom.TheVariants as atom
use Rattle.sort_formula.specs.declared.formula.Formula.{Formula, fold-Formula, fold_out-Formula, out-Formula, ind-Formula, roll-Formula, map-Formula}
use Rattle.sort_formula.specs.declared.formula.Formula.TheVariants as f
use Rattle.sort_formula.specs.declared.formula.Formula.TheOpen.{Formula-F}
use Rattle.sort_formula.specs.Negated.{negated, negated_atom, null_of, fails}
use Rattle.lint_core.specs.declared.scope.Scope.{Scope}
use Rattle.sort_formula.specs.Sides.{side_of, added_to, nothing, is_null_term, is_text_term, texts_formula, ways_formula, values_formula, compare_formula, compare_false_formula, is_null_formula, not_null_formula}
use Rattle.sort_formula.specs.Translation as translating
use Rattle.sort_formula.specs.Translation.{Both, swapped_if, inside, translation, translation_step, exist_rows, for_all_rows}
use Rattle.sort_formula.proofs.Holding.{negated_of_atom, negated_and, negated_or, negated_exists, negated_forall}
use Rattle.lint_base.proofs.Lists.{both_left, both_right}
use Rattle.truth_laws.proofs.Fitting.{both_are}

module _ (test : Atom → Bool) where
  abbrev pub atoms_step : Formula-F Bool → Bool
  atoms_step (Formula-F.Atom a) = test a
  atoms_step (Formula-F.And parts) = list_all (λ part. part) parts
  atoms_step (Formula-F.Or parts) = list_all (λ part. part) parts
  atoms_step (Formula-F.Exists table body) = body
  atoms_step (Formula-F.Forall table body) = body

  abbrev pub all_atoms : Formula → Bool
  all_atoms = fold-Formula Bool atoms_step

  abbrev layer_atoms : Formula-F Formula → Bool
  layer_atoms layer = atoms_step (map-Formula Formula Bool all_atoms layer)

  atoms_out : (g : Formula) → all_atoms g ≡ layer_atoms (out-Formula g)
  atoms_out g = fold_out-Formula Bool atoms_step g

  pub atoms_atom : (a : Atom) → all_atoms (f.Atom a) ≡ test a
  atoms_atom a = atoms_out (f.Atom a) ∙ ap layer_atoms (f.outs-Atom a)

  pub atoms_and : (parts : List Formula) → all_atoms (f.And parts) ≡ list_all all_atoms parts
  atoms_and parts = atoms_out (f.And parts) ∙ (ap layer_atoms (f.outs-And parts) ∙ list_all-map (λ part. part) all_atoms parts)

  pub atoms_or : (parts : List Formula) → all_atoms (f.Or parts) ≡ list_all all_atoms parts
  atoms_or parts = atoms_out (f.Or parts) ∙ (ap layer_atoms (f.outs-Or parts) ∙ list_all-map (λ part. part) all_atoms parts)

  pub atoms_exists : (table : ℕ) (body : Formula) → all_atoms (f.Exists table body) ≡ all_atoms body
  atoms_exists table body = atoms_out (f.Exists table body) ∙ ap layer_atoms (f.outs-Exists table body)

  pub atoms_forall : (table : ℕ) (body : Formula) → all_atoms (f.Forall table body) ≡ all_atoms body
  atoms_forall table body = atoms_out (f.Forall table body) ∙ ap layer_atoms (f.outs-Forall table body)

  pub exist_atoms : (tables : List ℕ) (body : Formula) → all_atoms (exist_rows tables body) ≡ all_atoms body
  exist_atoms [] body = refl
  exist_atoms (table ∷ tables) body = atoms_exists table (exist_rows tables body) ∙ exist_atoms tables body

  pub for_all_atoms : (tables : List ℕ) (body : Formula) → all_atoms (for_all_rows tables body) ≡ all_atoms body
  for_all_atoms [] body = refl
  for_all_atoms (table ∷ tables) body = atoms_forall table (for_all_rows tables body) ∙ for_all_atoms tables body

  pub two_and : (a b : Formula) → all_atoms a ≡ true → all_atoms b ≡ true → all_atoms (f.And (a ∷ b ∷ [])) ≡ true
  two_and a b first second = atoms_and (a ∷ b ∷ []) ∙ ap₂ (λ x y. x && (y && true)) first second

  pub two_or : (a b : Formula) → all_atoms a ≡ true → all_atoms b ≡ true → all_atoms (f.Or (a ∷ b ∷ [])) ≡ true
  two_or a b first second = atoms_or (a ∷ b ∷ []) ∙ ap₂ (λ x y. x && (y && true)) first second

-- ---- atoms and negations

module _ (test other : Atom → Bool) where
  abbrev Weaker : Formula → Type 0
  Weaker g = all_atoms test g ≡ true → all_atoms other g ≡ true

  abbrev NegatedWeaker : Formula → Type 0
  NegatedWeaker g = all_atoms test g ≡ true → all_atoms other (negated g) ≡ true

  abbrev PartWeaker : Type 0
  PartWeaker = (g : Formula) × Weaker g

  abbrev PartNegated : Type 0
  PartNegated = (g : Formula) × NegatedWeaker g

  each_weaker : (parts : List PartWeaker) → list_all (all_atoms test) (map (λ (p : PartWeaker). p.0) parts) ≡ true → list_all (all_atoms other) (map (λ (p : PartWeaker). p.0) parts) ≡ true
  each_weaker [] all = refl
  each_weaker (part ∷ parts) all =
      let gs = map (λ (p : PartWeaker). p.0) parts in
      both_are (all_atoms other part.0) (list_all (all_atoms other) gs)
      (part.1 (both_left (all_atoms test part.0) (list_all (all_atoms test) gs) all)) (each_weaker parts (both_right (all_atoms test part.0) (list_all (all_atoms test) gs) all))

  each_negated : (parts : List PartNegated) → list_all (all_atoms test) (map (λ (p : PartNegated). p.0) parts) ≡ true → list_all (all_atoms other) (map negated (map (λ (p : PartNegated). p.0) parts)) ≡ true
  each_negated [] all = refl
  each_negated (part ∷ parts) all =
      let gs = map (λ (p : PartNegated). p.0) parts in
      both_are (all_atoms other (negated part.0)) (list_all (all_atoms other) (map negated gs))
      (part.1 (both_left (all_atoms test part.0) (list_all (all_atoms test) gs) all)) (each_negated parts (both_right (all_atoms test part.0) (list_all (all_atoms test) gs) all))

  module _ (leads : (a : Atom) → test a ≡ true → other a ≡ true) where
    weaker_layer : (y : Formula-F PartWeaker) → Weaker (roll-Formula (map-Formula PartWeaker Formula (λ e. e.0) y))
    weaker_layer (Formula-F.Atom a) = subst Weaker (sym (f.rolls-Atom a)) (λ all. atoms_atom other a ∙ leads a (sym (atoms_atom test a) ∙ all))
    weaker_layer (Formula-F.And parts) =
        let gs = map (λ (p : PartWeaker). p.0) parts in
        subst Weaker (sym (f.rolls-And gs)) (λ all. atoms_and other gs ∙ each_weaker parts (sym (atoms_and test gs) ∙ all))
    weaker_layer (Formula-F.Or parts) =
        let gs = map (λ (p : PartWeaker). p.0) parts in
        subst Weaker (sym (f.rolls-Or gs)) (λ all. atoms_or other gs ∙ each_weaker parts (sym (atoms_or test gs) ∙ all))
    weaker_layer (Formula-F.Exists table body) =
        subst Weaker (sym (f.rolls-Exists table body.0)) (λ all. atoms_exists other table body.0 ∙ body.1 (sym (atoms_exists test table body.0) ∙ all))
    weaker_layer (Formula-F.Forall table body) =
        subst Weaker (sym (f.rolls-Forall table body.0)) (λ all. atoms_forall other table body.0 ∙ body.1 (sym (atoms_forall test table body.0) ∙ all))

    -- what passes the one test passes the other
    pub weaker : (g : Formula) → Weaker g
    weaker = ind-Formula Weaker (λ x y is. subst (λ z. Weaker (roll-Formula z)) is (weaker_layer y))

  module _ (leads : (a : Atom) → test a ≡ true → all_atoms other (negated_atom a) ≡ true) where
    negated_layer : (y : Formula-F PartNegated) → NegatedWeaker (roll-Formula (map-Formula PartNegated Formula (λ e. e.0) y))
    negated_layer (Formula-F.Atom a) =
        subst NegatedWeaker (sym (f.rolls-Atom a)) (λ all. ap (all_atoms other) (negated_of_atom a) ∙ leads a (sym (atoms_atom test a) ∙ all))
    negated_layer (Formula-F.And parts) =
        let gs = map (λ (p : PartNegated). p.0) parts in
        subst NegatedWeaker (sym (f.rolls-And gs)) (λ all. ap (all_atoms other) (negated_and gs) ∙ (atoms_or other (map negated gs) ∙ each_negated parts (sym (atoms_and test gs) ∙ all)))
    negated_layer (Formula-F.Or parts) =
        let gs = map (λ (p : PartNegated). p.0) parts in
        subst NegatedWeaker (sym (f.rolls-Or gs)) (λ all. ap (all_atoms other) (negated_or gs) ∙ (atoms_and other (map negated gs) ∙ each_negated parts (sym (atoms_or test gs) ∙ all)))
    negated_layer (Formula-F.Exists table body) =
        subst NegatedWeaker (sym (f.rolls-Exists table body.0))
        (λ all. ap (all_atoms other) (negated_exists table body.0) ∙ (atoms_forall other table (negated body.0) ∙ body.1 (sym (atoms_exists test table body.0) ∙ all)))
    negated_layer (Formula-F.Forall table body) =
        subst NegatedWeaker (sym (f.rolls-Forall table body.0))
        (λ all. ap (all_atoms other) (negated_forall table body.0) ∙ (atoms_exists other table (negated body.0) ∙ body.1 (sym (atoms_forall test table body.0) ∙ all)))

    -- the atoms of the negation pass the other test where those of the formula pass the one
    pub negated_passes : (g : Formula) → NegatedWeaker g
    negated_passes = ind-Formula NegatedWeaker (λ x y is. subst (λ z. NegatedWeaker (roll-Formula z)) is (negated_layer y))

-- ---- comparisons that fail, and comparisons

null_passes : (test : Atom → Bool) → ((row column : ℕ) → test (atom.IsNull row column) ≡ true) → (s : Side) (parts : List Formula) → list_all (all_atoms test) parts ≡ true → list_all (all_atoms test) (null_of s ++ parts) ≡ true
null_passes test null (side.Cell row column) parts all = both_are (all_atoms test (f.Atom (atom.IsNull row column))) (list_all (all_atoms test) parts) (atoms_atom test (atom.IsNull row column) ∙ null row column) all
null_passes test null side.Zero parts all = all
null_passes test null (side.Text text) parts all = all

-- of a comparison that fails the opposite is asked
pub fails_passes : (test : Atom → Bool) → ((row column : ℕ) → test (atom.IsNull row column) ≡ true) → (left right : Side) (opposite : Atom) → test opposite ≡ true → all_atoms test (fails left right opposite) ≡ true
fails_passes test null left right opposite passes =
    let last = f.Atom opposite ∷ [] in
    let last_passes : list_all (all_atoms test) last ≡ true = ap (λ b. b && true) (atoms_atom test opposite ∙ passes) in
    atoms_or test (null_of left ++ null_of right ++ last)
    ∙ (ap (list_all (all_atoms test)) (append_assoc (null_of left) (null_of right) last)
    ∙ null_passes test null left (null_of right ++ last) (null_passes test null right last last_passes))

module _ (test : Atom → Bool) (schema : List Table) (scope : Scope) where
  abbrev of : Term → Side
  of t = side_of schema scope t

  abbrev added : Term → ℤ
  added t = added_to schema scope t

  -- each bound of a comparison passes
  abbrev BoundsPass : Term → Term → Type 0
  BoundsPass a b = (less : ℕ) → less ≤ 1 → test (atom.Le (of a) (of b) (added b -ℤ added a -ℤ pos less)) ≡ true

  nothing_passes : all_atoms test nothing ≡ true
  nothing_passes = atoms_or test []

  bound_passes : (a b : Term) (less : ℕ) → less ≤ 1 → BoundsPass a b → all_atoms test (f.Atom (atom.Le (of a) (of b) (added b -ℤ added a -ℤ pos less))) ≡ true
  bound_passes a b less one bounds = atoms_atom test (atom.Le (of a) (of b) (added b -ℤ added a -ℤ pos less)) ∙ bounds less one

  ways_pass : (op : Op) (a b : Term) → BoundsPass a b → BoundsPass b a → all_atoms test (ways_formula schema scope a b (ways_of op)) ≡ true
  ways_pass Eq a b first second =
      two_and test (f.Atom (atom.Le (of a) (of b) (added b -ℤ added a -ℤ pos 0))) (f.Atom (atom.Le (of b) (of a) (added a -ℤ added b -ℤ pos 0))) (bound_passes a b 0 (omega arith) first) (bound_passes b a 0 (omega arith) second)
  ways_pass Ne a b first second =
      two_or test (f.Atom (atom.Le (of a) (of b) (added b -ℤ added a -ℤ pos 1))) (f.Atom (atom.Le (of b) (of a) (added a -ℤ added b -ℤ pos 1))) (bound_passes a b 1 (omega arith) first) (bound_passes b a 1 (omega arith) second)
  ways_pass Lt a b first second = bound_passes a b 1 (omega arith) first
  ways_pass Le a b first second = bound_passes a b 0 (omega arith) first
  ways_pass Gt a b first second = bound_passes b a 1 (omega arith) second
  ways_pass Ge a b first second = bound_passes b a 0 (omega arith) second

  chosen : (b : Bool) (g h : Formula) → all_atoms test g ≡ true → all_atoms test h ≡ true → all_atoms test (if b then g else h) ≡ true
  chosen true g h first second = first
  chosen false g h first second = second

  module _ (same : (left right : Side) → test (atom.TextEq left right) ≡ true) (differ : (left right : Side) → test (atom.TextNe left right) ≡ true) where
    texts_pass : (op : Op) (left right : Side) → all_atoms test (texts_formula schema scope op left right) ≡ true
    texts_pass Eq left right = atoms_atom test (atom.TextEq left right) ∙ same left right
    texts_pass Ne left right = atoms_atom test (atom.TextNe left right) ∙ differ left right
    texts_pass Lt left right = nothing_passes
    texts_pass Le left right = nothing_passes
    texts_pass Gt left right = nothing_passes
    texts_pass Ge left right = nothing_passes

    pub compare_passes : (op : Op) (a b : Term) → BoundsPass a b → BoundsPass b a → all_atoms test (compare_formula schema scope op a b) ≡ true
    compare_passes op a b first second =
        chosen (is_null_term schema scope a || is_null_term schema scope b) nothing (values_formula schema scope op a b) nothing_passes
        (chosen (is_text_term schema scope a || is_text_term schema scope b) (texts_formula schema scope op (of a) (of b)) (ways_formula schema scope a b (ways_of op)) (texts_pass op (of a) (of b)) (ways_pass op a b first second))

  module _ (null : (row column : ℕ) → test (atom.IsNull row column) ≡ true) (not_null : (row column : ℕ) → test (atom.NotNull row column) ≡ true) where
    pub null_passes_too : (t : Term) → (all_atoms test (is_null_formula schema scope t) ≡ true) × (all_atoms test (not_null_formula schema scope t) ≡ true)
    null_passes_too (term.Cell level entry column plus) =
        let row = unwrap_or (at_entry scope.levels level entry) 0 in
        (atoms_atom test (atom.IsNull row column) ∙ null row column, atoms_atom test (atom.NotNull row column) ∙ not_null row column)
    null_passes_too (term.Number value unit) = (nothing_passes, atoms_and test [])
    null_passes_too (term.Text text) = (nothing_passes, atoms_and test [])
    null_passes_too term.Null = (atoms_and test [], nothing_passes)

-- ---- the formulas of a condition, where those of comparisons and of IS NULL pass, and negations do

module _ (schema : List Table) (test : Atom → Bool)
    (opposite : (a : Atom) → test a ≡ true → all_atoms test (negated_atom a) ≡ true)
    (compared : (scope : Scope) (op : Op) (a b : Term) → all_atoms test (compare_formula schema scope op a b) ≡ true)
    (null_is : (scope : Scope) (t : Term) → (all_atoms test (is_null_formula schema scope t) ≡ true) × (all_atoms test (not_null_formula schema scope t) ≡ true)) where
  abbrev BothPass : Both → Type 0
  BothPass both = (all_atoms test both.true ≡ true) × (all_atoms test both.false ≡ true)

  abbrev Passes : Cond → Type 0
  Passes cond = (scope : Scope) → BothPass (translation schema cond scope)

  abbrev block_translation : Block → translating.BlockMeaning
  block_translation = fold-Block translating.Meaning translating.BlockMeaning (translation_step schema) (translating.block_step schema)

  abbrev InnerPasses : translating.BlockMeaning → Type 0
  InnerPasses block = (scope : Scope) → all_atoms test (block.cond scope).true ≡ true

  abbrev PassCond : Type 0
  PassCond = (cond : Cond) × Passes cond

  abbrev PassBlock : Type 0
  PassBlock = (block : Block) × InnerPasses (block_translation block)

  abbrev part_of : Cond-F PassCond PassBlock → Cond-F Cond Block
  part_of = map-Cond PassCond PassBlock Cond Block (λ e. e.0) (λ e. e.0)

  abbrev block_part_of : Block-F PassCond PassBlock → Block-F Cond Block
  block_part_of = map-Block PassCond PassBlock Cond Block (λ e. e.0) (λ e. e.0)

  abbrev layer_translation : Cond-F Cond Block → translating.Meaning
  layer_translation layer = translation_step schema (map-Cond Cond Block translating.Meaning translating.BlockMeaning (translation schema) block_translation layer)

  abbrev conds : List PassCond → List Cond
  conds parts = map (λ (e : PassCond). e.0) parts

  abbrev trues : Scope → List PassCond → List Formula
  trues scope parts = map (λ (part : translating.Meaning). (part scope).true) (map (translation schema) (conds parts))

  abbrev falses : Scope → List PassCond → List Formula
  falses scope parts = map (λ (part : translating.Meaning). (part scope).false) (map (translation schema) (conds parts))

  parts_pass : (parts : List PassCond) (scope : Scope) → (list_all (all_atoms test) (trues scope parts) ≡ true) × (list_all (all_atoms test) (falses scope parts) ≡ true)
  parts_pass [] scope = (refl, refl)
  parts_pass (part ∷ parts) scope =
      let here = part.1 scope in
      let rest = parts_pass parts scope in (
        both_are (all_atoms test (translation schema part.0 scope).true) (list_all (all_atoms test) (trues scope parts)) here.0 rest.0,
        both_are (all_atoms test (translation schema part.0 scope).false) (list_all (all_atoms test) (falses scope parts)) here.1 rest.1,
      )

  swapped : (b : Bool) (both : Both) → BothPass both → BothPass (swapped_if b both)
  swapped true both pass = (pass.1, pass.0)
  swapped false both pass = pass

  negation_passes : (g : Formula) → all_atoms test g ≡ true → all_atoms test (negated g) ≡ true
  negation_passes = negated_passes test test opposite

  exists_pass : (block : translating.BlockMeaning) → InnerPasses block → (scope : Scope) → BothPass (translating.exists_both schema block scope)
  exists_pass block passes scope =
      let body = translating.inner_true schema block scope in
      let inner = passes (inside scope block.own) in
      (exist_atoms test block.own body ∙ inner, for_all_atoms test block.own (negated body) ∙ negation_passes body inner)

  in_pass : (left : Term) (block : translating.BlockMeaning) (item : Term) → InnerPasses block → (scope : Scope) → BothPass (translating.in_both schema left block item scope)
  in_pass left block item passes scope =
      let body = translating.inner_true schema block scope in
      let inner = passes (inside scope block.own) in
      let yes = compare_formula schema (inside scope block.own) Eq left item in
      let no = compare_false_formula schema (inside scope block.own) Eq left item in (
        exist_atoms test block.own (f.And (body ∷ yes ∷ [])) ∙ two_and test body yes inner (compared (inside scope block.own) Eq left item),
        for_all_atoms test block.own (f.Or (negated body ∷ no ∷ [])) ∙ two_or test (negated body) no (negation_passes body inner) (compared (inside scope block.own) Ne left item),
      )

  scalar_pass : (op : Op) (left : Term) (block : translating.BlockMeaning) (item : Term) → InnerPasses block → (scope : Scope) → BothPass (translating.scalar_both schema op left block item scope)
  scalar_pass op left block item passes scope =
      let body = translating.inner_true schema block scope in
      let inner = passes (inside scope block.own) in
      let yes = compare_formula schema (inside scope block.own) op left item in
      let no = compare_false_formula schema (inside scope block.own) op left item in (
        exist_atoms test block.own (f.And (body ∷ yes ∷ [])) ∙ two_and test body yes inner (compared (inside scope block.own) op left item),
        exist_atoms test block.own (f.And (body ∷ no ∷ [])) ∙ two_and test body no inner (compared (inside scope block.own) (negation op) left item),
      )

  at_layer : (y : Cond-F PassCond PassBlock) (scope : Scope) → BothPass (layer_translation (part_of y) scope)
  at_layer Cond-F.True scope = (atoms_and test [], atoms_or test [])
  at_layer Cond-F.False scope = (atoms_or test [], atoms_and test [])
  at_layer (Cond-F.And parts) scope = let each = parts_pass parts scope in (atoms_and test (trues scope parts) ∙ each.0, atoms_or test (falses scope parts) ∙ each.1)
  at_layer (Cond-F.Or parts) scope = let each = parts_pass parts scope in (atoms_or test (trues scope parts) ∙ each.0, atoms_and test (falses scope parts) ∙ each.1)
  at_layer (Cond-F.Not part) scope = let both = part.1 scope in (both.1, both.0)
  at_layer (Cond-F.Compare op left right span) scope = (compared scope op left right, compared scope (negation op) left right)
  at_layer (Cond-F.IsNull t not_so span) scope = swapped not_so (record { true = is_null_formula schema scope t; false = not_null_formula schema scope t }) (null_is scope t)
  at_layer (Cond-F.Exists block span) scope = exists_pass (block_translation block.0) block.1 scope
  at_layer (Cond-F.In t block item not_so span) scope = swapped not_so (translating.in_both schema t (block_translation block.0) item scope) (in_pass t (block_translation block.0) item block.1 scope)
  at_layer (Cond-F.Scalar op left block item span) scope = scalar_pass op left (block_translation block.0) item block.1 scope

  cond_rolled : (y : Cond-F PassCond PassBlock) → Passes (roll-Cond (part_of y))
  cond_rolled y scope =
      let translated = fold-roll-Cond translating.Meaning translating.BlockMeaning (translation_step schema) (translating.block_step schema) (part_of y) in
      subst (λ (m : translating.Meaning). BothPass (m scope)) (sym translated) (at_layer y scope)

  block_rolled : (y : Block-F PassCond PassBlock) → InnerPasses (block_translation (roll-Block (block_part_of y)))
  block_rolled y =
      let translated = fold-roll-Block translating.Meaning translating.BlockMeaning (translation_step schema) (translating.block_step schema) (block_part_of y) in
      subst InnerPasses (sym translated) (λ scope. (y.cond.1 scope).0)

  pub translation_passes : (cond : Cond) (scope : Scope) → BothPass (translation schema cond scope)
  translation_passes =
      ind-Cond Passes (λ block. InnerPasses (block_translation block))
      (λ x y is. subst (λ z. Passes (roll-Cond z)) is (cond_rolled y))
      (λ x y is. subst (λ z. InnerPasses (block_translation (roll-Block z))) is (block_rolled y))
