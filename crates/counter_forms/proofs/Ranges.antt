-- The formulas of a condition with small numbers have bounds from -2^64 to 2^64 - 1, and so have their negations.
use Rattle.std.proofs.Common.{◌≡◌, ◌∙◌, ◌+◌, ◌-◌, ◌^◌, ◌≤◌, ap, sym, refl, subst, ℕ, ℤ, pos, neg_ℤ, ◌-ℤ◌, Bool, true, false, ◌&&◌, List, [], ◌∷◌, map, arith}
use Rattle.std.proofs.lemmas.Int.{ints}
use Rattle.std.specs.List.{AllByRecursion, list_all}
use Rattle.lint_base.proofs.Lists.{both_left, both_right}
use Rattle.lint_tables.specs.declared.op.Op.{Op}
use Rattle.lint_tables.specs.declared.op.Op.TheVariants.{Eq, Ne}
use Rattle.lint_tables.specs.Operators.{negation}
use Rattle.lint_core.specs.declared.condition.Block.{Block, out-Block, fold_out-Block}
use Rattle.lint_core.specs.declared.condition.Cond.{Cond, out-Cond, fold_out-Cond, map-Cond}
use Rattle.lint_core.specs.declared.condition.Cond.TheOpen.{Cond-F}
use Rattle.lint_core.specs.declared.condition.Cond.TheVariants as c
use Rattle.lint_core.specs.declared.condition.Term.{Term}
use Rattle.lint_core.specs.declared.condition.Term.TheVariants as term
use Rattle.lint_core.specs.declared.schema.Table.{Table}
use Rattle.lint_core.specs.declared.scope.Scope.{Scope}
use Rattle.lint_core.specs.Domain.{int_le}
use Rattle.sort_formula.specs.declared.formula.Atom.{Atom}
use Rattle.sort_formula.specs.declared.formula.Formula.{Formula}
use Rattle.sort_formula.specs.declared.formula.Formula.TheVariants as f
use Rattle.sort_formula.specs.Negated.{negated}
use Rattle.sort_formula.specs.Sides.{added_to, compare_formula, compare_false_formula, is_null_formula, not_null_formula}
use Rattle.sort_formula.specs.Translation as translating
use Rattle.sort_formula.specs.Translation.{Both, BlockMeaning, Meaning, exist_rows, exists_both, in_both, inner_true, inside, scalar_both, swapped_if, translation}
use Rattle.truth_formula.specs.inner.Parts.{block_translation}
use Rattle.truth_laws.proofs.Atoms.{all_atoms, atoms_and, atoms_or, compare_passes, exist_atoms, for_all_atoms, null_passes_too, two_and, two_or}
use Rattle.truth_laws.proofs.Bound.{is_in_range, negated_in_range}
use Rattle.truth_laws.proofs.Fitting.{both_are}
use Rattle.question_truths.proofs.ByParts.{by_parts}
use Rattle.counter_forms.specs.SmallNumbers.{has_small_numbers, is_small, term_is_small}
use Rattle.counter_forms.proofs.SmallLayers.{block_small, small_and, small_compare, small_exists, small_in, small_not, small_or, small_scalar}
use Rattle.counter_forms.proofs.SmallParts.{Small}

abbrev pub in_range : Atom → Bool
in_range = is_in_range (2 ^ 64 - 1)

abbrev pub InRange : Formula → Type 0
InRange g = all_atoms in_range g ≡ true

-- ---- differences of small numbers

differ_low : (half less_half : ℕ) (x y : ℤ) (less : ℕ) → half ≡ less_half + 1 → less ≤ 1 → int_le (neg_ℤ (pos half)) y ≡ true → int_le x (pos less_half) ≡ true →
    int_le (neg_ℤ (pos (half + half))) (y -ℤ x -ℤ pos less) ≡ true
differ_low half less_half x y less same one low high = grind (arith, ints)

differ_high : (half less_half : ℕ) (x y : ℤ) (less : ℕ) → half ≡ less_half + 1 → int_le (neg_ℤ (pos half)) x ≡ true → int_le y (pos less_half) ≡ true →
    int_le (y -ℤ x -ℤ pos less) (pos (half + less_half)) ≡ true
differ_high half less_half x y less same low high = grind (arith, ints)

pub differ_in_range : (x y : ℤ) (less : ℕ) → less ≤ 1 → is_small x ≡ true → is_small y ≡ true →
    (int_le (neg_ℤ (pos (2 ^ 64))) (y -ℤ x -ℤ pos less) && int_le (y -ℤ x -ℤ pos less) (pos (2 ^ 64 - 1))) ≡ true
differ_in_range x y less one small_x small_y =
    let low = λ (n : ℤ). int_le (neg_ℤ (pos (2 ^ 63))) n in
    let high = λ (n : ℤ). int_le n (pos (2 ^ 63 - 1)) in
    both_are (int_le (neg_ℤ (pos (2 ^ 64))) (y -ℤ x -ℤ pos less)) (int_le (y -ℤ x -ℤ pos less) (pos (2 ^ 64 - 1)))
    (differ_low (2 ^ 63) (2 ^ 63 - 1) x y less refl one (both_left (low y) (high y) small_y) (both_right (low x) (high x) small_x))
    (differ_high (2 ^ 63) (2 ^ 63 - 1) x y less refl (both_left (low x) (high x) small_x) (both_right (low y) (high y) small_y))

-- ---- conditions

module _ (schema : List Table) where
  added_small : (scope : Scope) (t : Term) → term_is_small t ≡ true → is_small (added_to schema scope t) ≡ true
  added_small scope (term.Cell level entry column added) small = small
  added_small scope (term.Number number unit) small = small
  added_small scope (term.Text text) small = refl
  added_small scope term.Null small = refl

  compared : (scope : Scope) (op : Op) (a b : Term) → term_is_small a ≡ true → term_is_small b ≡ true → InRange (compare_formula schema scope op a b)
  compared scope op a b first second =
      let x = added_small scope a first in
      let y = added_small scope b second in
      let p = added_to schema scope a in
      let q = added_to schema scope b in
      compare_passes in_range schema scope (λ left right. refl) (λ left right. refl) op a b (λ less one. differ_in_range p q less one x y) (λ less one. differ_in_range q p less one y x)

  pub null_in_range : (scope : Scope) (t : Term) → InRange (is_null_formula schema scope t) × InRange (not_null_formula schema scope t)
  null_in_range scope t = null_passes_too in_range schema scope (λ row column. refl) (λ row column. refl) t

  abbrev BothIn : Both → Type 0
  BothIn both = InRange both.true × InRange both.false

  abbrev InnerIn : BlockMeaning → Type 0
  InnerIn block = (scope : Scope) → InRange (block.cond scope).true

  swapped : (b : Bool) (both : Both) → BothIn both → BothIn (swapped_if b both)
  swapped true both in_both = (in_both.1, in_both.0)
  swapped false both in_both = in_both

  opposite : (g : Formula) → InRange g → InRange (negated g)
  opposite = negated_in_range (2 ^ 64 - 1)

  exists_in : (block : BlockMeaning) → InnerIn block → (scope : Scope) → BothIn (exists_both schema block scope)
  exists_in block inner scope =
      let body = inner_true schema block scope in
      let passes = inner (inside scope block.own) in
      (exist_atoms in_range block.own body ∙ passes, for_all_atoms in_range block.own (negated body) ∙ opposite body passes)

  module _ (left : Term) (block : BlockMeaning) (item : Term) (first : term_is_small left ≡ true) (second : term_is_small item ≡ true) (inner : InnerIn block) (scope : Scope) where
    abbrev body : Formula
    body = inner_true schema block scope

    abbrev within : Scope
    within = inside scope block.own

    some_row : (op : Op) → InRange (exist_rows block.own (f.And (body ∷ compare_formula schema within op left item ∷ [])))
    some_row op =
        let yes = compare_formula schema within op left item in
        exist_atoms in_range block.own (f.And (body ∷ yes ∷ [])) ∙ two_and in_range body yes (inner within) (compared within op left item first second)

    in_in : BothIn (in_both schema left block item scope)
    in_in =
        let differs = compare_false_formula schema within Eq left item in (
          some_row Eq,
          for_all_atoms in_range block.own (f.Or (negated body ∷ differs ∷ []))
              ∙ two_or in_range (negated body) differs (opposite body (inner within)) (compared within Ne left item first second),
        )

    scalar_in : (op : Op) → BothIn (scalar_both schema op left block item scope)
    scalar_in op = (some_row op, some_row (negation op))

  -- ---- a layer of the translation

  abbrev layer_translation : Cond-F Cond Block → Meaning
  layer_translation layer = translating.translation_step schema (map-Cond Cond Block Meaning BlockMeaning (translation schema) (block_translation schema) layer)

  by_layer : (cond : Cond) (layer : Cond-F Cond Block) → out-Cond cond ≡ layer → (scope : Scope) → BothIn (layer_translation layer scope) → BothIn (translation schema cond scope)
  by_layer cond layer is scope both =
      let translated : translation schema cond ≡ layer_translation layer =
      fold_out-Cond Meaning BlockMeaning (translating.translation_step schema) (translating.block_step schema) cond ∙ ap layer_translation is in
      subst (λ (m : Meaning). BothIn (m scope)) (sym translated) both

  abbrev Ranged : Cond → Type 0
  Ranged cond = Small cond → (scope : Scope) → BothIn (translation schema cond scope)

  block_inner : (block : Block) → Ranged (out-Block block).cond → block_small block ≡ true → InnerIn (block_translation schema block)
  block_inner block ranged small =
      subst InnerIn (sym (fold_out-Block Meaning BlockMeaning (translating.translation_step schema) (translating.block_step schema) block)) (λ scope. (ranged small scope).0)

  abbrev trues : Scope → List Cond → List Formula
  trues scope parts = map (λ (part : Meaning). (part scope).true) (map (translation schema) parts)

  abbrev falses : Scope → List Cond → List Formula
  falses scope parts = map (λ (part : Meaning). (part scope).false) (map (translation schema) parts)

  parts_in : (parts : List Cond) → AllByRecursion Ranged parts → list_all has_small_numbers parts ≡ true → (scope : Scope) →
      (list_all (all_atoms in_range) (trues scope parts) ≡ true) × (list_all (all_atoms in_range) (falses scope parts) ≡ true)
  parts_in [] each all scope = (refl, refl)
  parts_in (part ∷ parts) each all scope =
      let here = each.0 (both_left (has_small_numbers part) (list_all has_small_numbers parts) all) scope in
      let later = parts_in parts each.1 (both_right (has_small_numbers part) (list_all has_small_numbers parts) all) scope in (
        both_are (all_atoms in_range (translation schema part scope).true) (list_all (all_atoms in_range) (trues scope parts)) here.0 later.0,
        both_are (all_atoms in_range (translation schema part scope).false) (list_all (all_atoms in_range) (falses scope parts)) here.1 later.1,
      )

  pub condition_in_range : (cond : Cond) → Ranged cond
  condition_in_range = by_parts Ranged (record {
    when_true = λ small scope. by_layer c.True _ c.outs-True scope (atoms_and in_range [], atoms_or in_range []);
    when_false = λ small scope. by_layer c.False _ c.outs-False scope (atoms_or in_range [], atoms_and in_range []);
    when_and = λ parts each small scope.
        let both = parts_in parts each (sym (small_and parts) ∙ small) scope in
        by_layer (c.And parts) _ (c.outs-And parts) scope (atoms_and in_range (trues scope parts) ∙ both.0, atoms_or in_range (falses scope parts) ∙ both.1);
    when_or = λ parts each small scope.
        let both = parts_in parts each (sym (small_or parts) ∙ small) scope in
        by_layer (c.Or parts) _ (c.outs-Or parts) scope (atoms_or in_range (trues scope parts) ∙ both.0, atoms_and in_range (falses scope parts) ∙ both.1);
    when_not = λ part inner small scope.
        let both = inner (sym (small_not part) ∙ small) scope in
        by_layer (c.Not part) _ (c.outs-Not part) scope (both.1, both.0);
    when_compare = λ op left right span small scope.
        let both = sym (small_compare op left right span) ∙ small in
        let first = both_left (term_is_small left) (term_is_small right) both in
        let second = both_right (term_is_small left) (term_is_small right) both in
        by_layer (c.Compare op left right span) _ (c.outs-Compare op left right span) scope (compared scope op left right first second, compared scope (negation op) left right first second);
    when_is_null = λ t not_so span small scope.
        by_layer (c.IsNull t not_so span) _ (c.outs-IsNull t not_so span) scope
        (swapped not_so (record { true = is_null_formula schema scope t; false = not_null_formula schema scope t }) (null_in_range scope t));
    when_exists = λ block span inner small scope.
        by_layer (c.Exists block span) _ (c.outs-Exists block span) scope
        (exists_in (block_translation schema block) (block_inner block inner (sym (small_exists block span) ∙ small)) scope);
    when_in = λ t block item not_so span inner small scope.
        let all = sym (small_in t block item not_so span) ∙ small in
        let terms = both_left (term_is_small t && term_is_small item) (block_small block) all in
        let meaning = block_translation schema block in
        let within = block_inner block inner (both_right (term_is_small t && term_is_small item) (block_small block) all) in
        by_layer (c.In t block item not_so span) _ (c.outs-In t block item not_so span) scope
        (swapped not_so (in_both schema t meaning item scope)
        (in_in t meaning item (both_left (term_is_small t) (term_is_small item) terms) (both_right (term_is_small t) (term_is_small item) terms) within scope));
    when_scalar = λ op left block item span inner small scope.
        let all = sym (small_scalar op left block item span) ∙ small in
        let terms = both_left (term_is_small left && term_is_small item) (block_small block) all in
        let meaning = block_translation schema block in
        let within = block_inner block inner (both_right (term_is_small left && term_is_small item) (block_small block) all) in
        by_layer (c.Scalar op left block item span) _ (c.outs-Scalar op left block item span) scope
        (scalar_in left meaning item (both_left (term_is_small left) (term_is_small item) terms) (both_right (term_is_small left) (term_is_small item) terms) within scope op);
  })
