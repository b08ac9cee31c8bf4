-- A CHECK can stand at the row of its table, and its axiom is a sentence.
use Rattle.std.proofs.Common.{◌≡◌, ◌∙◌, refl, sym, ap, subst, ℕ, zero, suc, ◌+◌, ◌^◌, ◌<◌, Bool, true, false, ◌&&◌, List, [], ◌∷◌, map, arith}
use Rattle.std.specs.List.{list_all}
use Rattle.std.specs.Prelude.{slice_get, option_and_then, nat_le, sum}
use Rattle.lint_core.specs.declared.condition.Block.{Block, fold-Block}
use Rattle.lint_core.specs.declared.condition.Cond.{Cond, ind-Cond, roll-Cond, fold-roll-Cond, map-Cond}
use Rattle.lint_core.specs.declared.condition.Cond.TheOpen.{Cond-F}
use Rattle.lint_core.specs.declared.schema.Table.{Table}
use Rattle.lint_core.specs.Fits.{at_entry}
use Rattle.lint_core.specs.Fits.{cond_fits, check_fits, count_conditions, is_flat, flat_step}
use Rattle.sort_formula.specs.declared.formula.Formula.{Formula}
use Rattle.sort_formula.specs.declared.formula.Formula.TheVariants as f
use Rattle.sort_formula.specs.Negated.{negated}
use Rattle.sort_formula.specs.Sentences.{formula_fits, is_sentence}
use Rattle.lint_core.specs.declared.scope.Scope.{Scope}
use Rattle.sort_formula.specs.Translation.{is_false_formula}
use Rattle.lint_base.proofs.Lists.{both_left, both_right}
use Rattle.sort_formula.specs.Bounds.{is_within}
use Rattle.lint_core.specs.declared.scope.Scope.{Scope as Given}
use Rattle.truth_formula.specs.Scopes.{CanStand, count_entries, entries_step, block_step}
use Rattle.truth_laws.proofs.Bound.{condition_joins_none, negated_is_bound}
use Rattle.constraint_axioms.proofs.Bounds.{bound_forall}
use Rattle.truth_laws.proofs.Checks.{FormulasFit}

-- ---- a condition without a subquery has no entries in subqueries

abbrev NoEntries : Cond → Type 0
NoEntries cond = is_flat cond ≡ true → count_entries cond ≡ 0

abbrev FlatCond : Type 0
FlatCond = (cond : Cond) × NoEntries cond

abbrev AnyBlock : Type 0
AnyBlock = (block : Block) × Unit {0}

abbrev part_of : Cond-F FlatCond AnyBlock → Cond-F Cond Block
part_of = map-Cond FlatCond AnyBlock Cond Block (λ e. e.0) (λ e. e.0)

abbrev conds : List FlatCond → List Cond
conds parts = map (λ (e : FlatCond). e.0) parts

abbrev block_flat : Block → Bool
block_flat = fold-Block Bool Bool flat_step (λ block. false)

abbrev block_entries : Block → ℕ
block_entries = fold-Block ℕ ℕ entries_step block_step

parts_have : (parts : List FlatCond) → list_all (λ part. part) (map is_flat (conds parts)) ≡ true → sum (map count_entries (conds parts)) ≡ 0
parts_have [] flat = refl
parts_have (part ∷ parts) flat =
    let rest_flat = list_all (λ part. part) (map is_flat (conds parts)) in
    let here = part.1 (both_left (is_flat part.0) rest_flat flat) in
    let rest = parts_have parts (both_right (is_flat part.0) rest_flat flat) in
    ap (λ first. sum (first ∷ map count_entries (conds parts))) here ∙ rest

at_layer : (y : Cond-F FlatCond AnyBlock) → flat_step (map-Cond Cond Block Bool Bool is_flat block_flat (part_of y)) ≡ true →
    entries_step (map-Cond Cond Block ℕ ℕ count_entries block_entries (part_of y)) ≡ 0
at_layer Cond-F.True flat = refl
at_layer Cond-F.False flat = refl
at_layer (Cond-F.And parts) flat = parts_have parts flat
at_layer (Cond-F.Or parts) flat = parts_have parts flat
at_layer (Cond-F.Not part) flat = part.1 flat
at_layer (Cond-F.Compare op left right span) flat = refl
at_layer (Cond-F.IsNull t negated span) flat = refl
at_layer (Cond-F.Exists block span) flat = cc
at_layer (Cond-F.In t block item negated span) flat = cc
at_layer (Cond-F.Scalar op left block item span) flat = cc

rolled : (y : Cond-F FlatCond AnyBlock) → NoEntries (roll-Cond (part_of y))
rolled y flat =
    fold-roll-Cond ℕ ℕ entries_step block_step (part_of y)
    ∙ at_layer y (sym (fold-roll-Cond Bool Bool flat_step (λ block. false) (part_of y)) ∙ flat)

no_entries : (cond : Cond) → NoEntries cond
no_entries = ind-Cond NoEntries (λ block. Unit {0}) (λ x y is. subst (λ z. NoEntries (roll-Cond z)) is (rolled y)) (λ x y is. tt)

-- ---- at the row

module _ (schema : List Table) (number : ℕ) (check : Cond) (right : check_fits schema number check ≡ true) where
  abbrev size : Bool
  size = nat_le (count_conditions check) 65536

  meant : cond_fits schema ((number ∷ []) ∷ []) check ≡ true
  meant = both_right (is_flat check && size) (cond_fits schema ((number ∷ []) ∷ []) check) right

  flat : is_flat check ≡ true
  flat = both_left (is_flat check) size (both_left (is_flat check && size) (cond_fits schema ((number ∷ []) ∷ []) check) right)

  abbrev given : Given
  given = record { levels = (0 ∷ []) ∷ []; tables = (number ∷ []) ∷ []; depth = 1 }

  room : (count : ℕ) → count ≡ 0 → 1 + count < 2 ^ 32
  room count none = omega (arith, none)

  pub can_stand : CanStand schema check given
  can_stand = record {
    fits = meant;
    variables = refl;
    below = refl;
    room = room (count_entries check) (no_entries check flat);
  }

  abbrev scope : Scope
  scope = record { levels = (0 ∷ []) ∷ []; tables = (number ∷ []) ∷ []; depth = 1 }

  abbrev violated : Formula
  violated = is_false_formula schema check scope

  violated_fits : FormulasFit → formula_fits schema violated (number ∷ []) ≡ true
  violated_fits fit = fit schema check scope meant refl (number ∷ []) refl (λ entry named. first entry) (λ level entry. refl)
    where
      first : (entry : ℕ) → option_and_then (slice_get (number ∷ [])) (at_entry ((0 ∷ []) ∷ []) 0 entry) ≡ at_entry ((number ∷ []) ∷ []) 0 entry
      first zero = refl
      first (suc entry) = refl

  pub check_sentence : FormulasFit → is_within (2 ^ 65) violated ≡ true → is_sentence (f.Forall number (negated violated)) ≡ true
  check_sentence fit low =
      bound_forall number (negated violated) []
      ∙ negated_is_bound schema violated (number ∷ []) (violated_fits fit) (condition_joins_none schema check scope).1 low
