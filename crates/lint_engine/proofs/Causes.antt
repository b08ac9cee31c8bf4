-- A right answer is CyclicNesting exactly where there is a cycle, and Large exactly where a limit is passed.
use Rattle.std.proofs.Common.{◌≡◌, refl, subst, ℕ, ◌<◌, ◌^◌, List, [], ◌∷◌, arith}
use Rattle.std.proofs.lemmas.Option.{slice_get_within, get_or_from_slice_get}
use Rattle.std.specs.Prelude.{◌↔◌}
use Rattle.lint_core.specs.declared.database.Value.{Value}
use Rattle.lint_core.specs.declared.query.Query.{Query}
use Rattle.lint_core.specs.declared.query.Question.{Question}
use Rattle.lint_core.specs.declared.run.Answer.{Answer}
use Rattle.lint_core.specs.declared.run.Answer.TheVariants.{Always, NotAlways, Moot, Blocked, CyclicKeys, CyclicNesting, Large, Spent}
use Rattle.lint_core.specs.declared.schema.Table.{Table}
use Rattle.sort_formula.specs.declared.formula.Formula.{Formula}
use Rattle.sort_formula.specs.Nodes.{nodes}
use Rattle.sorted_skolem.specs.Graph.{IsCycle, IsAcyclic}
use Rattle.ground_laws.proofs.Orders.{one_order}
use Rattle.lint_engine.specs.Asking.{Numbers, InOrder, IsWithinLimits, IsAskAnswer, sentences}
use Rattle.lint_engine.specs.Limits.{HaveFewNodes, HasManyNodes, AreFew, IsTooLarge, by_nodes, by_rows, by_clauses}

never_many : (ss : List Formula) → HaveFewNodes ss → HasManyNodes ss → ⊥
never_many ss few many =
    let low : nodes many.sentence < 2 ^ 32 =
    subst (λ (g : Formula). nodes g < 2 ^ 32) (get_or_from_slice_get ss many.number many.sentence many.sentence many.stands)
    (few many.number many.sentence (slice_get_within ss many.number many.sentence many.stands)) in
    let high = many.many in
    omega arith

-- within the limits none is passed
pub never_large : (ss : List Formula) (order : List ℕ) → AreFew ss order → (rows clauses : ℕ) → IsTooLarge ss order rows clauses → ⊥
never_large ss order few rows clauses (by_nodes many is_rows is_clauses) = never_many ss few.nodes many
never_large ss order few rows clauses (by_rows nodes more is_rows is_clauses) = let low = few.rows in omega arith
never_large ss order few rows clauses (by_clauses nodes low more is_rows is_clauses) = let less = few.clauses in omega arith

module _ (schema : List Table) (query : Query) (question : Question) (given : Value) (numbers : Numbers) (budget : ℕ) where
  abbrev ss : List Formula
  ss = sentences schema query question given

  abbrev Ordered : (List ℕ → Type 0) → Type 0
  Ordered So = InOrder schema query question given So

  abbrev IsRight : Answer → Type 0
  IsRight answer = IsAskAnswer schema query question given numbers budget answer

  -- ---- cycles

  abbrev Nests : Answer → Type 0
  Nests answer = (cycle : List ℕ) × (answer ≡ CyclicNesting cycle)

  abbrev HasCycle : Type 0
  HasCycle = (cycle : List ℕ) × IsCycle ss cycle

  none_nests : (answer : Answer) → IsAcyclic ss → (Nests answer → ⊥) → Nests answer ↔ HasCycle
  none_nests answer acyclic other = (λ nests. absurd (other nests), λ has. absurd (acyclic has.0 has.1.closed))

  pub nesting : (answer : Answer) → IsRight answer → Nests answer ↔ HasCycle
  nesting (CyclicNesting cycle) is = (λ nests. (cycle, is), λ has. (cycle, refl))
  nesting (Large rows clauses) is = none_nests (Large rows clauses) is.acyclic (λ nests. let same = nests.1 in cc)
  nesting (Spent tried) is = none_nests (Spent tried) is.acyclic (λ nests. let same = nests.1 in cc)
  nesting (Always cert) is = none_nests (Always cert) is.limits.acyclic (λ nests. let same = nests.1 in cc)
  nesting (NotAlways []) is = absurd is
  nesting (NotAlways (counter ∷ [])) is = none_nests (NotAlways (counter ∷ [])) is.limits.acyclic (λ nests. let same = nests.1 in cc)
  nesting (NotAlways (counter ∷ other ∷ counters)) is = absurd is
  nesting (CyclicKeys cycle counter key) is = absurd is
  nesting Moot is = absurd is
  nesting (Blocked by) is = absurd is

  -- ---- limits

  abbrev IsSaidLarge : Answer → Type 0
  IsSaidLarge answer = (rows : ℕ) × (clauses : ℕ) × (answer ≡ Large rows clauses)

  abbrev IsOver : Type 0
  IsOver = Ordered (λ order. (rows : ℕ) × (clauses : ℕ) × IsTooLarge ss order rows clauses)

  none_large : (answer : Answer) → (IsOver → ⊥) → (IsSaidLarge answer → ⊥) → IsSaidLarge answer ↔ IsOver
  none_large answer never other = (λ said. absurd (other said), λ over. absurd (never over))

  within : Ordered (IsWithinLimits schema query question given) → IsOver → ⊥
  within limits over =
      let same : over.order ≡ limits.order = one_order ss over.order limits.order over.is_order limits.is_order in
      never_large ss limits.order limits.so over.so.0 over.so.1 (subst (λ order. IsTooLarge ss order over.so.0 over.so.1) same over.so.2)

  pub large : (answer : Answer) → IsRight answer → IsSaidLarge answer ↔ IsOver
  large (CyclicNesting cycle) is = none_large (CyclicNesting cycle) (λ over. over.acyclic cycle is.closed) (λ said. let same = said.2 in cc)
  large (Large rows clauses) is =
      (λ said. record { acyclic = is.acyclic; order = is.order; is_order = is.is_order; so = (rows, clauses, is.so) }, λ over. (rows, clauses, refl))
  large (Spent tried) is =
      none_large (Spent tried) (within (record { acyclic = is.acyclic; order = is.order; is_order = is.is_order; so = is.so.within })) (λ said. let same = said.2 in cc)
  large (Always cert) is = none_large (Always cert) (within is.limits) (λ said. let same = said.2 in cc)
  large (NotAlways []) is = absurd is
  large (NotAlways (counter ∷ [])) is = none_large (NotAlways (counter ∷ [])) (within is.limits) (λ said. let same = said.2 in cc)
  large (NotAlways (counter ∷ other ∷ counters)) is = absurd is
  large (CyclicKeys cycle counter key) is = absurd is
  large Moot is = absurd is
  large (Blocked by) is = absurd is
