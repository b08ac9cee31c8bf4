-- The kinds of conditions with a subquery, by what it selects; and how an answer goes on from a part's answer.
use Rattle.std.proofs.Common.{◌≡◌, ◌∙◌, ap, refl, subst, ℕ, Bool, List}
use Rattle.std.specs.Prelude.{Result, Ok, Err}
use Rattle.lint_base.specs.declared.place.Span.{Span}
use Rattle.lint_core.proofs.Conditions.{block_truth_is, truth_exists, truth_in, truth_scalar}
use Rattle.lint_core.specs.Comparison.{compare}
use Rattle.lint_core.specs.Condition.{BlockMeaning, Inner, exists_truth, in_truth, inner_bindings, items_at, scalar_value, selected, term_value, truth}
use Rattle.lint_core.specs.Evaluation.{Evaluated, and_then, map_ok}
use Rattle.lint_core.specs.Fits.{tables_of}
use Rattle.lint_core.specs.Truth.{negated_if}
use Rattle.lint_core.specs.declared.condition.Block.{Block, out-Block}
use Rattle.lint_core.specs.declared.condition.Cond.TheVariants as c
use Rattle.lint_core.specs.declared.condition.Cond.{Cond}
use Rattle.lint_core.specs.declared.condition.Term.{Term}
use Rattle.lint_core.specs.declared.database.Database.{Database}
use Rattle.lint_core.specs.declared.database.Truth.{Truth}
use Rattle.lint_core.specs.declared.database.Value.{Value}
use Rattle.lint_tables.specs.declared.op.Op.{Op}
use Rattle.sql_meaning.proofs.Truths.{stops_map}
use Rattle.sql_meaning.specs.Stops.{Gives}
use Rattle.sql_meaning.specs.declared.stop.TruthStop.{TruthStop}
use Rattle.sql_meaning.specs.declared.stop.TruthStop.TheVariants.{TwoRows, NoMemory}

map_twice : {A B C : Type 0} (g : B → C) (f : A → B) (x : Evaluated A) → map_ok (λ a. g (f a)) x ≡ map_ok g (map_ok f x)
map_twice g f (Ok a) = refl
map_twice g f (Err place) = refl

then_map : {A B C : Type 0} (g : B → Evaluated C) (f : A → B) (x : Evaluated A) → and_then (λ a. g (f a)) x ≡ and_then g (map_ok f x)
then_map g f (Ok a) = refl
then_map g f (Err place) = refl

pub gives_map : {A B : Type 0} (f : A → B) (x : Evaluated A) (a : A) → Gives x (Ok a) → Gives (map_ok f x) (Ok (f a))
gives_map f (Ok defined) a gives = ap f gives
gives_map f (Err place) a gives = absurd gives

pub gives_then : {A B : Type 0} (f : A → Evaluated B) (x : Evaluated A) (a : A) (result : Result B TruthStop) → Gives x (Ok a) → Gives (f a) result → Gives (and_then f x) result
gives_then f (Ok defined) a result gives later = subst (λ a. Gives (f a) result) gives later
gives_then f (Err place) a result gives later = absurd gives

pub stops_then : {A B : Type 0} (f : A → Evaluated B) (x : Evaluated A) (stop : TruthStop) → Gives x (Err stop) → Gives (and_then f x) (Err stop)
stops_then f (Ok a) (TwoRows span) gives = absurd gives
stops_then f (Ok a) NoMemory gives = elim (f a) as (λ x. Gives x (Err NoMemory)) [ Ok b ↦ tt | Err place ↦ tt ]
stops_then f (Err place) (TwoRows span) gives = gives
stops_then f (Err place) NoMemory gives = tt

module _ (db : Database) (block : Block) (tables binding : List (List ℕ)) where
  -- the inner bindings of the block that are selected
  abbrev pub chosen : Evaluated (List Inner)
  chosen = selected (inner_bindings db (tables_of (out-Block block).entries) (truth db (out-Block block).cond) tables binding)

  pub exists_is : (span : Span) → truth db (c.Exists block span) tables binding ≡ map_ok exists_truth chosen
  exists_is span = truth_exists db block span tables binding ∙ ap (λ (m : BlockMeaning). map_ok exists_truth (selected (m.bindings tables binding))) (block_truth_is db block)

  abbrev pub in_of : Term → Bool → List Value → Truth
  in_of term negated values = negated_if negated (in_truth (term_value db tables binding term) values)

  pub in_is : (term item : Term) (negated : Bool) (span : Span) →
      truth db (c.In term block item negated span) tables binding ≡ map_ok (in_of term negated) (map_ok (items_at db item) chosen)
  in_is term item negated span =
      truth_in db term block item negated span tables binding
      ∙ (ap (λ (m : BlockMeaning). map_ok (λ inners. in_of term negated (items_at db item inners)) (selected (m.bindings tables binding))) (block_truth_is db block)
      ∙ map_twice (in_of term negated) (items_at db item) chosen)

  abbrev pub scalar_of : Op → Term → List Value → Evaluated Truth
  scalar_of op left values = map_ok (compare op (term_value db tables binding left)) (scalar_value (out-Block block).span values)

  pub scalar_is : (op : Op) (left item : Term) (span : Span) →
      truth db (c.Scalar op left block item span) tables binding ≡ and_then (scalar_of op left) (map_ok (items_at db item) chosen)
  scalar_is op left item span =
      truth_scalar db op left block item span tables binding
      ∙ (ap (λ (m : BlockMeaning). and_then (λ inners. map_ok (compare op (term_value db tables binding left)) (scalar_value m.place (items_at db item inners))) (selected (m.bindings tables binding))) (block_truth_is db block)
      ∙ then_map (scalar_of op left) (items_at db item) chosen)

  pub in_gives : (cond : Cond) (term item : Term) (negated : Bool) (span : Span) (items : List Value) (left : Value) (found result : Truth) →
      cond ≡ c.In term block item negated span → Gives (map_ok (items_at db item) chosen) (Ok items) →
      left ≡ term_value db tables binding term → found ≡ in_truth left items → result ≡ negated_if negated found →
      Gives (truth db cond tables binding) (Ok result)
  in_gives cond term item negated span items left found result is selects left_is found_is result_is =
      rw (is, in_is term item negated span, result_is, found_is, left_is)
      (gives_map (in_of term negated) (map_ok (items_at db item) chosen) items selects)

  pub in_stops : (cond : Cond) (term item : Term) (negated : Bool) (span : Span) (stop : TruthStop) →
      cond ≡ c.In term block item negated span → Gives (map_ok (items_at db item) chosen) (Err stop) →
      Gives (truth db cond tables binding) (Err stop)
  in_stops cond term item negated span stop is selects =
      rw (is, in_is term item negated span) (stops_map (in_of term negated) (map_ok (items_at db item) chosen) stop selects)

  pub scalar_stops : (cond : Cond) (op : Op) (left item : Term) (span : Span) (stop : TruthStop) →
      cond ≡ c.Scalar op left block item span → Gives (map_ok (items_at db item) chosen) (Err stop) →
      Gives (truth db cond tables binding) (Err stop)
  scalar_stops cond op left item span stop is selects =
      rw (is, scalar_is op left item span) (stops_then (scalar_of op left) (map_ok (items_at db item) chosen) stop selects)

  pub scalar_value_stops : (cond : Cond) (op : Op) (left item : Term) (span : Span) (items : List Value) (stop : TruthStop) →
      cond ≡ c.Scalar op left block item span → Gives (map_ok (items_at db item) chosen) (Ok items) →
      Gives (scalar_value (out-Block block).span items) (Err stop) →
      Gives (truth db cond tables binding) (Err stop)
  scalar_value_stops cond op left item span items stop is selects value =
      rw (is, scalar_is op left item span)
      (gives_then (scalar_of op left) (map_ok (items_at db item) chosen) items (Err stop) selects
      (stops_map (compare op (term_value db tables binding left)) (scalar_value (out-Block block).span items) stop value))

  pub scalar_gives : (cond : Cond) (op : Op) (left item : Term) (span : Span) (items : List Value) (value : Value) (seen : Value) (result : Truth) →
      cond ≡ c.Scalar op left block item span → Gives (map_ok (items_at db item) chosen) (Ok items) →
      Gives (scalar_value (out-Block block).span items) (Ok value) → seen ≡ term_value db tables binding left → result ≡ compare op seen value →
      Gives (truth db cond tables binding) (Ok result)
  scalar_gives cond op left item span items value seen result is selects gives seen_is result_is =
      rw (is, scalar_is op left item span, result_is, seen_is)
      (gives_then (scalar_of op left) (map_ok (items_at db item) chosen) items (Ok (compare op (term_value db tables binding left) value)) selects
      (gives_map (compare op (term_value db tables binding left)) (scalar_value (out-Block block).span items) value gives))
