-- What points that refute a question say of it, whatever value is given.
use Rattle.std.proofs.Common.{◌≡◌, ◌∙◌, ap, refl, sym, ℕ, Bool, true, false, ◌&&◌, not, [], ◌∷◌}
use Rattle.std.specs.Prelude.{Ok, Err, if◌then◌else◌}
use Rattle.lint_core.specs.declared.database.Binding.{Binding}
use Rattle.lint_core.specs.declared.database.Database.{Database}
use Rattle.lint_core.specs.declared.database.Points.{Points}
use Rattle.lint_core.specs.declared.database.Points.TheVariants.{One, Two, Without}
use Rattle.lint_core.specs.declared.database.Value.{Value}
use Rattle.lint_core.specs.declared.database.Value.TheVariants.{Null}
use Rattle.lint_core.specs.declared.query.Query.{Query}
use Rattle.lint_core.specs.declared.query.Question.{Question}
use Rattle.lint_core.specs.declared.query.Question.TheVariants.{OneRow, Empty, NeedlessDistinct, Constant, Duplicate, NeedlessJoin, Implied, Impossible, SameRow, NullInNotIn}
use Rattle.lint_core.specs.Comparison.{are_not_distinct}
use Rattle.lint_core.specs.Evaluation.{Evaluated, map_ok}
use Rattle.lint_core.specs.Forms.{have_form, is_main_binding}
use Rattle.lint_core.specs.Question.{HoldsIn, all_true, clause, is_known_true, refutes, value_of_item, where_truth}
use Rattle.lint_engine.specs.Earlier.{is_constant}
use Rattle.meaning_laws.proofs.MeaningLawsDistinct.{value_decides}

module _ (db : Database) (query : Query) where
  -- of other questions no value is read
  same_clause : (question : Question) → is_constant question ≡ false → (given other : Value) (points : Points) → clause db query question given points ≡ clause db query question other points
  same_clause (OneRow sub) is given other (One one) = refl
  same_clause (OneRow sub) is given other (Two one two) = refl
  same_clause (OneRow sub) is given other (Without one) = refl
  same_clause Empty is given other (One one) = refl
  same_clause Empty is given other (Two one two) = refl
  same_clause Empty is given other (Without one) = refl
  same_clause NeedlessDistinct is given other (One one) = refl
  same_clause NeedlessDistinct is given other (Two one two) = refl
  same_clause NeedlessDistinct is given other (Without one) = refl
  same_clause (Constant item) is given other points = cc
  same_clause (Duplicate item second) is given other (One one) = refl
  same_clause (Duplicate item second) is given other (Two one two) = refl
  same_clause (Duplicate item second) is given other (Without one) = refl
  same_clause (NeedlessJoin entry) is given other (One one) = refl
  same_clause (NeedlessJoin entry) is given other (Two one two) = refl
  same_clause (NeedlessJoin entry) is given other (Without one) = refl
  same_clause (Implied predicate) is given other (One one) = refl
  same_clause (Implied predicate) is given other (Two one two) = refl
  same_clause (Implied predicate) is given other (Without one) = refl
  same_clause (Impossible predicate) is given other (One one) = refl
  same_clause (Impossible predicate) is given other (Two one two) = refl
  same_clause (Impossible predicate) is given other (Without one) = refl
  same_clause (SameRow entry second) is given other (One one) = refl
  same_clause (SameRow entry second) is given other (Two one two) = refl
  same_clause (SameRow entry second) is given other (Without one) = refl
  same_clause (NullInNotIn sub) is given other (One one) = refl
  same_clause (NullInNotIn sub) is given other (Two one two) = refl
  same_clause (NullInNotIn sub) is given other (Without one) = refl

  pub never_holds : (question : Question) → is_constant question ≡ false → (given other : Value) (points : Points) → refutes db query question given points ≡ true →
      HoldsIn db query question other → ⊥
  never_holds question is given other points refuted holds =
      let same : refutes db query question given points ≡ refutes db query question other points =
      ap (λ (c : Evaluated Bool). is_known_true (if have_form db query question points then c else Ok false)) (same_clause question is given other points) in
      let both : true ≡ false = sym refuted ∙ (same ∙ holds points) in
      cc

  -- ---- a constant column

  abbrev here : Binding → Evaluated Bool
  here binding = all_true (where_truth db query binding ∷ [])

  yes_of : (form : Bool) (said : Evaluated Bool) → is_known_true (if form then said else Ok false) ≡ true → (form ≡ true) × (said ≡ Ok true)
  yes_of true (Ok true) is = (refl, refl)
  yes_of true (Ok false) is = cc
  yes_of true (Err place) is = cc
  yes_of false said is = cc

  -- points that refute E1, at which the column has a value, and another value that it is said to have
  pub has_this : (item : ℕ) (other : Value) (binding : Binding) → refutes db query Empty Null (One binding) ≡ true → HoldsIn db query (Constant item) other →
      value_of_item db query binding item ≡ other
  has_this item other binding refuted holds =
      let is = yes_of (is_main_binding db query binding) (here binding) refuted in
      (value_decides (value_of_item db query binding item) other).0
      (alike (is_main_binding db query binding) (here binding) (are_not_distinct (value_of_item db query binding item) other) is.0 is.1 (holds (One binding)))
    where
      alike : (form : Bool) (said : Evaluated Bool) (same : Bool) → form ≡ true → said ≡ Ok true →
          is_known_true (if form then map_ok (λ there. there && not same) said else Ok false) ≡ false → same ≡ true
      alike true (Ok true) true f s fails = refl
      alike true (Ok true) false f s fails = cc
      alike true (Ok false) same f s fails = cc
      alike true (Err place) same f s fails = cc
      alike false said same f s fails = cc

  -- points that refute that the column has a value
  pub has_other : (item : ℕ) (given : Value) (points : Points) → refutes db query (Constant item) given points ≡ true → HoldsIn db query (Constant item) given → ⊥
  has_other item given points refuted holds = let both : true ≡ false = sym refuted ∙ holds points in cc
