-- Two bindings in the same rows outside, whose own levels are quantified one behind the other: where the formulas of a
-- condition hold at the rows of both, and where the two have other rows.
use Rattle.std.proofs.Common.{◌≡◌, ◌∙◌, ◌<◌, ◌+◌, refl, sym, ap, ap₂, subst, ℕ, zero, suc, Bool, true, ◌&&◌, ◌||◌, not, List, [], ◌∷◌, ◌++◌, length, map, nat_eq, arith}
use Rattle.std.proofs.lemmas.Bool.Decides.{nat_tests}
use Rattle.std.proofs.lemmas.List.{length-append, map-append}
use Rattle.std.proofs.lemmas.Option.{same_Some, slice_get_within}
use Rattle.std.specs.List.{list_any, zip}
use Rattle.std.specs.Prelude.{Some, slice_get}
use Rattle.lint_base.proofs.Lists.{any_map, any_alike, get_behind, not_and, slice_get_front}
use Rattle.lint_core.specs.declared.condition.Cond.{Cond}
use Rattle.lint_core.specs.declared.condition.Cond.TheVariants as c
use Rattle.lint_core.specs.declared.database.Database.{Database}
use Rattle.lint_core.specs.declared.schema.Table.{Table}
use Rattle.lint_core.specs.declared.scope.Scope.{Scope}
use Rattle.lint_core.specs.Database.{Place}
use Rattle.lint_core.specs.Fits.{cond_fits}
use Rattle.lint_core.specs.Points.{are_same_rows}
use Rattle.sort_formula.specs.declared.formula.Atom.TheVariants as atom
use Rattle.sort_formula.specs.declared.formula.Formula.TheVariants as f
use Rattle.sort_formula.specs.CounterPoints.{differ_somewhere}
use Rattle.sort_formula.specs.Counters.{some_other}
use Rattle.sort_formula.specs.Holds.{holds, is_same_place}
use Rattle.sort_formula.specs.Loose.{rows_at}
use Rattle.sort_formula.specs.Sides.{all_of, from_number, numbered_from, scope_of}
use Rattle.sort_formula.specs.Standpoint.{StandsFor}
use Rattle.sort_formula.specs.Translation.{inside, is_true_formula}
use Rattle.sort_formula.proofs.Holding.{holds_atom, holds_or}
use Rattle.truth_laws.proofs.Inside.{inside_stands, length_places}
use Rattle.truth_laws.proofs.Numbered.{numbered_stands}
use Rattle.truth_laws.proofs.Outside.{length_from, variable_at}
use Rattle.truth_laws.proofs.Quantified.{place_in, places_in}
use Rattle.question_laws.specs.Deeper.{deeper}

-- ---- what follows in the layer below

-- two standpoints for one binding give the formula one meaning
abbrev pub OneMeaning : List Table → Database → Type 0
OneMeaning schema db =
    (cond : Cond) (one other : Scope) (binding : List (List ℕ)) (rows others : List Place) → one.tables ≡ other.tables → cond_fits schema one.tables cond ≡ true →
    StandsFor db one binding rows cond → StandsFor db other binding others cond →
    holds db (is_true_formula schema cond one) rows ≡ holds db (is_true_formula schema cond other) others

-- more rows may follow
abbrev pub MoreFollow : Database → Type 0
MoreFollow db =
    (cond : Cond) (scope : Scope) (binding : List (List ℕ)) (rows more : List Place) → StandsFor db scope binding rows cond →
    StandsFor db (deeper (length more) scope) binding (rows ++ more) cond

-- ---- rows that differ

pub same_itself : (n : ℕ) → nat_eq n n ≡ true
same_itself n = grind (arith, nat_tests)

pub differ_is : (rows others : List ℕ) → length rows ≡ length others → not (are_same_rows rows others) ≡ differ_somewhere rows others
differ_is [] [] same = refl
differ_is [] (other ∷ others) same = absurd (omega (arith, same))
differ_is (row ∷ rows) [] same = absurd (omega (arith, same))
differ_is (row ∷ rows) (other ∷ others) same =
    not_and (nat_eq row other) (are_same_rows rows others) ∙ ap (λ b. not (nat_eq row other) || b) (differ_is rows others (omega (arith, same)))

-- pairs of variables and pairs of rows that are tested alike
zips_alike : (p q : ℕ → ℕ → Bool) (variables seconds rows others : List ℕ) → length variables ≡ length rows → length seconds ≡ length rows → length others ≡ length rows →
    ((i a b x y : ℕ) → slice_get variables i ≡ Some a → slice_get seconds i ≡ Some b → slice_get rows i ≡ Some x → slice_get others i ≡ Some y → p a b ≡ q x y) →
    list_any (λ pair. p pair.0 pair.1) (zip variables seconds) ≡ list_any (λ pair. q pair.0 pair.1) (zip rows others)
zips_alike p q [] [] [] [] one two three alike = refl
zips_alike p q (a ∷ variables) seconds [] others one two three alike = absurd (omega (arith, one))
zips_alike p q [] (b ∷ seconds) [] others one two three alike = absurd (omega (arith, two))
zips_alike p q [] [] [] (y ∷ others) one two three alike = absurd (omega (arith, three))
zips_alike p q [] seconds (x ∷ rows) others one two three alike = absurd (omega (arith, one))
zips_alike p q (a ∷ variables) [] (x ∷ rows) others one two three alike = absurd (omega (arith, two))
zips_alike p q (a ∷ variables) (b ∷ seconds) (x ∷ rows) [] one two three alike = absurd (omega (arith, three))
zips_alike p q (a ∷ variables) (b ∷ seconds) (x ∷ rows) (y ∷ others) one two three alike =
    ap₂ (λ c d. c || d) (alike 0 a b x y refl refl refl refl)
    (zips_alike p q variables seconds rows others (omega (arith, one)) (omega (arith, two)) (omega (arith, three)) (λ i a b x y. alike (suc i) a b x y))

-- a row of a table, at its place
place_here : (own rows : List ℕ) (i t x : ℕ) → slice_get own i ≡ Some t → slice_get rows i ≡ Some x → slice_get (places_in own rows) i ≡ Some (place_in t x)
place_here [] rows i t x at is = cc
place_here (table ∷ own) [] i t x at is = cc
place_here (table ∷ own) (row ∷ rows) zero t x at is = ap₂ (λ t x. Some (place_in t x)) (same_Some table t at) (same_Some row x is)
place_here (table ∷ own) (row ∷ rows) (suc i) t x at is = place_here own rows i t x at is

table_here : (own : List ℕ) (i : ℕ) → i < length own → (t : ℕ) × (slice_get own i ≡ Some t)
table_here [] i low = absurd (omega (arith, low))
table_here (t ∷ own) zero low = (t, refl)
table_here (t ∷ own) (suc i) low = table_here own i (omega (arith, low))

module _ (schema : List Table) (db : Database) (alike : OneMeaning schema db) (follow : MoreFollow db)
    (outer : List (List ℕ)) (last : List ℕ) (around : List (List ℕ)) (inner more : List ℕ)
    (shape : map length around ≡ map length outer) (same : length inner ≡ length last) (also : length more ≡ length last)
    (middle : ℕ) (is_middle : length (all_of outer) + length last ≡ middle) where
  abbrev pub tables : List (List ℕ)
  tables = outer ++ last ∷ []

  abbrev pub one : List (List ℕ)
  one = around ++ inner ∷ []

  abbrev pub two : List (List ℕ)
  two = around ++ more ∷ []

  abbrev pub rows : List Place
  rows = (rows_at outer around ++ places_in last inner) ++ places_in last more

  -- the scope of the first, and that of the second
  abbrev pub first_scope : Scope
  first_scope = record { levels = numbered_from 0 outer ++ from_number (length (all_of outer)) (length last) ∷ []; tables = tables; depth = middle + length last }

  abbrev pub second_scope : Scope
  second_scope = record { levels = numbered_from 0 outer ++ from_number middle (length last) ∷ []; tables = tables; depth = middle + length last }

  pub first_stands : (cond : Cond) → StandsFor db first_scope one rows cond
  first_stands cond =
      let scope = inside (scope_of outer) last in
      let here = inside_stands db (scope_of outer) around (rows_at outer around) cond (numbered_stands db outer around shape cond) last inner same in
      subst (λ depth. StandsFor db (record { levels = scope.levels; tables = tables; depth = depth }) one rows cond)
      (ap₂ (λ m n. m + n) is_middle (length_places last more also))
      (follow cond scope one (rows_at outer around ++ places_in last inner) (places_in last more) here)

  pub second_stands : (cond : Cond) → StandsFor db second_scope two rows cond
  second_stands cond =
      let deep : Scope = record { levels = numbered_from 0 outer; tables = outer; depth = middle } in
      let here : StandsFor db deep around (rows_at outer around ++ places_in last inner) cond =
      subst (λ depth. StandsFor db (record { levels = numbered_from 0 outer; tables = outer; depth = depth }) around (rows_at outer around ++ places_in last inner) cond)
      (ap (λ n. length (all_of outer) + n) (length_places last inner same) ∙ is_middle)
      (follow cond (scope_of outer) around (rows_at outer around) (places_in last inner) (numbered_stands db outer around shape cond)) in
      inside_stands db deep around (rows_at outer around ++ places_in last inner) cond here last more also

  shape_of : (level : List ℕ) → length level ≡ length last → map length (around ++ level ∷ []) ≡ map length tables
  shape_of level long =
      map-append length around (level ∷ [])
      ∙ (ap₂ (λ (ns : List ℕ) (n : ℕ). ns ++ n ∷ []) shape long ∙ sym (map-append length outer (last ∷ [])))

  pub first_holds : (cond : Cond) → cond_fits schema tables cond ≡ true → holds db (is_true_formula schema cond first_scope) rows ≡ holds db (is_true_formula schema cond (scope_of tables)) (rows_at tables one)
  first_holds cond fits = alike cond first_scope (scope_of tables) one rows (rows_at tables one) refl fits (first_stands cond) (numbered_stands db tables one (shape_of inner same) cond)

  pub second_holds : (cond : Cond) → cond_fits schema tables cond ≡ true → holds db (is_true_formula schema cond second_scope) rows ≡ holds db (is_true_formula schema cond (scope_of tables)) (rows_at tables two)
  second_holds cond fits = alike cond second_scope (scope_of tables) two rows (rows_at tables two) refl fits (second_stands cond) (numbered_stands db tables two (shape_of more also) cond)

  -- ---- the own rows of the two

  abbrev start : ℕ
  start = length (all_of outer)

  outside_long : length (rows_at outer around) ≡ start
  outside_long = (numbered_stands db outer around shape (c.And [])).depth

  rows_long : length (rows_at outer around ++ places_in last inner) ≡ middle
  rows_long = length-append (rows_at outer around) (places_in last inner) ∙ (ap₂ (λ m n. m + n) outside_long (length_places last inner same) ∙ is_middle)

  first_row : (i t x : ℕ) → slice_get last i ≡ Some t → slice_get inner i ≡ Some x → slice_get rows (start + i) ≡ Some (place_in t x)
  first_row i t x at is =
      slice_get_front (rows_at outer around ++ places_in last inner) (places_in last more) (start + i) (place_in t x)
      (ap (λ n. slice_get (rows_at outer around ++ places_in last inner) (n + i)) (sym outside_long)
      ∙ (get_behind (rows_at outer around) (places_in last inner) i ∙ place_here last inner i t x at is))

  second_row : (i t y : ℕ) → slice_get last i ≡ Some t → slice_get more i ≡ Some y → slice_get rows (middle + i) ≡ Some (place_in t y)
  second_row i t y at is =
      ap (λ n. slice_get rows (n + i)) (sym rows_long)
      ∙ (get_behind (rows_at outer around ++ places_in last inner) (places_in last more) i ∙ place_here last more i t y at is)

  pair_alike : (i a b x y : ℕ) → slice_get (from_number start (length last)) i ≡ Some a → slice_get (from_number middle (length last)) i ≡ Some b →
      slice_get inner i ≡ Some x → slice_get more i ≡ Some y → not (is_same_place (slice_get rows a) (slice_get rows b)) ≡ not (nat_eq x y)
  pair_alike i a b x y first second here there =
      let low : i < length last = omega (arith, slice_get_within inner i x here, same) in
      let t = table_here last i low in
      let is : start + i ≡ a = same_Some (start + i) a (sym (variable_at start (length last) i low) ∙ first) in
      let is_too : middle + i ≡ b = same_Some (middle + i) b (sym (variable_at middle (length last) i low) ∙ second) in
      ap not
      (ap₂ (λ m n. is_same_place (slice_get rows m) (slice_get rows n)) (sym is) (sym is_too)
      ∙ (ap₂ is_same_place (first_row i t.0 x t.1 here) (second_row i t.0 y t.1 there)
      ∙ ap (λ b. b && nat_eq x y) (same_itself t.0)))

  -- some of the variables have other rows
  pub other_holds : holds db (some_other (from_number start (length last)) (from_number middle (length last))) rows ≡ differ_somewhere inner more
  other_holds =
      let firsts = from_number start (length last) in
      let seconds = from_number middle (length last) in
      holds_or db (map (λ pair. f.Atom (atom.Other pair.0 pair.1)) (zip firsts seconds)) rows
      ∙ (any_map (λ pair. f.Atom (atom.Other pair.0 pair.1)) (λ g. holds db g rows) (zip firsts seconds)
      ∙ (any_alike (λ pair. not (is_same_place (slice_get rows pair.0) (slice_get rows pair.1))) (λ pair. holds db (f.Atom (atom.Other pair.0 pair.1)) rows)
      (λ pair. holds_atom db (atom.Other pair.0 pair.1) rows) (zip firsts seconds)
      ∙ zips_alike (λ a b. not (is_same_place (slice_get rows a) (slice_get rows b))) (λ x y. not (nat_eq x y)) firsts seconds inner more
      (length_from start (length last) ∙ sym same) (length_from middle (length last) ∙ sym same) (also ∙ sym same) pair_alike))
