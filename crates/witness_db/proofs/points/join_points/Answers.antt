use Rattle.std.proofs.Common.{◌≡◌, ◌∙◌, ◌-◌, ◌+◌, ◌∷◌, [], sym, ap, ap₂, length, map, take, arith, ℕ, List}
use Rattle.std.specs.Prelude.{Some, None, insert, remove, sum}
use Rattle.lint_base.proofs.Lists.{below_true}
use Rattle.lint_core.specs.declared.database.Binding.{Binding}
use Rattle.lint_core.specs.declared.database.Points.TheVariants.{Two, Without}
use Rattle.lint_core.specs.declared.query.Question.TheVariants.{NeedlessJoin}
use Rattle.lint_core.specs.Asked.{main_entries}
use Rattle.sort_formula.specs.CounterPoints.{points_of}
use Rattle.sort_formula.specs.Nodes.{nodes}
use Rattle.counter_laws.specs.Joins.{no_row_formula, two_rows_formula, without_formulas}
use Rattle.witness_db.specs.Leading.{leading_places}
use Rattle.witness_db.specs.inner.Fitting.{own, pair_node, two_places}
use Rattle.witness_db.proofs.Pairs.{count_others, places_count}
use Rattle.witness_db.proofs.points.join_points.Goals as goal

pub joined-requires : goal.joined-requires
joined-requires c =
    let size : length c.as_slice-in-Some.result.now ≡ length c.as_slice.result.now - 1 =
    ap length (c.as_slice-in-Some.ensures ∙ c.in_ok-leading.ensures) ∙ places_count c.args.terms.now c.args.places.now (length c.as_slice.result.now - 1) in
    let low = below_true c.args.entry (length (main_entries c.args.query.now)) c.requires.entry in
    let same : length c.as_slice.result.now ≡ length (main_entries c.args.query.now) = ap length c.as_slice.ensures in
    omega arith

pub joined-requires-in-Some : goal.joined-requires-in-Some
joined-requires-in-Some c =
    let size : length c.as_slice-in-Some-2.result.now ≡ length c.as_slice.result.now - 1 =
    ap length (c.as_slice-in-Some-2.ensures ∙ c.in_ok-leading.ensures) ∙ places_count c.args.terms.now c.args.places.now (length c.as_slice.result.now - 1) in
    let low = below_true c.args.entry (length (main_entries c.args.query.now)) c.requires.entry in
    let same : length c.as_slice.result.now ≡ length (main_entries c.args.query.now) = ap length c.as_slice.ensures in
    omega arith

pub returns-in-Some : goal.returns-in-Some
returns-in-Some c = λ schema given is.
    let query = c.args.query.now in
    let entry = c.args.entry in
    let terms = c.args.terms.now in
    let places = c.args.places.now in
    let count : length c.as_slice.result.now - 1 ≡ length (remove (own query) entry) = count_others query entry c.as_slice.result.now c.as_slice.ensures c.requires.entry in
    let leading : List ℕ = leading_places terms places (length (remove (own query) entry)) in
    let node : c.last_way.result ≡ pair_node schema query entry =
    c.last_way.ensures.number (remove (own query) entry) (without_formulas schema query entry) (no_row_formula schema query entry ∷ []) (two_rows_formula schema query entry) is (sym count)
    ∙ ap (λ n. n + 2 + sum (map nodes (without_formulas schema query entry)) + sum (map nodes (no_row_formula schema query entry ∷ []))) count in
    let found : two_places terms places (pair_node schema query entry) ≡ Some (c.in-Some.row, c.in-Some.other) =
    sym (c.in-Some.ensures ∙ ap (two_places terms places) node) in
    let first : c.as_slice-in-Some.result.now ≡ leading = c.as_slice-in-Some.ensures ∙ (c.in_ok-leading.ensures ∙ ap (leading_places terms places) count) in
    let second : c.as_slice-in-Some-2.result.now ≡ leading = c.as_slice-in-Some-2.ensures ∙ (c.in_ok-leading.ensures ∙ ap (leading_places terms places) count) in
    ap₂ (λ (one two : Binding). Two one two)
    (c.in_ok-joined-in-Some.ensures ∙ ap (λ (ps : List ℕ). record { levels = insert ps entry c.in-Some.row ∷ [] }) first)
    (c.in_ok-joined-in-Some-2.ensures ∙ ap (λ (ps : List ℕ). record { levels = insert ps entry c.in-Some.other ∷ [] }) second)
    ∙ ap (points_of query (NeedlessJoin entry) leading) (sym found)

pub returns : goal.returns
returns c = λ schema given is.
    let query = c.args.query.now in
    let entry = c.args.entry in
    let terms = c.args.terms.now in
    let places = c.args.places.now in
    let count : length c.as_slice.result.now - 1 ≡ length (remove (own query) entry) = count_others query entry c.as_slice.result.now c.as_slice.ensures c.requires.entry in
    let leading : List ℕ = leading_places terms places (length (remove (own query) entry)) in
    let node : c.last_way.result ≡ pair_node schema query entry =
    c.last_way.ensures.number (remove (own query) entry) (without_formulas schema query entry) (no_row_formula schema query entry ∷ []) (two_rows_formula schema query entry) is (sym count)
    ∙ ap (λ n. n + 2 + sum (map nodes (without_formulas schema query entry)) + sum (map nodes (no_row_formula schema query entry ∷ []))) count in
    let found : two_places terms places (pair_node schema query entry) ≡ None = sym (c.in-None.ensures ∙ ap (two_places terms places) node) in
    let own_places : c.as_slice-2.result.now ≡ leading = c.as_slice-2.ensures ∙ (c.in_ok-leading.ensures ∙ ap (leading_places terms places) count) in
    ap Without
    (c.in_ok-one_level-in-None.ensures
    ∙ ap (λ (ps : List ℕ). record { levels = ps ∷ [] }) (c.front-others.ensures ∙ ap₂ (λ n (ps : List ℕ). take n ps) count own_places))
    ∙ ap (points_of query (NeedlessJoin entry) leading) (sym found)
