-- The rules of a table, element by element, and one more column or table after those before it.
use Rattle.std.proofs.Common.{◌≡◌, ℕ, ◌+◌, ◌<◌, ◌≤◌, Bool, true, false, not, ◌||◌, List, [], ◌∷◌, ◌++◌, map, take, drop, get_or, length, is_some, Ok, Err, Bor, refl, sym, ap, subst, ◌∙◌, append_assoc, arith}
use Rattle.std.specs.Prelude.{nat_le}
use Rattle.std.specs.List.{list_any, filter}
use Rattle.std.proofs.lemmas.Bool.{le-leb, lt-leb}
use Rattle.std.proofs.lemmas.List.{append-nil, map-append, length-map, drop_all, take_all, take_at}
use Rattle.lint_base.specs.declared.place.Refusal.{Refusal}
use Rattle.lint_base.specs.declared.place.TextStop.{TextStop}
use Rattle.std.proofs.lemmas.List.Folds.{list_any-append}
use Rattle.lint_base.specs.declared.place.Fault.TheVariants.{DuplicateName}
use Rattle.sql_tree.specs.declared.term.NameTree.{NameTree}
use Rattle.sql_tree.specs.declared.schema.TypeTree.{TypeTree}
use Rattle.sql_tree.specs.declared.schema.RuleTree.{RuleTree}
use Rattle.sql_tree.specs.declared.schema.Element.{Element}
use Rattle.sql_tree.specs.declared.schema.Element.TheVariants as element
use Rattle.sql_tree.specs.declared.schema.CreateTable.{CreateTable}
use Rattle.lint_core.specs.declared.schema.Column.{Column}
use Rattle.lint_core.specs.declared.schema.Table.{Table}
use Rattle.sql_bind.specs.Bound.{Bound, refused, too_many, and_then, Gives}
use Rattle.sql_bind.specs.Names.{column_place, table_place}
use Rattle.sql_bind.specs.inner.NameTables.{name_place}
use Rattle.sql_bind.specs.Columns.{rules_of, is_not_null, is_primary_with, is_marked, bind_column, bind_columns, bind_outline, bind_outlines}
use Rattle.sql_bind.specs.Keys.{bind_name, bind_names, is_key_rule}
use Rattle.sql_bind.specs.inner.Passes.{rules_in, behind, new_column, column_step, new_outline, outline_step, name_step}
use Rattle.sql_bind.proofs.Loops.{IsStep, then_then, drop_next, is_there, first_stops}

pub rules_of-cons : (e : Element) (elements : List Element) → rules_of (e ∷ elements) ≡ rules_in e ++ rules_of elements
unfolding rules_of
rules_of-cons (element.Column name kind rules) elements = refl
rules_of-cons (element.Rule rule) elements = refl

any_rule : (test : RuleTree → Bool) (elements : List Element) → list_any (λ e. list_any test (rules_in e)) elements ≡ list_any test (rules_of elements)
unfolding rules_of
any_rule test [] = refl
any_rule test (e ∷ elements) =
    ap (λ rest. list_any test (rules_in e) || rest) (any_rule test elements)
    ∙ sym (list_any-append test (rules_in e) (rules_of elements))
    ∙ ap (list_any test) (sym (rules_of-cons e elements))

-- a column that no rule at it marks
pub marked_by_key : (own : List RuleTree) (elements : List Element) (name : List ℕ) → list_any is_not_null own ≡ false →
    list_any (λ e. list_any (is_primary_with name) (rules_in e)) elements ≡ is_marked own (rules_of elements) name
marked_by_key own elements name none = any_rule (is_primary_with name) elements ∙ ap (λ b. b || list_any (is_primary_with name) (rules_of elements)) (sym none)

pub column_steps : (all : List RuleTree) → IsStep (bind_columns all) (column_step all)
unfolding bind_columns and_then
column_steps all earlier (element.Column name kind rules) elements = sym (then_then (bind_column all earlier name kind rules) (λ column. Ok (earlier ++ column ∷ [])) (λ more. bind_columns all more elements))
column_steps all earlier (element.Rule rule) elements = refl

pub outline_steps : IsStep bind_outlines outline_step
unfolding bind_outlines and_then
outline_steps earlier tree trees = sym (then_then (bind_outline earlier tree) (λ table. Ok (earlier ++ table ∷ [])) (λ more. bind_outlines more trees))

pub name_steps : (columns : List Column) → IsStep (bind_names columns) (name_step columns)
unfolding bind_names and_then
name_steps columns earlier name names = sym (then_then (bind_name columns earlier name) (λ place. Ok (earlier ++ place ∷ [])) (λ more. bind_names columns more names))

module _ (all : List RuleTree) (self columns : List Column) (e : Element) (name : NameTree) (kind : TypeTree) (rules : List RuleTree) (names : List (List ℕ)) (new : Bool)
    (same : columns ≡ self) (is : e ≡ element.Column name kind rules) (named : names ≡ map (λ (c : Column). c.name) columns) (tells : new ≡ not (is_some (name_place names name.text))) where
  at_column : (b : Bound (List Column)) → column_step all columns (element.Column name kind rules) ≡ b → column_step all self e ≡ b
  at_column b h = ap (λ s. column_step all s e) (sym same) ∙ ap (column_step all columns) is ∙ h

  there : is_some (column_place columns name.text) ≡ not new
  there = is_there (λ (c : Column). c.name) new names columns name.text named tells

  pub column_taken : new ≡ false → column_step all self e ≡ refused DuplicateName name.span
  unfolding and_then
  column_taken old = at_column _ (rw (there ∙ ap not old) refl)

  module _ (fresh : new ≡ true) (seen : List Column) (own : List RuleTree) (marked : Bool) (seen_is : seen ≡ columns) (own_is : own ≡ rules) (marked_is : marked ≡ is_marked own all name.text) where
    with_new : (b : Bound Column) → new_column (length seen) name kind marked ≡ b → column_step all self e ≡ and_then b (λ column. Ok (columns ++ column ∷ []))
    with_new b h =
        at_column _ (rw (there ∙ ap not fresh) (ap (λ (b : Bound Column). and_then b (λ column. Ok (columns ++ column ∷ [])))
        (ap (λ (c : List Column). new_column (length c) name kind (is_marked rules all name.text)) (sym seen_is)
        ∙ ap (λ m. new_column (length seen) name kind m) (ap (λ r. is_marked r all name.text) (sym own_is) ∙ sym marked_is) ∙ h)))

    pub column_refused : (refusal : Refusal) → new_column (length seen) name kind marked ≡ Err refusal → column_step all self e ≡ Err refusal
    unfolding and_then
    column_refused refusal h = with_new (Err refusal) h

    pub column_added : (column : Column) → new_column (length seen) name kind marked ≡ Ok column → column_step all self e ≡ Ok (columns ++ column ∷ [])
    unfolding and_then
    column_added column h = with_new (Ok column) h

module _ (self tables : List Table) (tree : CreateTable) (names : List (List ℕ)) (new : Bool)
    (same : tables ≡ self) (named : names ≡ map (λ (t : Table). t.name) tables) (tells : new ≡ not (is_some (name_place names tree.name.text))) where
  at_tables : (b : Bound (List Table)) → outline_step tables tree ≡ b → outline_step self tree ≡ b
  at_tables b h = ap (λ s. outline_step s tree) (sym same) ∙ h

  table_there : is_some (table_place tables tree.name.text) ≡ not new
  table_there = is_there (λ (t : Table). t.name) new names tables tree.name.text named tells

  pub outline_taken : new ≡ false → outline_step self tree ≡ refused DuplicateName tree.name.span
  unfolding and_then
  outline_taken old = at_tables _ (rw (table_there ∙ ap not old) refl)

  module _ (fresh : new ≡ true) (seen : List Table) (seen_is : seen ≡ tables) where
    pub outline_many : 200 ≤ length seen → outline_step self tree ≡ too_many 201 tree.name.span
    unfolding and_then
    outline_many many = at_tables _ (rw (table_there ∙ ap not fresh, sym (ap (λ (t : List Table). nat_le 200 (length t)) seen_is) ∙ le-leb 200 (length seen) many) refl)

    with_table : length seen < 200 → (b : Bound Table) → new_outline tree ≡ b → outline_step self tree ≡ and_then b (λ table. Ok (tables ++ table ∷ []))
    with_table few b h =
        at_tables _ (rw (table_there ∙ ap not fresh, sym (ap (λ (t : List Table). nat_le 200 (length t)) seen_is) ∙ lt-leb 200 (length seen) few) (ap (λ (b : Bound Table). and_then b (λ table. Ok (tables ++ table ∷ []))) h))

    pub outline_refused : length seen < 200 → (refusal : Refusal) → new_outline tree ≡ Err refusal → outline_step self tree ≡ Err refusal
    unfolding and_then
    outline_refused few refusal h = with_table few (Err refusal) h

    pub outline_added : length seen < 200 → (table : Table) → new_outline tree ≡ Ok table → outline_step self tree ≡ Ok (tables ++ table ∷ [])
    unfolding and_then
    outline_added few table h = with_table few (Ok table) h

pub name_refused : (columns : List Column) (earlier seen : List ℕ) (name : NameTree) (at : TextStop) → seen ≡ earlier → Gives {A = ℕ} (bind_name columns seen name) (Err at) → Gives {A = List ℕ} (name_step columns earlier name) (Err at)
name_refused columns earlier seen name at is given =
    first_stops (bind_name columns earlier name) (λ place. Ok (earlier ++ place ∷ [])) at (subst (λ s. Gives {A = ℕ} (bind_name columns s name) (Err at)) is given)

pub name_added : (columns : List Column) (earlier seen longer : List ℕ) (name : NameTree) (place : ℕ) → seen ≡ earlier → bind_name columns seen name ≡ Ok place → longer ≡ earlier ++ place ∷ [] → name_step columns earlier name ≡ Ok longer
unfolding and_then
name_added columns earlier seen longer name place is e last =
    ap (λ b. and_then b (λ place. Ok (earlier ++ place ∷ []))) (ap (λ s. bind_name columns s name) (sym is) ∙ e) ∙ ap Ok (sym last)

-- the rules of the elements so far, and of the rest
pub rules_next : (read more whole : List RuleTree) (elements : List Element) (i : ℕ) (e : Element) → i < length elements → e ≡ get_or elements i e → more ≡ read ++ rules_in e →
    read ++ rules_of (drop i elements) ≡ whole → more ++ rules_of (drop (i + 1) elements) ≡ whole
rules_next read more whole elements i e low is added invariant =
    ap (λ r. r ++ rules_of (drop (i + 1) elements)) added ∙ append_assoc read (rules_in e) (rules_of (drop (i + 1) elements)) ∙ ap (λ r. read ++ r) (sym (rules_of-cons e (drop (i + 1) elements)))
    ∙ ap (λ es. read ++ rules_of es) (sym (drop_next elements i e low is)) ∙ invariant

pub rules_end : (read whole : List RuleTree) (elements : List Element) (i : ℕ) → length elements ≤ i → read ++ rules_of (drop i elements) ≡ whole → read ≡ whole
unfolding rules_of
rules_end read whole elements i end invariant = sym (append-nil read) ∙ ap (λ es. read ++ rules_of es) (sym (drop_all i elements end)) ∙ invariant

-- the keys so far, and those of the rest, of which the first 1,000 count
module _ (keys rules : List (Bor RuleTree)) (whole : List RuleTree) (i : ℕ) (invariant : take 1000 (behind keys ++ filter is_key_rule (behind (drop i rules))) ≡ whole) where
  all_taken : (front more : List RuleTree) → 1000 ≤ length front → length front ≤ 1000 → take 1000 (front ++ more) ≡ front
  all_taken front more low high = take_at front more 1000 (omega arith)

  pub keys_full : length keys ≤ 1000 → 1000 ≤ length keys → behind keys ≡ whole
  keys_full high low =
      let size : length (behind keys) ≡ length keys = length-map keys (λ (r : Bor RuleTree). r.now) in
      sym (all_taken (behind keys) (filter is_key_rule (behind (drop i rules))) (omega arith) (omega arith)) ∙ invariant

  pub keys_end : length keys ≤ 1000 → length rules ≤ i → behind keys ≡ whole
  keys_end high end =
      let size : length (behind keys) ≡ length keys = length-map keys (λ (r : Bor RuleTree). r.now) in
      sym (take_all 1000 (behind keys) (omega arith)) ∙ ap (take 1000) (sym (append-nil (behind keys)))
      ∙ ap (λ (rs : List (Bor RuleTree)). take 1000 (behind keys ++ filter is_key_rule (behind rs))) (sym (drop_all i rules end)) ∙ invariant

  module _ (r : Bor RuleTree) (low : i < length rules) (is : r ≡ get_or rules i r) where
    pub keys_skip : is_key_rule r.now ≡ false → take 1000 (behind keys ++ filter is_key_rule (behind (drop (i + 1) rules))) ≡ whole
    keys_skip other =
        let here : filter is_key_rule (r.now ∷ behind (drop (i + 1) rules)) ≡ filter is_key_rule (behind (drop (i + 1) rules)) = rw other refl in
        ap (λ (more : List RuleTree). take 1000 (behind keys ++ more)) (sym here ∙ ap (λ (rs : List (Bor RuleTree)). filter is_key_rule (behind rs)) (sym (drop_next rules i r low is))) ∙ invariant

    pub keys_push : (longer : List (Bor RuleTree)) → is_key_rule r.now ≡ true → longer ≡ keys ++ r ∷ [] → take 1000 (behind longer ++ filter is_key_rule (behind (drop (i + 1) rules))) ≡ whole
    keys_push longer key added =
        let here : filter is_key_rule (r.now ∷ behind (drop (i + 1) rules)) ≡ r.now ∷ filter is_key_rule (behind (drop (i + 1) rules)) = rw key refl in
        ap (λ (front : List RuleTree). take 1000 (front ++ filter is_key_rule (behind (drop (i + 1) rules)))) (ap behind added ∙ map-append (λ (r : Bor RuleTree). r.now) keys (r ∷ []))
        ∙ ap (take 1000) (append_assoc (behind keys) (r.now ∷ []) (filter is_key_rule (behind (drop (i + 1) rules))))
        ∙ ap (λ (more : List RuleTree). take 1000 (behind keys ++ more)) (sym here ∙ ap (λ (rs : List (Bor RuleTree)). filter is_key_rule (behind rs)) (sym (drop_next rules i r low is))) ∙ invariant
