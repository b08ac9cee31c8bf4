-- The outlines of tables: at most 200, each of at most 64 columns, each of a domain.
use Rattle.std.proofs.Common.{ℕ, ◌+◌, ◌≤◌, ◌≡◌, refl, sym, ap, ◌∙◌, subst, Bool, true, false, ◌&&◌, ℤ, pos, negsuc, List, [], ◌∷◌, ◌++◌, length, nat_le, int_le, nat_abs, is_some, Ok, if◌then◌else◌, arith, leb-false, le-leb, length-append}
use Rattle.std.proofs.lemmas.Bool.{and_from}
use Rattle.std.specs.List.{list_all}
use Rattle.lint_base.specs.declared.place.Fault.TheVariants.{DuplicateName, BadLength}
use Rattle.sql_tree.specs.declared.term.NameTree.{NameTree}
use Rattle.sql_tree.specs.declared.schema.TypeTree.{TypeTree}
use Rattle.sql_tree.specs.declared.schema.TypeTree.TheVariants as type
use Rattle.sql_tree.specs.declared.schema.RuleTree.{RuleTree}
use Rattle.sql_tree.specs.declared.schema.Element.{Element}
use Rattle.sql_tree.specs.declared.schema.Element.TheVariants as element
use Rattle.sql_tree.specs.declared.schema.CreateTable.{CreateTable}
use Rattle.lint_core.specs.declared.schema.Domain.{Domain}
use Rattle.lint_core.specs.declared.schema.Domain.TheVariants.{Text}
use Rattle.lint_core.specs.declared.schema.Column.{Column}
use Rattle.lint_core.specs.declared.schema.Table.{Table}
use Rattle.lint_core.specs.Schema.{is_domain}
use Rattle.sql_bind.specs.Bound.{too_many, and_then}
use Rattle.sql_bind.specs.Names.{table_place, column_place}
use Rattle.sql_bind.specs.Columns.{rules_of, signed, bind_type, is_marked, bind_column, bind_columns, without_constraints, bind_outline, bind_outlines}
use Rattle.sql_bind.proofs.FitsBound.{and_then_ok, same_ok, if_ok, if_not, limit_not}
use Rattle.sql_bind.proofs.FitsLists.{all_push}

text_size : (size : ℤ) → (int_le (pos 1) size && int_le size (pos 65535)) ≡ true → (nat_le 1 (nat_abs size) && nat_le (nat_abs size) 65535) ≡ true
text_size (pos n) e = e
text_size (negsuc n) e = absurd (cc)

type_domain : (kind : TypeTree) (domain : Domain) → bind_type kind ≡ Ok domain → is_domain domain ≡ true
type_domain type.Small domain is = ap is_domain (sym (same_ok (signed 16) domain is))
type_domain type.Integer domain is = ap is_domain (sym (same_ok (signed 32) domain is))
type_domain type.Big domain is = ap is_domain (sym (same_ok (signed 64) domain is))
type_domain (type.Text size at) domain is =
    let passed = if_ok (int_le (pos 1) size && int_le size (pos 65535)) (Ok (Text (nat_abs size))) BadLength at domain is in
    ap is_domain (sym (same_ok (Text (nat_abs size)) domain passed.1)) ∙ text_size size passed.0

abbrev pub has_domain : Column → Bool
has_domain c = is_domain c.domain

module _ (all : List RuleTree) where
  column_after : (earlier : List Column) (name : NameTree) (kind : TypeTree) (rules : List RuleTree) (column : Column) → bind_column all earlier name kind rules ≡ Ok column →
      (nat_le 64 (length earlier) ≡ false) × (has_domain column ≡ true)
  column_after earlier name kind rules column is =
      let made = λ (domain : Domain). let c : Column = record { name = name.text; domain = domain; not_null = is_marked rules all name.text } in c in
      let next = λ (domain : Domain). if nat_le 64 (length earlier) then too_many 65 name.span else Ok (made domain) in
      let fresh = if_not (is_some (column_place earlier name.text)) (and_then (bind_type kind) next) DuplicateName name.span column is in
      let domain = and_then_ok (bind_type kind) next column fresh.1 in
      let room = limit_not (nat_le 64 (length earlier)) (Ok (made domain.0)) 65 name.span column domain.2 in
      (room.0, ap has_domain (sym (same_ok (made domain.0) column room.1)) ∙ type_domain kind domain.0 domain.1)

  columns_after : (earlier : List Column) (elements : List Element) (columns : List Column) → length earlier ≤ 64 → list_all has_domain earlier ≡ true →
      bind_columns all earlier elements ≡ Ok columns → (length columns ≤ 64) × (list_all has_domain columns ≡ true)
  unfolding bind_columns
  columns_after earlier [] columns few good is = subst (λ (cs : List Column). (length cs ≤ 64) × (list_all has_domain cs ≡ true)) (same_ok earlier columns is) (few, good)
  columns_after earlier (element.Column name kind rules ∷ elements) columns few good is =
      let column = and_then_ok (bind_column all earlier name kind rules) (λ column. bind_columns all (earlier ++ column ∷ []) elements) columns is in
      let own = column_after earlier name kind rules column.0 column.1 in
      columns_after (earlier ++ column.0 ∷ []) elements columns (omega (arith, leb-false 64 (length earlier) own.0, length-append earlier (column.0 ∷ [])))
      (all_push has_domain earlier column.0 good own.1) column.2
  columns_after earlier (element.Rule rule ∷ elements) columns few good is = columns_after earlier elements columns few good is

-- a table's columns
abbrev pub good_columns : Table → Bool
good_columns t = nat_le (length t.columns) 64 && list_all has_domain t.columns

outline_good : (earlier : List Table) (tree : CreateTable) (outline : Table) → bind_outline earlier tree ≡ Ok outline → (nat_le 200 (length earlier) ≡ false) × (good_columns outline ≡ true)
outline_good earlier tree outline is =
    let made = without_constraints tree.name.text in
    let bound = and_then (bind_columns (rules_of tree.elements) [] tree.elements) (λ columns. Ok (made columns)) in
    let fresh = if_not (is_some (table_place earlier tree.name.text)) (if nat_le 200 (length earlier) then too_many 201 tree.name.span else bound) DuplicateName tree.name.span outline is in
    let room = limit_not (nat_le 200 (length earlier)) bound 201 tree.name.span outline fresh.1 in
    let columns = and_then_ok (bind_columns (rules_of tree.elements) [] tree.elements) (λ columns. Ok (made columns)) outline room.1 in
    let good = columns_after (rules_of tree.elements) [] tree.elements columns.0 (omega arith) refl columns.1 in
    (room.0, ap good_columns (sym (same_ok (made columns.0) outline columns.2)) ∙ and_from _ _ (le-leb (length columns.0) 64 good.0) good.1)

pub record Outlines (count : ℕ) (outlines : List Table) : Type 0 where
  pub size : length outlines ≡ count
  pub few : length outlines ≤ 200
  pub good : list_all good_columns outlines ≡ true

pub outlines_good : (earlier : List Table) (trees : List CreateTable) (outlines : List Table) → length earlier ≤ 200 → list_all good_columns earlier ≡ true →
    bind_outlines earlier trees ≡ Ok outlines → Outlines (length earlier + length trees) outlines
unfolding bind_outlines
outlines_good earlier [] outlines few good is = subst (Outlines (length earlier + 0)) (same_ok earlier outlines is) (record { size = omega arith; few = few; good = good })
outlines_good earlier (tree ∷ trees) outlines few good is =
    let outline = and_then_ok (bind_outline earlier tree) (λ bound. bind_outlines (earlier ++ bound ∷ []) trees) outlines is in
    let own = outline_good earlier tree outline.0 outline.1 in
    let more : length (earlier ++ outline.0 ∷ []) ≡ length earlier + 1 = length-append earlier (outline.0 ∷ []) in
    let rest = outlines_good (earlier ++ outline.0 ∷ []) trees outlines (omega (arith, leb-false 200 (length earlier) own.0, more)) (all_push good_columns earlier outline.0 good own.1) outline.2 in
    record { size = omega (arith, rest.size, more); few = rest.few; good = rest.good }
