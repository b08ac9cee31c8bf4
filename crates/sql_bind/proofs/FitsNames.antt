-- A column that was found is there: the term that names it has a kind, where nothing is added to it.
use Rattle.std.proofs.Common.{ℕ, suc, ◌+◌, ◌-◌, ◌≡◌, refl, sym, ap, ◌∙◌, subst, true, pos, List, [], ◌∷◌, ◌++◌, length, map, drop, Option, Some, None, Ok, slice_get, option_map, option_and_then, is_some, unwrap_or, add-zero, add-suc, suc-add}
use Rattle.std.proofs.lemmas.List.{length-reverse, length-map}
use Rattle.std.proofs.lemmas.Option.{slice_get-map}
use Rattle.std.specs.Str.{bytes_eq}
use Rattle.lint_base.proofs.Lists.{slice_get_front}
use Rattle.lint_base.specs.declared.place.Span.{Span}
use Rattle.sql_tree.specs.declared.term.NameTree.{NameTree}
use Rattle.lint_core.specs.declared.condition.Entry.{Entry}
use Rattle.lint_core.specs.declared.condition.Term.{Term}
use Rattle.lint_core.specs.declared.condition.Term.TheVariants.{Cell}
use Rattle.lint_core.specs.declared.schema.Column.{Column}
use Rattle.lint_core.specs.declared.schema.Domain.{Domain}
use Rattle.lint_core.specs.declared.schema.Domain.TheVariants as domain
use Rattle.lint_core.specs.declared.schema.Table.{Table}
use Rattle.lint_core.specs.Fits.{at_entry, tables_of, cell_kind, term_fits}
use Rattle.lint_core.specs.Kind.{kind_of, with_added}
use Rattle.sql_bind.specs.Bound.{Bound}
use Rattle.sql_bind.specs.Names.{Level, seen_entries, level_tables, column_place, entry_place, columns_of, columns_at, Place, with_place, places_named, among, find_unqualified, in_entry, at_entry as column_at_entry, find_qualified, find_column}
use Rattle.sql_bind.proofs.FitsBound.{same_ok}
use Rattle.sql_bind.proofs.FitsForms.{inner_level}
use Rattle.sql_bind.proofs.FitsLists.{same_head, position_there, get-append_at, get-take, get-drop}

module _ (schema : List Table) where
  -- a term that is a column with nothing added, which is there
  pub record Found (levels : List Level) (term : Term) : Type 0 where
    pub level : ℕ
    pub entry : ℕ
    pub column : ℕ
    pub is : term ≡ Cell level entry column (pos 0)
    pub fits : term_fits schema (level_tables levels) (Cell level entry column (pos 0)) ≡ true

  -- nothing added, any column has a kind
  plain_kind : (d : Domain) → is_some (with_added (pos 0) (kind_of d)) ≡ true
  plain_kind (domain.Number least greatest unit) = refl
  plain_kind (domain.Text size) = refl

  column_fits : (e : Entry) (column : ℕ) (c : Column) → (t : Option Table) → slice_get schema e.table ≡ t →
      slice_get (unwrap_or (option_map (λ (t : Table). t.columns) t) []) column ≡ Some c →
      is_some (cell_kind schema (Some e.table) column (pos 0)) ≡ true
  column_fits e column c None at there = absurd (cc)
  column_fits e column c (Some t) at there = rw (at, there) (plain_kind c.domain)

  pub cell_fits : (level : Level) (outer : List Level) (entry column : ℕ) (e : Entry) (c : Column) →
      slice_get level.entries entry ≡ Some e → slice_get (columns_of schema e) column ≡ Some c →
      term_fits schema (level_tables (level ∷ outer)) (Cell (length outer) entry column (pos 0)) ≡ true
  cell_fits level outer entry column e c at there =
      let tables = level_tables outer in
      let own : slice_get (tables_of level.entries) entry ≡ Some e.table = slice_get-map (λ (e : Entry). e.table) level.entries entry ∙ ap (option_map (λ (e : Entry). e.table)) at in
      let size : length tables ≡ length outer = length-reverse (map (λ (l : Level). tables_of l.entries) outer) ∙ length-map outer (λ (l : Level). tables_of l.entries) in
      let here : slice_get (tables ++ tables_of level.entries ∷ []) (length outer) ≡ Some (tables_of level.entries) =
      ap (slice_get (tables ++ tables_of level.entries ∷ [])) (sym size) ∙ get-append_at tables (tables_of level.entries) [] in
      let which : at_entry (level_tables (level ∷ outer)) (length outer) entry ≡ Some e.table =
      ap (λ all. at_entry all (length outer) entry) (inner_level level outer) ∙ (ap (option_and_then (λ entries. slice_get entries entry)) here ∙ own) in
      ap (λ o. is_some (cell_kind schema o column (pos 0))) which ∙ column_fits e column c (slice_get schema e.table) refl there

  -- what is there is there further inside
  table_further : (tables more : List (List ℕ)) (level entry : ℕ) (entries : Option (List ℕ)) → slice_get tables level ≡ entries →
      (column : ℕ) → is_some (cell_kind schema (option_and_then (λ es. slice_get es entry) entries) column (pos 0)) ≡ true →
      is_some (cell_kind schema (at_entry (tables ++ more) level entry) column (pos 0)) ≡ true
  table_further tables more level entry None at column fits = absurd (cc)
  table_further tables more level entry (Some entries) at column fits = rw (slice_get_front tables more level entries at) fits

  pub deeper : (level : Level) (outer : List Level) (term : Term) → Found outer term → Found (level ∷ outer) term
  deeper level outer term f = record {
    level = f.level;
    entry = f.entry;
    column = f.column;
    is = f.is;
    fits =
        ap (λ all. is_some (cell_kind schema (at_entry all f.level f.entry) f.column (pos 0))) (inner_level level outer)
        ∙ table_further (level_tables outer) (tables_of level.entries ∷ []) f.level f.entry (slice_get (level_tables outer) f.level) refl f.column f.fits;
  }

  -- the first place of a name
  pub record AtPlace (name : List ℕ) (number : ℕ) (entries : List Entry) (place : Place schema) : Type 0 where
    pub index : ℕ
    pub found : Entry
    pub entry_is : slice_get entries index ≡ Some found
    pub number_is : place.entry ≡ number + index
    pub column_is : column_place (columns_of schema found) name ≡ Some place.column

  further : (name : List ℕ) (number : ℕ) (e : Entry) (es : List Entry) (place : Place schema) → AtPlace name (suc number) es place → AtPlace name number (e ∷ es) place
  further name number e es place next = record {
    index = suc next.index;
    found = next.found;
    entry_is = next.entry_is;
    number_is = next.number_is ∙ (suc-add number next.index ∙ sym (add-suc number next.index));
    column_is = next.column_is;
  }

  at_column : (name : List ℕ) (number : ℕ) (e : Entry) (es : List Entry) (place : Place schema) (more : List (Place schema)) (o : Option ℕ) → column_place (columns_of schema e) name ≡ o →
      (places_named schema name (suc number) es ≡ place ∷ more → AtPlace name (suc number) es place) →
      with_place schema number o (places_named schema name (suc number) es) ≡ place ∷ more → AtPlace name number (e ∷ es) place
  at_column name number e es place more None at later is = further name number e es place (later is)
  at_column name number e es place more (Some column) at later is =
      let here : Place schema = record { entry = number; column = column } in
      let same : here ≡ place = same_head here place (places_named schema name (suc number) es) more is in
      record {
        index = 0;
        found = e;
        entry_is = refl;
        number_is = ap (λ (p : Place schema). p.entry) (sym same) ∙ sym (add-zero number);
        column_is = at ∙ ap (λ (p : Place schema). Some p.column) same;
      }

  first_place : (name : List ℕ) (number : ℕ) (entries : List Entry) (place : Place schema) (more : List (Place schema)) →
      places_named schema name number entries ≡ place ∷ more → AtPlace name number entries place
  unfolding places_named
  first_place name number [] place more e = absurd (cc)
  first_place name number (e ∷ es) place more is =
      at_column name number e es place more (column_place (columns_of schema e) name) refl (λ h. first_place name (suc number) es place more h) is

  -- an entry that is seen is an entry
  seen : (level : Level) (i : ℕ) (e : Entry) → slice_get (seen_entries level) i ≡ Some e → slice_get level.entries (level.first + i) ≡ Some e
  seen level i e at = sym (get-drop level.first level.entries i) ∙ get-take (level.end - level.first) (drop level.first level.entries) i e at

  found_at : (level : Level) (outer : List Level) (i column number : ℕ) (e : Entry) (name : List ℕ) → slice_get (seen_entries level) i ≡ Some e → column_place (columns_of schema e) name ≡ Some column →
      number ≡ level.first + i → Found (level ∷ outer) (Cell (length outer) number column (pos 0))
  found_at level outer i column number e name at place is =
      let c = position_there (λ (c : Column). bytes_eq c.name name) (columns_of schema e) column place in
      record {
        level = length outer;
        entry = number;
        column = column;
        is = refl;
        fits = cell_fits level outer number column e c.0 (ap (slice_get level.entries) is ∙ seen level i e at) c.1;
      }

  found_same : (levels : List Level) (a b : Term) → ◌≡◌ {A = Bound Term} (Ok a) (Ok b) → Found levels a → Found levels b
  found_same levels a b e = subst (Found levels) (same_ok a b e)

  among_found : (name : List ℕ) (at : Span) (level : Level) (outer : List Level) (term : Term) (places : List (Place schema)) → places_named schema name level.first (seen_entries level) ≡ places →
      (find_unqualified schema name at outer ≡ Ok term → Found outer term) →
      among schema (length outer) at places (find_unqualified schema name at outer) ≡ Ok term → Found (level ∷ outer) term
  among_found name at level outer term [] are outside is = deeper level outer term (outside is)
  among_found name at level outer term (place ∷ []) are outside is =
      let p = first_place name level.first (seen_entries level) place [] are in
      found_same (level ∷ outer) (Cell (length outer) place.entry place.column (pos 0)) term is (found_at level outer p.index place.column place.entry p.found name p.entry_is p.column_is p.number_is)
  among_found name at level outer term (place ∷ other ∷ places) are outside is = absurd (cc)

  unqualified_found : (name : List ℕ) (at : Span) (levels : List Level) (term : Term) → find_unqualified schema name at levels ≡ Ok term → Found levels term
  unfolding find_unqualified
  unqualified_found name at [] term is = absurd (cc)
  unqualified_found name at (level ∷ outer) term is =
      among_found name at level outer term (places_named schema name level.first (seen_entries level)) refl (λ h. unqualified_found name at outer term h) is

  -- the columns of an entry that has a column
  in_seen : (level : Level) (outer : List Level) (name : List ℕ) (at : Span) (i : ℕ) (term : Term) (e : Option Entry) → slice_get (seen_entries level) i ≡ e →
      (column : Option ℕ) → column_place (unwrap_or (option_map (columns_of schema) e) []) name ≡ column →
      in_entry schema (length outer) (level.first + i) at column ≡ Ok term → Found (level ∷ outer) term
  in_seen level outer name at i term e there None place is = absurd (cc)
  in_seen level outer name at i term None there (Some column) place is = absurd (cc)
  in_seen level outer name at i term (Some e) there (Some column) place is =
      found_same (level ∷ outer) (Cell (length outer) (level.first + i) column (pos 0)) term is (found_at level outer i column (level.first + i) e name there place refl)

  at_entry_found : (table name : List ℕ) (at : Span) (level : Level) (outer : List Level) (term : Term) (o : Option ℕ) →
      (find_qualified schema table name at outer ≡ Ok term → Found outer term) →
      column_at_entry schema (length outer) level name at o (find_qualified schema table name at outer) ≡ Ok term → Found (level ∷ outer) term
  at_entry_found table name at level outer term None outside is = deeper level outer term (outside is)
  at_entry_found table name at level outer term (Some i) outside is =
      in_seen level outer name at i term (slice_get (seen_entries level) i) refl (column_place (columns_at schema (seen_entries level) i) name) refl is

  qualified_found : (table name : List ℕ) (at : Span) (levels : List Level) (term : Term) → find_qualified schema table name at levels ≡ Ok term → Found levels term
  unfolding find_qualified
  qualified_found table name at [] term is = absurd (cc)
  qualified_found table name at (level ∷ outer) term is =
      at_entry_found table name at level outer term (entry_place (seen_entries level) table) (λ h. qualified_found table name at outer term h) is

  pub column_found : (table : Option NameTree) (name : NameTree) (levels : List Level) (term : Term) → find_column schema table name levels ≡ Ok term → Found levels term
  column_found None name levels term is = unqualified_found name.text name.span levels term is
  column_found (Some table) name levels term is = qualified_found table.text name.text _ levels term is
