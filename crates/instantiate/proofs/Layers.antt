-- Parts of nodes, rows and variables, case by case.
use Rattle.std.proofs.Common.{◌≡◌, ◌∙◌, sym, ap, refl, subst, ℕ, zero, suc, ◌+◌, ◌-◌, ◌<◌, ◌≤◌, inl, inr, Bool, true, false, ◌&&◌, cond, List, [], ◌∷◌, ◌++◌, length, map, take, drop, append_assoc, append-nil, arith}
use Rattle.std.proofs.lemmas.Bool.{and_parts, and_from}
use Rattle.std.proofs.lemmas.Bool.Decides.{nat_tests}
use Rattle.std.proofs.lemmas.List.{map-append, length-append}
use Rattle.std.proofs.lemmas.List.Elements.{filter-append}
use Rattle.std.proofs.lemmas.Option.{same_Some, slice_get_within}
use Rattle.std.specs.Prelude.{Option, Some, None, slice_get, nat_lt, nat_eq, if◌then◌else◌}
use Rattle.std.specs.List.{filter}
use Rattle.std.specs.Option.{option_map_or}
use Rattle.sort_formula.specs.declared.formula.Side.{Side}
use Rattle.sort_formula.specs.declared.formula.Side.TheVariants as side
use Rattle.sort_formula.specs.declared.formula.Atom.{Atom}
use Rattle.sort_formula.specs.declared.formula.Atom.TheVariants as atom
use Rattle.sort_formula.specs.declared.formula.Formula.{Formula, fold_out-Formula}
use Rattle.sort_formula.specs.declared.formula.Formula.TheOpen.{Formula-F}
use Rattle.sort_formula.specs.Sentences.{has_variable, is_moderate, are_of_one_table, atom_is_bound}
use Rattle.sort_formula.specs.Variables.{side_is_below, atom_is_below}
use Rattle.sorted_skolem.specs.declared.term.RowTerm.{RowTerm}
use Rattle.sorted_skolem.specs.Preorder.{Quantifier, Way, Node, Laid, laid, laid_step, nodes_of, outlines_of, node_at, is_forall_of, forall_in, exists_in}
use Rattle.sorted_skolem.proofs.Among.{Among}
use Rattle.sorted_skolem.proofs.Parts.{Numbered, node_below, listed, parts_in}
use Rattle.sorted_skolem.proofs.RowTerms.{AreRows, IsRowOf}
use Rattle.ground_theory.specs.declared.literal.Clause.{Clause}
use Rattle.ground_theory.specs.Forward.{guards_before, are_forward_from}
use Rattle.instantiate.specs.Ground.{term_number, rows_along}

-- ---- lists

pub at_map : {A B : Type 0} (f : A → B) (xs : List A) (i : ℕ) (x : A) → slice_get xs i ≡ Some x → slice_get (map f xs) i ≡ Some (f x)
at_map f [] i x at = cc
at_map f (y ∷ ys) zero x at = ap (λ z. Some (f z)) (same_Some y x at)
at_map f (y ∷ ys) (suc i) x at = at_map f ys i x at

pub map_at : {A B : Type 0} (f : A → B) (xs : List A) (i : ℕ) (y : B) → slice_get (map f xs) i ≡ Some y → (x : A) × (slice_get xs i ≡ Some x) × (f x ≡ y)
map_at f [] i y at = cc
map_at f (x ∷ xs) zero y at = (x, refl, same_Some (f x) y at)
map_at f (x ∷ xs) (suc i) y at = map_at f xs i y at

pub count_last : (xs : List ℕ) (x : ℕ) → length (xs ++ x ∷ []) - 1 ≡ length xs
count_last xs x = let count = length-append xs (x ∷ []) in omega arith

pub take_front : (xs ys : List ℕ) → take (length xs) (xs ++ ys) ≡ xs
take_front [] ys = refl
take_front (x ∷ xs) ys = ap (λ zs. x ∷ zs) (take_front xs ys)

pub chosen : {A : Type 0} (b : Bool) (x y : A) → b ≡ true → (if b then x else y) ≡ x
chosen true x y is = refl
chosen false x y is = cc

pub passed_by : {A : Type 0} (b : Bool) (x y : A) → b ≡ false → (if b then x else y) ≡ y
passed_by true x y is = cc
passed_by false x y is = refl

-- ---- rows, and the Foralls around a node

abbrev pub tables_in : List Quantifier → List ℕ
tables_in around = map (λ (q : Quantifier). q.table) (filter is_forall_of around)

pub tables_last : (around : List Quantifier) (q : Quantifier) → tables_in (around ++ q ∷ []) ≡ tables_in around ++ tables_in (q ∷ [])
tables_last around q =
    ap (map (λ (q : Quantifier). q.table)) (filter-append is_forall_of around (q ∷ []))
    ∙ map-append (λ (q : Quantifier). q.table) (filter is_forall_of around) (filter is_forall_of (q ∷ []))

module _ (terms : List RowTerm) where
  pub rows_count : (tables rows : List ℕ) → AreRows terms tables rows → length rows ≡ length tables
  rows_count [] [] are = refl
  rows_count [] (row ∷ rows) are = absurd are
  rows_count (table ∷ tables) [] are = absurd are
  rows_count (table ∷ tables) (row ∷ rows) are = ap suc (rows_count tables rows are.1)

  pub rows_last : (tables rows : List ℕ) (table row : ℕ) → AreRows terms tables rows → IsRowOf terms table row → AreRows terms (tables ++ table ∷ []) (rows ++ row ∷ [])
  rows_last [] [] table row are is = (is, tt)
  rows_last [] (r ∷ rows) table row are is = absurd are
  rows_last (t ∷ tables) [] table row are is = absurd are
  rows_last (t ∷ tables) (r ∷ rows) table row are is = (are.0, rows_last tables rows table row are.1 is)

  pub no_rows : (rows : List ℕ) → AreRows terms [] rows → rows ≡ []
  no_rows [] are = refl
  no_rows (row ∷ rows) are = absurd are

  pub rows_parted : (tables rows : List ℕ) (table : ℕ) → AreRows terms (tables ++ table ∷ []) rows → (front : List ℕ) × (row : ℕ) × (rows ≡ front ++ row ∷ []) × AreRows terms tables front × IsRowOf terms table row
  rows_parted [] [] table are = absurd are
  rows_parted [] (row ∷ rows) table are = ([], row, ap (λ rs. row ∷ rs) (no_rows rows are.1), tt, are.0)
  rows_parted (t ∷ tables) [] table are = absurd are
  rows_parted (t ∷ tables) (r ∷ rows) table are =
      let rest = rows_parted tables rows table are.1 in (r ∷ rest.0, rest.1, ap (λ rs. r ∷ rs) rest.2, (are.0, rest.3), rest.4)

  module _ (sentence : ℕ) where
    abbrev own_row : ℕ → List ℕ → ℕ
    own_row node outside = term_number terms (record { sentence = sentence; node = node; rows = outside })

    -- the variable of one more quantifier
    pub along_last : (around : List Quantifier) (outside rows extra : List ℕ) (q : Quantifier) → length rows ≡ length (tables_in around) →
        rows_along terms sentence outside (rows ++ extra) (around ++ q ∷ []) ≡ rows_along terms sentence outside rows around ++ rows_along terms sentence (outside ++ rows) extra (q ∷ [])
    along_last [] outside [] extra q same = ap (λ out. rows_along terms sentence out extra (q ∷ [])) (sym (append-nil outside))
    along_last [] outside (r ∷ rows) extra q same = absurd (omega arith)
    along_last (p ∷ ps) outside rows extra q same = step p.is_forall rows same (λ out rs. along_last ps out rs extra q)
      where
        step : (b : Bool) (rows : List ℕ) → length rows ≡ length (map (λ (q : Quantifier). q.table) (cond b (p ∷ filter is_forall_of ps) (filter is_forall_of ps))) →
            ((outside rows : List ℕ) → length rows ≡ length (tables_in ps) →
            rows_along terms sentence outside (rows ++ extra) (ps ++ q ∷ []) ≡ rows_along terms sentence outside rows ps ++ rows_along terms sentence (outside ++ rows) extra (q ∷ [])) →
            (if b then take 1 (rows ++ extra) ++ rows_along terms sentence (outside ++ take 1 (rows ++ extra)) (drop 1 (rows ++ extra)) (ps ++ q ∷ [])
            else own_row p.node outside ∷ rows_along terms sentence outside (rows ++ extra) (ps ++ q ∷ []))
            ≡ (if b then take 1 rows ++ rows_along terms sentence (outside ++ take 1 rows) (drop 1 rows) ps else own_row p.node outside ∷ rows_along terms sentence outside rows ps)
            ++ rows_along terms sentence (outside ++ rows) extra (q ∷ [])
        step true [] same rest = absurd (omega arith)
        step true (r ∷ rows) same rest =
            ap (λ vs. r ∷ vs)
            (rest (outside ++ r ∷ []) rows (omega arith)
            ∙ ap (λ out. rows_along terms sentence (outside ++ r ∷ []) rows ps ++ rows_along terms sentence out extra (q ∷ [])) (append_assoc outside (r ∷ []) rows))
        step false rows same rest = ap (λ vs. own_row p.node outside ∷ vs) (rest outside rows same)

    pub along_count : (around : List Quantifier) (outside rows : List ℕ) → length rows ≡ length (tables_in around) → length (rows_along terms sentence outside rows around) ≡ length around
    along_count [] outside rows same = refl
    along_count (p ∷ ps) outside rows same = step p.is_forall rows same (along_count ps)
      where
        step : (b : Bool) (rows : List ℕ) → length rows ≡ length (map (λ (q : Quantifier). q.table) (cond b (p ∷ filter is_forall_of ps) (filter is_forall_of ps))) →
            ((outside rows : List ℕ) → length rows ≡ length (tables_in ps) → length (rows_along terms sentence outside rows ps) ≡ length ps) →
            length (if b then take 1 rows ++ rows_along terms sentence (outside ++ take 1 rows) (drop 1 rows) ps else own_row p.node outside ∷ rows_along terms sentence outside rows ps) ≡ suc (length ps)
        step true [] same rest = absurd (omega arith)
        step true (r ∷ rows) same rest = ap suc (rest (outside ++ r ∷ []) rows (omega arith))
        step false rows same rest = ap suc (rest outside rows same)

-- ---- layers

pub listed_around : (is_or : Bool) (number way next : ℕ) (around : List Quantifier) (gs : List Formula) (c : Numbered) → Among (listed is_or number way next around gs) c → c.1.around ≡ around
listed_around is_or number way next around [] c is = absurd is
listed_around is_or number way next around (g ∷ gs) c is =
    elim is [
      | inl here ↦ sym (ap (λ (c : Numbered). c.1.around) here)
      | inr later ↦ listed_around is_or number (if is_or then suc way else way) (next + length ((laid g).nodes next (Some (record { node = number; way = way })) around)) around gs c later
    ]

-- below a Forall alone there is one more Forall around
pub tables_plain : (number : ℕ) (around : List Quantifier) (layer : Formula-F Formula) (c : Numbered) → Among (parts_in number around layer) c → forall_in layer ≡ false → tables_in c.1.around ≡ tables_in around
tables_plain number around (Formula-F.Atom a) c is plain = absurd is
tables_plain number around (Formula-F.And gs) c is plain = ap tables_in (listed_around false number 0 (suc number) around gs c is)
tables_plain number around (Formula-F.Or gs) c is plain = ap tables_in (listed_around true number 0 (suc number) around gs c is)
tables_plain number around (Formula-F.Exists table body) c is plain =
    elim is [
      | inl here ↦
          sym (ap (λ (c : Numbered). tables_in c.1.around) here)
          ∙ (tables_last around (record { node = number; table = table; is_forall = false }) ∙ append-nil (tables_in around))
      | inr never ↦ absurd never
    ]
tables_plain number around (Formula-F.Forall table body) c is plain = cc

pub forall_layer : (layer : Formula-F Formula) → forall_in layer ≡ true → (table : ℕ) × (body : Formula) × (layer ≡ Formula-F.Forall table body)
forall_layer (Formula-F.Atom a) is = cc
forall_layer (Formula-F.And gs) is = cc
forall_layer (Formula-F.Or gs) is = cc
forall_layer (Formula-F.Exists table body) is = cc
forall_layer (Formula-F.Forall table body) is = (table, body, refl)

pub exists_layer : (layer : Formula-F Formula) (table : ℕ) → exists_in layer ≡ Some table → (body : Formula) × (layer ≡ Formula-F.Exists table body)
exists_layer (Formula-F.Atom a) table is = cc
exists_layer (Formula-F.And gs) table is = cc
exists_layer (Formula-F.Or gs) table is = cc
exists_layer (Formula-F.Exists t body) table is = (body, ap (λ n. Formula-F.Exists n body) (same_Some t table is))
exists_layer (Formula-F.Forall t body) table is = cc

-- the part of an Or for each way
pub listed_at : (number way next : ℕ) (around : List Quantifier) (gs : List Formula) (c : Numbered) (w : ℕ) → Among (listed true number way next around gs) c → c.1.above ≡ Some (record { node = number; way = w }) →
    (i : ℕ) × (w ≡ way + i) × (slice_get (listed true number way next around gs) i ≡ Some c)
listed_at number way next around [] c w is above = absurd is
listed_at number way next around (g ∷ gs) c w is above =
    elim is [
      | inl here ↦
          let own : Way = record { node = number; way = way } in
          let other : Way = record { node = number; way = w } in
          let same : way ≡ w = ap (λ (w : Way). w.way) (same_Some own other (ap (λ (c : Numbered). c.1.above) here ∙ above)) in
          (0, omega arith, ap Some here)
      | inr later ↦
          let rest = listed_at number (suc way) (next + length ((laid g).nodes next (Some (record { node = number; way = way })) around)) around gs c w later above in
          let same = rest.1 in
          (suc rest.0, omega arith, rest.2)
    ]

-- the parts of a node have ever greater numbers
laid_some : (g : Formula) (next : ℕ) (above : Option Way) (around : List Quantifier) → 0 < length ((laid g).nodes next above around)
laid_some g next above around =
    let count = ap (λ (l : Laid). length (l.nodes next above around)) (fold_out-Formula Laid laid_step g) in
    omega arith

listed_from : (is_or : Bool) (number way next : ℕ) (around : List Quantifier) (gs : List Formula) (i : ℕ) (c : Numbered) → slice_get (listed is_or number way next around gs) i ≡ Some c → next ≤ c.0
listed_from is_or number way next around [] i c at = cc
listed_from is_or number way next around (g ∷ gs) zero c at = let same : next ≡ c.0 = ap (λ (c : Numbered). c.0) (same_Some (next, node_below number way around g) c at) in omega arith
listed_from is_or number way next around (g ∷ gs) (suc i) c at =
    let rest = listed_from is_or number (if is_or then suc way else way) (next + length ((laid g).nodes next (Some (record { node = number; way = way })) around)) around gs i c at in
    omega arith

pub listed_ascend : (is_or : Bool) (number way next : ℕ) (around : List Quantifier) (gs : List Formula) (i j : ℕ) (c d : Numbered) → i < j →
    slice_get (listed is_or number way next around gs) i ≡ Some c → slice_get (listed is_or number way next around gs) j ≡ Some d → c.0 < d.0
listed_ascend is_or number way next around [] i j c d low at to = cc
listed_ascend is_or number way next around (g ∷ gs) i zero c d low at to = absurd (omega arith)
listed_ascend is_or number way next around (g ∷ gs) zero (suc j) c d low at to =
    let same : next ≡ c.0 = ap (λ (c : Numbered). c.0) (same_Some (next, node_below number way around g) c at) in
    let some = laid_some g next (Some (record { node = number; way = way })) around in
    let rest = listed_from is_or number (if is_or then suc way else way) (next + length ((laid g).nodes next (Some (record { node = number; way = way })) around)) around gs j d to in
    omega arith
listed_ascend is_or number way next around (g ∷ gs) (suc i) (suc j) c d low at to =
    listed_ascend is_or number (if is_or then suc way else way) (next + length ((laid g).nodes next (Some (record { node = number; way = way })) around)) around gs i j c d (omega arith) at to

-- ---- atoms

side_below : (tables : List ℕ) (s : Side) → has_variable tables s ≡ true → side_is_below (length tables) s ≡ true
side_below tables (side.Cell row column) bound = bound
side_below tables side.Zero bound = refl
side_below tables (side.Text text) bound = refl

of_one_table : (tables : List ℕ) (row other : ℕ) → are_of_one_table tables row other ≡ true → (nat_lt row (length tables) && nat_lt other (length tables)) ≡ true
of_one_table tables row other is = both (slice_get tables row) (slice_get tables other) refl refl is
  where
    within : (row table : ℕ) → slice_get tables row ≡ Some table → nat_lt row (length tables) ≡ true
    within row table at = let low = slice_get_within tables row table at in grind (arith, nat_tests)

    both : (o p : Option ℕ) → slice_get tables row ≡ o → slice_get tables other ≡ p → option_map_or (λ t. option_map_or (nat_eq t) p false) o false ≡ true → (nat_lt row (length tables) && nat_lt other (length tables)) ≡ true
    both None p at to is = cc
    both (Some t) None at to is = cc
    both (Some t) (Some u) at to is = and_from (nat_lt row (length tables)) (nat_lt other (length tables)) (within row t at) (within other u to)

pub atom_below : (tables : List ℕ) (a : Atom) → atom_is_bound tables a ≡ true → atom_is_below (length tables) a ≡ true
atom_below tables (atom.Le left right most) bound =
    let first = and_parts (has_variable tables left && has_variable tables right) (is_moderate most) bound in
    let both = and_parts (has_variable tables left) (has_variable tables right) first.0 in
    and_from (side_is_below (length tables) left) (side_is_below (length tables) right) (side_below tables left both.0) (side_below tables right both.1)
atom_below tables (atom.TextEq left right) bound =
    let both = and_parts (has_variable tables left) (has_variable tables right) bound in
    and_from (side_is_below (length tables) left) (side_is_below (length tables) right) (side_below tables left both.0) (side_below tables right both.1)
atom_below tables (atom.TextNe left right) bound =
    let both = and_parts (has_variable tables left) (has_variable tables right) bound in
    and_from (side_is_below (length tables) left) (side_is_below (length tables) right) (side_below tables left both.0) (side_below tables right both.1)
atom_below tables (atom.IsNull row column) bound = bound
atom_below tables (atom.NotNull row column) bound = bound
atom_below tables (atom.Same row other) bound = of_one_table tables row other bound
atom_below tables (atom.Other row other) bound = of_one_table tables row other bound

-- ---- sentences and their outlines

pub in_outline : (gs : List Formula) (sentence node : ℕ) (x : Node) → node_at (outlines_of gs) sentence node ≡ Some x → (g : Formula) × (slice_get gs sentence ≡ Some g) × (slice_get (nodes_of g) node ≡ Some x)
in_outline [] sentence node x at = cc
in_outline (g ∷ gs) zero node x at = (g, refl, at)
in_outline (g ∷ gs) (suc sentence) node x at = in_outline gs sentence node x at

pub to_outline : (gs : List Formula) (sentence node : ℕ) (g : Formula) (x : Node) → slice_get gs sentence ≡ Some g → slice_get (nodes_of g) node ≡ Some x → node_at (outlines_of gs) sentence node ≡ Some x
to_outline [] sentence node g x is at = cc
to_outline (h ∷ gs) zero node g x is at = subst (λ g. slice_get (nodes_of g) node ≡ Some x) (sym (same_Some h g is)) at
to_outline (h ∷ gs) (suc sentence) node g x is at = to_outline gs sentence node g x is at

pub forward_from : (n : ℕ) (cs : List Clause) → ((i : ℕ) (c : Clause) → slice_get cs i ≡ Some c → guards_before (n + i) c ≡ true) → are_forward_from n cs ≡ true
forward_from n [] each = refl
forward_from n (c ∷ cs) each =
    let first : n + 0 ≡ n = omega arith in
    and_from (guards_before n c) (are_forward_from (suc n) cs) (subst (λ m. guards_before m c ≡ true) first (each 0 c refl))
    (forward_from (suc n) cs (λ i d at. let same : n + suc i ≡ suc n + i = omega arith in subst (λ m. guards_before m d ≡ true) same (each (suc i) d at)))
