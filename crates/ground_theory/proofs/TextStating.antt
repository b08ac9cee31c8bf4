-- Each fact about texts says of its two sides what its edge says.
use Rattle.std.proofs.Common.{◌≡◌, ◌∙◌, sym, ap, refl, subst, ℕ, suc, ◌<◌, ◌+◌, ◌*◌, Bool, true, false, List, [], ◌∷◌, ◌++◌, length, arith}
use Rattle.std.specs.Prelude.{Option, Some, None, slice_get, option_and_then, unwrap_or}
use Rattle.std.specs.List.{AllZip, AllByRecursion, Contains}
use Rattle.std.proofs.lemmas.Bool.{and_parts}
use Rattle.std.proofs.lemmas.List.Elements.{Contains-append_left, Contains-append_right}
use Rattle.std.proofs.lemmas.Option.{slice_get_within, get_or_from_slice_get}
use Rattle.lint_base.proofs.Lists.{all_at}
use Rattle.lint_core.specs.declared.certificate.TextEdge.{TextEdge}
use Rattle.lint_core.specs.declared.certificate.TextEdge.TheVariants as edge
use Rattle.lint_core.specs.declared.schema.Domain.{Domain}
use Rattle.lint_core.specs.declared.schema.Domain.TheVariants as domain
use Rattle.sort_formula.specs.declared.formula.Side.{Side}
use Rattle.sort_formula.specs.declared.formula.Side.TheVariants as side
use Rattle.sort_formula.specs.declared.formula.Atom.{Atom}
use Rattle.sort_formula.specs.declared.formula.Atom.TheVariants as atom
use Rattle.sort_formula.specs.Chains.{equal_sides, text_cells}
use Rattle.sort_formula.specs.Facts.{same_rows_of}
use Rattle.text_classes.specs.declared.facts.TextEnd.{TextEnd}
use Rattle.text_classes.specs.declared.facts.TextEnd.TheVariants as end
use Rattle.text_classes.specs.declared.facts.TextFact.{TextFact}
use Rattle.text_classes.specs.Texts.{IsAmong, IsBelow}
use Rattle.ground_theory.specs.declared.joining.Join.{Join}
use Rattle.ground_theory.specs.declared.literal.Frame.{Frame}
use Rattle.ground_theory.specs.declared.literal.Literal.{Literal}
use Rattle.ground_theory.specs.declared.numbering.Cell.{Cell}
use Rattle.ground_theory.specs.declared.numbering.Named.{Named}
use Rattle.ground_theory.specs.Assignments.{domains_at}
use Rattle.ground_theory.specs.Edges.{domain_of}
use Rattle.ground_theory.specs.Fitting.{is_text, is_text_side, fits, all_fit}
use Rattle.ground_theory.specs.Leaves.{literal_branch}
use Rattle.ground_theory.specs.TextEdges.{ends, end_side, unequal_sides, IsTextSystem}
use Rattle.ground_theory.specs.inner.Joining.{join_at}
use Rattle.ground_theory.specs.inner.Numbering.{number_at, cell_at, IsNumbered}
use Rattle.ground_theory.specs.inner.Paths.{AreRooted}
use Rattle.ground_theory.specs.inner.Sifting.{gathered, firm_of, firm_side}
use Rattle.ground_theory.specs.inner.Sums.{told, HaveColumns}
use Rattle.ground_theory.specs.inner.TextSystem.{end_at, said_fact, said_origin, same_fact, same_origin, fact_at_column, origin_at_column, join_facts, join_origins}
use Rattle.ground_theory.proofs.Bounds.{domain_is}
use Rattle.ground_theory.proofs.Facts.{eq_there, ne_there, same_there, some_text}
use Rattle.ground_theory.proofs.Placing.{one_place}
use Rattle.ground_theory.proofs.Stating.{firm_placed, domain_row}

zip_append : {A B : Type 0} (R : A → B → Type 0) (xs : List A) (ys : List B) (us : List A) (vs : List B) → AllZip R xs ys → AllZip R us vs → AllZip R (xs ++ us) (ys ++ vs)
zip_append R [] [] us vs first second = second
zip_append R [] (y ∷ ys) us vs first second = absurd first
zip_append R (x ∷ xs) [] us vs first second = absurd first
zip_append R (x ∷ xs) (y ∷ ys) us vs first second = (first.0, zip_append R xs ys us vs first.1 second)

zip_gathered : {A B : Type 0} (R : A → B → Type 0) (f : ℕ → Atom → List A) (g : ℕ → Atom → List B) (ls : List Literal) (start : ℕ) →
    ((k : ℕ) (l : Literal) → slice_get ls k ≡ Some l → AllZip R (f (start + k) l.atom) (g (start + k) l.atom)) → AllZip R (gathered f start ls) (gathered g start ls)
zip_gathered R f g [] start each = tt
zip_gathered R f g (l ∷ ls) start each =
    zip_append R (f start l.atom) (g start l.atom) (gathered f (suc start) ls) (gathered g (suc start) ls)
    (subst (λ (n : ℕ). AllZip R (f n l.atom) (g n l.atom)) (let e : start + 0 ≡ start = omega arith in e) (each 0 l refl))
    (zip_gathered R f g ls (suc start) (λ k m at. subst (λ (n : ℕ). AllZip R (f n m.atom) (g n m.atom)) (let e : start + suc k ≡ suc start + k = omega arith in e) (each (suc k) m at)))

zip_told : {X A B : Type 0} (R : A → B → Type 0) (f : ℕ → X → List A) (g : ℕ → X → List B) (xs : List X) (start : ℕ) →
    ((k : ℕ) (x : X) → slice_get xs k ≡ Some x → AllZip R (f (start + k) x) (g (start + k) x)) → AllZip R (told f start xs) (told g start xs)
zip_told R f g [] start each = tt
zip_told R f g (x ∷ xs) start each =
    zip_append R (f start x) (g start x) (told f (suc start) xs) (told g (suc start) xs)
    (subst (λ (n : ℕ). AllZip R (f n x) (g n x)) (let e : start + 0 ≡ start = omega arith in e) (each 0 x refl))
    (zip_told R f g xs (suc start) (λ k m at. subst (λ (n : ℕ). AllZip R (f n m) (g n m)) (let e : start + suc k ≡ suc start + k = omega arith in e) (each (suc k) m at)))

module _ (frame : Frame) (literals : List Literal) (all : all_fit frame literals ≡ true) (columns : HaveColumns frame)
    (labels : List ℕ) (rows_is : length labels ≡ length frame.tables) (firms : List Named) (firms_is : firms ≡ gathered firm_of 0 literals)
    (places : List (Option ℕ)) (cells : List Cell) (numbered : IsNumbered labels firms (length firms) places cells) where
  abbrev both : Side → Side → Option (Side × Side)
  both a b = Some (a, b)

  abbrev sides : ℕ → Side
  sides n = side.Cell (cell_at cells n).row (cell_at cells n).column

  -- the fact says what the edge says, of variables of cells
  pub record IsTrueFact (o : TextEdge) (f : TextFact) : Type 0 where
    pub says : ends frame literals f.equal o ≡ both (end_side sides f.left) (end_side sides f.right)
    pub among : IsAmong (length cells) f

  record IsEndOf (e : TextEnd) (s : Side) : Type 0 where
    side : end_side sides e ≡ s
    low : IsBelow (length cells) e

  cell_end : (row column n : ℕ) → number_at places row column ≡ Some n → column < 64 → IsEndOf (end.Var n) (side.Cell row column)
  cell_end row column n some c =
      let placed = numbered.numbering.placed (row * 64 + column) n some in
      let kept = numbered.numbering.kept n placed.0 in
      let one = one_place (cell_at cells n).row (cell_at cells n).column row column kept.column c placed.1 in
      record {
        side = ap (λ (r : ℕ). side.Cell r (cell_at cells n).column) one.0 ∙ ap (λ (k : ℕ). side.Cell row k) one.1;
        low = placed.0;
      }

  text_cell : (row column : ℕ) → is_text (slice_get (domains_at frame row) column) ≡ true → (row < length labels) × (column < 64)
  text_cell row column is =
      let d = some_text (slice_get (domains_at frame row) column) is in
      let low : row < length frame.tables = domain_row frame row column d.0 d.1 in
      let within : column < length (domains_at frame row) = slice_get_within (domains_at frame row) column d.0 d.1 in
      let few = columns row in
      (omega arith, omega arith)

  side_end : (k : ℕ) (l : Literal) (s : Side) → slice_get literals k ≡ Some l → is_text_side frame s ≡ true →
      ((row column : ℕ) → s ≡ side.Cell row column → Contains (firm_of k l.atom) (record { fact = k; row = row; column = column })) → IsEndOf (end_at places s) s
  side_end k l side.Zero at is there = cc is
  side_end k l (side.Text text) at is there = record { side = refl; low = tt }
  side_end k l (side.Cell row column) at is there =
      let in_both = text_cell row column is in
      let placed = firm_placed frame literals all columns labels rows_is firms firms_is places cells numbered k l row column at (there row column refl) in_both.0 in
      subst (λ (o : Option ℕ). IsEndOf (end.Var (unwrap_or o 0)) (side.Cell row column)) (sym placed.1) (cell_end row column placed.0 placed.1 in_both.1)

  itself : (k row column : ℕ) (s : Side) → s ≡ side.Cell row column → Contains (firm_side k s) (record { fact = k; row = row; column = column })
  itself k row column s e = subst (λ (s : Side). Contains (firm_side k s) (record { fact = k; row = row; column = column })) (sym e) (0, (let h : 0 < 1 = omega arith in h), refl)

  true_fact : (o : TextEdge) (a b : TextEnd) (s t : Side) (equal : Bool) → IsEndOf a s → IsEndOf b t → ends frame literals equal o ≡ both s t → IsTrueFact o (record { left = a; right = b; equal = equal })
  true_fact o a b s t equal first second is = record {
    says = is ∙ (ap (λ (x : Side). both x t) (sym first.side) ∙ ap (λ (x : Side). both (end_side sides a) x) (sym second.side));
    among = record { left = first.low; right = second.low };
  }

  -- ---- what literals say

  said : (k : ℕ) (l : Literal) → slice_get literals k ≡ Some l → (x : Atom) → l.atom ≡ x → AllZip IsTrueFact (said_origin k x) (said_fact places k x)
  said k l at (atom.TextEq left right) is =
      let fit : fits frame l.atom ≡ true = all_at (λ (l : Literal). fits frame l.atom) literals k l all at in
      let parts = and_parts (is_text_side frame left) (is_text_side frame right) (ap (fits frame) (sym is) ∙ fit) in
      let first = side_end k l left at parts.0 (λ row column e. subst (λ (a : Atom). Contains (firm_of k a) (record { fact = k; row = row; column = column })) (sym is) (Contains-append_left (firm_side k left) (firm_side k right) (record { fact = k; row = row; column = column }) (itself k row column left e))) in
      let second = side_end k l right at parts.1 (λ row column e. subst (λ (a : Atom). Contains (firm_of k a) (record { fact = k; row = row; column = column })) (sym is) (Contains-append_right (firm_side k left) (firm_side k right) (record { fact = k; row = row; column = column }) (itself k row column right e))) in
      (true_fact (edge.Fact k) (end_at places left) (end_at places right) left right true first second (ap (option_and_then equal_sides) (eq_there frame literals k l at left right is fit)), tt)
  said k l at (atom.TextNe left right) is =
      let fit : fits frame l.atom ≡ true = all_at (λ (l : Literal). fits frame l.atom) literals k l all at in
      let parts = and_parts (is_text_side frame left) (is_text_side frame right) (ap (fits frame) (sym is) ∙ fit) in
      let first = side_end k l left at parts.0 (λ row column e. subst (λ (a : Atom). Contains (firm_of k a) (record { fact = k; row = row; column = column })) (sym is) (Contains-append_left (firm_side k left) (firm_side k right) (record { fact = k; row = row; column = column }) (itself k row column left e))) in
      let second = side_end k l right at parts.1 (λ row column e. subst (λ (a : Atom). Contains (firm_of k a) (record { fact = k; row = row; column = column })) (sym is) (Contains-append_right (firm_side k left) (firm_side k right) (record { fact = k; row = row; column = column }) (itself k row column right e))) in
      (true_fact (edge.Fact k) (end_at places left) (end_at places right) left right false first second (ap (option_and_then unequal_sides) (ne_there frame literals k l at left right is fit)), tt)
  said k l at (atom.Le left right most) is = tt
  said k l at (atom.IsNull row column) is = tt
  said k l at (atom.NotNull row column) is = tt
  said k l at (atom.Same row other) is = tt
  said k l at (atom.Other row other) is = tt

  -- ---- rows that are one

  same_numbers : (j : Join) (column : ℕ) (size : ℕ) → slice_get (domains_at frame j.row) column ≡ Some (domain.Text size) → same_rows_of (literal_branch frame literals) j.fact ≡ Some (j.row, j.other) →
      (o p : Option ℕ) → number_at places j.row column ≡ o → number_at places j.other column ≡ p → AllZip IsTrueFact (same_origin j.fact column o p) (same_fact o p)
  same_numbers j column size at rows None p first second = tt
  same_numbers j column size at rows (Some n) None first second = tt
  same_numbers j column size at rows (Some n) (Some m) first second =
      let within : column < length (domains_at frame j.row) = slice_get_within (domains_at frame j.row) column (domain.Text size) at in
      let few = columns j.row in
      let c : column < 64 = omega arith in
      let dom : domain_of frame literals j.row column ≡ Some (domain.Text size) = domain_is frame literals j.row column ∙ at in (
        true_fact (edge.Same j.fact column) (end.Var n) (end.Var m) (side.Cell j.row column) (side.Cell j.other column) true (cell_end j.row column n first c) (cell_end j.other column m second c)
            (ap (option_and_then (λ (rows : ℕ × ℕ). option_and_then (text_cells column rows) (domain_of frame literals rows.0 column))) rows ∙ ap (option_and_then (text_cells column (j.row, j.other))) dom),
        tt,
      )

  same_column : (j : Join) (column : ℕ) (d : Domain) → slice_get (domains_at frame j.row) column ≡ Some d → same_rows_of (literal_branch frame literals) j.fact ≡ Some (j.row, j.other) →
      AllZip IsTrueFact (origin_at_column frame places j column d) (fact_at_column frame places j column d)
  same_column j column (domain.Number least greatest unit) at rows = tt
  same_column j column (domain.Text size) at rows = same_numbers j column size at rows (number_at places j.row column) (number_at places j.other column) refl refl

  joined : (joins : List Join) → AreRooted literals joins → AllZip IsTrueFact (told (join_origins frame places) 0 joins) (told (join_facts frame places) 0 joins)
  joined joins rooted = zip_told IsTrueFact (join_origins frame places) (join_facts frame places) joins 0 (λ k j at_j.
      let j_is : join_at joins k ≡ j = get_or_from_slice_get joins k j (record { fact = 0; row = 0; other = 0 }) at_j in
      let root = rooted k (slice_get_within joins k j at_j) in
      let at : slice_get literals j.fact ≡ Some root.0 = ap (λ (j : Join). slice_get literals j.fact) (sym j_is) ∙ root.1 in
      let is : root.0.atom ≡ atom.Same j.row j.other = root.2 ∙ ap (λ (j : Join). atom.Same j.row j.other) j_is in
      let rows = same_there frame literals j.fact root.0 at j.row j.other is (all_at (λ (l : Literal). fits frame l.atom) literals j.fact root.0 all at) in
      zip_told IsTrueFact (origin_at_column frame places j) (fact_at_column frame places j) (domains_at frame j.row) 0
      (λ c d at_d. subst (λ (n : ℕ). AllZip IsTrueFact (origin_at_column frame places j n d) (fact_at_column frame places j n d)) (let e : c ≡ 0 + c = omega arith in e) (same_column j c d at_d rows)))

  -- all facts
  pub all_true : (joins : List Join) → AreRooted literals joins →
      AllZip IsTrueFact (gathered said_origin 0 literals ++ told (join_origins frame places) 0 joins) (gathered (said_fact places) 0 literals ++ told (join_facts frame places) 0 joins)
  all_true joins rooted =
      zip_append IsTrueFact (gathered said_origin 0 literals) (gathered (said_fact places) 0 literals) (told (join_origins frame places) 0 joins) (told (join_facts frame places) 0 joins)
      (zip_gathered IsTrueFact said_origin (said_fact places) literals 0 (λ k l at. subst (λ (n : ℕ). AllZip IsTrueFact (said_origin n l.atom) (said_fact places n l.atom)) (let e : k ≡ 0 + k = omega arith in e) (said k l at l.atom refl)))
      (joined joins rooted)

  weaker : (os : List TextEdge) (fs : List TextFact) → AllZip IsTrueFact os fs → IsTextSystem frame literals sides os fs × AllByRecursion (IsAmong (length cells)) fs
  weaker [] [] each = (tt, tt)
  weaker [] (f ∷ fs) each = absurd each
  weaker (o ∷ os) [] each = absurd each
  weaker (o ∷ os) (f ∷ fs) each = (let rest = weaker os fs each.1 in ((each.0.says, rest.0), (each.0.among, rest.1)))

  pub text_system : (joins : List Join) → AreRooted literals joins →
      IsTextSystem frame literals sides (gathered said_origin 0 literals ++ told (join_origins frame places) 0 joins) (gathered (said_fact places) 0 literals ++ told (join_facts frame places) 0 joins)
      × AllByRecursion (IsAmong (length cells)) (gathered (said_fact places) 0 literals ++ told (join_facts frame places) 0 joins)
  text_system joins rooted = weaker _ _ (all_true joins rooted)
