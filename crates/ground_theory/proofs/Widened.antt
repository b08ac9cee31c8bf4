-- Right leaves exclude assignments also where a row term's table is not there: a frame with more tables, of no columns, has
-- the same right leaves and the same assignments.
use Rattle.std.proofs.Common.{◌≡◌, ◌∙◌, sym, ap, ap₂, refl, subst, ℕ, zero, suc, ◌<◌, true, false, List, [], ◌∷◌, ◌++◌, map, arith}
use Rattle.std.specs.Prelude.{Option, Some, None, slice_get, option_and_then, unwrap_or}
use Rattle.std.specs.Option.{option_map_or}
use Rattle.lint_core.specs.declared.certificate.SameEdge.{SameEdge}
use Rattle.lint_core.specs.declared.certificate.Step.{Step}
use Rattle.lint_core.specs.declared.certificate.Step.TheVariants as step
use Rattle.lint_core.specs.declared.certificate.SumEdge.{SumEdge}
use Rattle.lint_core.specs.declared.certificate.SumEdge.TheVariants as sum
use Rattle.lint_core.specs.declared.certificate.TextEdge.{TextEdge}
use Rattle.lint_core.specs.declared.certificate.TextEdge.TheVariants as text
use Rattle.lint_core.specs.declared.schema.Domain.{Domain}
use Rattle.sort_formula.specs.declared.formula.Atom.{Atom}
use Rattle.sort_formula.specs.Certificate.{children, are_closed}
use Rattle.sort_formula.specs.Facts.{Branch}
use Rattle.ground_theory.specs.declared.literal.Assignment.{Assignment}
use Rattle.ground_theory.specs.declared.literal.Frame.{Frame}
use Rattle.ground_theory.specs.declared.literal.Literal.{Literal}
use Rattle.ground_theory.specs.Assignments.{domains_at, are_in, cells_at, IsAssignment, HasAssignment}
use Rattle.ground_theory.specs.Leaves.{bare_schema, literal_branch, is_right_leaf}
use Rattle.ground_theory.specs.Moving.{moved_sum, moved_text, moved_path, moved}
use Rattle.ground_theory.proofs.Bounds.{domain_is}
use Rattle.ground_theory.proofs.Exclusion.{sum_of, label_below, excluded}
use Rattle.ground_theory.proofs.Moving.{step_moved}
use Rattle.ground_theory.proofs.RightLeaves.{right_closes, opens_never, same_atom}

-- ---- more tables

abbrev empties : ℕ → List (List Domain)
empties zero = []
empties (suc n) = [] ∷ empties n

empty_at : (n t : ℕ) → unwrap_or (slice_get (empties n) t) [] ≡ []
empty_at zero t = refl
empty_at (suc n) zero = refl
empty_at (suc n) (suc t) = empty_at n t

same_at : (dss : List (List Domain)) (n t : ℕ) → unwrap_or (slice_get (dss ++ empties n) t) [] ≡ unwrap_or (slice_get dss t) []
same_at [] n t = empty_at n t
same_at (ds ∷ dss) n zero = refl
same_at (ds ∷ dss) n (suc t) = same_at dss n t

some_at : (dss : List (List Domain)) (n t : ℕ) → t < n → (ds : List Domain) × (slice_get (dss ++ empties n) t ≡ Some ds)
some_at [] zero t low = absurd (omega arith)
some_at [] (suc n) zero low = ([], refl)
some_at [] (suc n) (suc t) low = some_at [] n t (omega arith)
some_at (ds ∷ dss) n zero low = (ds, refl)
some_at (ds ∷ dss) n (suc t) low = some_at dss n t (omega arith)

abbrev wide : Frame → Frame
wide frame = record { tables = frame.tables; domains = frame.domains ++ empties (suc (sum_of frame.tables)) }

same_domains : (frame : Frame) (row : ℕ) → domains_at (wide frame) row ≡ domains_at frame row
same_domains frame row = go (slice_get frame.tables row)
  where
    go : (o : Option ℕ) → unwrap_or (option_and_then (slice_get (frame.domains ++ empties (suc (sum_of frame.tables)))) o) [] ≡ unwrap_or (option_and_then (slice_get frame.domains) o) []
    go None = refl
    go (Some t) = same_at frame.domains (suc (sum_of frame.tables)) t

still_assigned : (frame : Frame) (a : Assignment) → IsAssignment frame a → IsAssignment (wide frame) a
still_assigned frame a is = record {
  classes = is.classes;
  rows = is.rows;
  domains = λ row table at. subst (λ (ds : List Domain). are_in ds (cells_at a row) ≡ true) (sym (same_domains frame row)) (is.domains row table at);
  tables = is.tables;
  cells = is.cells;
}

-- ---- the facts and rows as they are

abbrev here : ℕ → ℕ
here n = n

sum_kept : (e : SumEdge) → moved_sum here here e ≡ e
sum_kept (sum.Fact fact) = refl
sum_kept (sum.Low row column) = refl
sum_kept (sum.High row column) = refl
sum_kept (sum.Same fact column) = refl
sum_kept (sum.Back fact column) = refl

sums_kept : (es : List SumEdge) → map (moved_sum here here) es ≡ es
sums_kept [] = refl
sums_kept (e ∷ es) = ap₂ (λ (x : SumEdge) (xs : List SumEdge). x ∷ xs) (sum_kept e) (sums_kept es)

text_kept : (e : TextEdge) → moved_text here here e ≡ e
text_kept (text.Fact fact) = refl
text_kept (text.FactBack fact) = refl
text_kept (text.Same fact column) = refl
text_kept (text.Back fact column) = refl

texts_kept : (es : List TextEdge) → map (moved_text here here) es ≡ es
texts_kept [] = refl
texts_kept (e ∷ es) = ap₂ (λ (x : TextEdge) (xs : List TextEdge). x ∷ xs) (text_kept e) (texts_kept es)

path_kept : (path : List SameEdge) → moved_path here here path ≡ path
path_kept [] = refl
path_kept (e ∷ es) = ap (λ (xs : List SameEdge). e ∷ xs) (path_kept es)

last_kept : (last : Option ℕ) → option_and_then (λ f. Some (here f)) last ≡ last
last_kept None = refl
last_kept (Some fact) = refl

kept : (s : Step) → moved here here s ≡ s
kept (step.Sum edges) = ap step.Sum (sums_kept edges)
kept (step.Text last edges) = ap₂ step.Text (last_kept last) (texts_kept edges)
kept (step.Null fact other path) = ap (step.Null fact other) (path_kept path)
kept (step.Same fact path) = ap (step.Same fact) (path_kept path)
kept (step.And fact) = refl
kept (step.Or fact) = refl
kept (step.Ex fact) = refl
kept (step.All fact row) = refl

still_right : (frame : Frame) (literals : List Literal) (leaf : Step) → is_right_leaf frame literals leaf ≡ true → is_right_leaf (wide frame) literals leaf ≡ true
still_right frame literals leaf right =
    let closes = right_closes frame literals leaf right in
    let b : Branch = literal_branch frame literals in
    ap (λ (o : Option (List Branch)). option_map_or are_closed o false)
    (ap (children (bare_schema (wide frame)) b) (sym (kept leaf))
    ∙ step_moved here here (bare_schema frame) (bare_schema (wide frame)) b b
    (λ i x at. at ∙ ap (λ (y : Atom). Some y) (sym (same_atom x)))
    (λ i x row at named column.
    domain_is (wide frame) literals row column ∙ (ap (λ (ds : List Domain). slice_get ds column) (same_domains frame row) ∙ sym (domain_is frame literals row column)))
    leaf (λ opens. opens_never frame literals leaf opens closes) closes)

-- the exclusion law
pub right_leaves_exclude : (frame : Frame) (literals : List Literal) (leaf : Step) → is_right_leaf frame literals leaf ≡ true → HasAssignment frame literals → ⊥
right_leaves_exclude frame literals leaf right some =
    excluded (wide frame)
    (λ row table at. some_at frame.domains (suc (sum_of frame.tables)) table (label_below frame.tables row table at))
    literals leaf (still_right frame literals leaf right)
    (record { assignment = some.assignment; is = still_assigned frame some.assignment some.is; satisfied = some.satisfied })
