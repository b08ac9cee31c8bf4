-- Steps that put one branch, or one for each part of a fact, in the place of the first.
use Rattle.std.proofs.Common.{◌≡◌, ◌∙◌, sym, ap, ap₂, subst, ℕ, Bool, true, false, List, [], ◌∷◌, ◌++◌, map, reverse}
use Rattle.std.specs.Prelude.{Some, None, Result, Ok, Err, IfOk, OnOk, slice_get, option_and_then, if◌then◌else◌}
use Rattle.lint_base.specs.declared.place.NoMemory.{NoMemory}
use Rattle.lint_core.specs.declared.certificate.Step.{Step}
use Rattle.lint_core.specs.declared.schema.Table.{Table}
use Rattle.sort_formula.specs.declared.formula.Formula.{Formula, out-Formula}
use Rattle.sort_formula.specs.declared.formula.Formula.TheVariants as f
use Rattle.sort_formula.specs.Certificate.{children, fact_of, opened, with_each_part, with_facts}
use Rattle.sort_formula.specs.Facts.{Fact, Branch}
use Rattle.cert_checker.specs.declared.facts.Open.{Open}
use Rattle.cert_checker.specs.declared.run.Run.{Run}
use Rattle.cert_checker.specs.declared.run.Waiting.{Waiting}
use Rattle.cert_checker.specs.inner.Seen.{branch_of}
use Rattle.cert_checker.specs.inner.Branches.{AreFrontsOf, Extends, IsRun, advanced, branches_of, stepped, waiting_branches, waits}
use Rattle.cert_checker.proofs.Fronts.{branch, fronts_grow, fronts_stay, parts_first, parts_in_front}

-- ---- both lists grow

pub grown_is_run : (old new : Open) (ws : List Waiting) → Extends old new → AreFrontsOf (branch_of old) ws → AreFrontsOf (branch_of new) ws
grown_is_run old new ws extends fronts =
    let is : branch_of new ≡ branch (old.facts.items ++ extends.0.0) (old.tables.items ++ extends.1.0) = ap₂ branch extends.0.1 extends.1.1 in
    subst (λ (b : Branch). AreFrontsOf b ws) (sym is) (fronts_grow old.facts.items extends.0.0 old.tables.items extends.1.0 (reverse ws) fronts)

grown_waiting : (old new : Open) (ws : List Waiting) → Extends old new → AreFrontsOf (branch_of old) ws →
    waiting_branches (branch_of new) ws ≡ waiting_branches (branch_of old) ws
grown_waiting old new ws extends fronts =
    let is : branch_of new ≡ branch (old.facts.items ++ extends.0.0) (old.tables.items ++ extends.1.0) = ap₂ branch extends.0.1 extends.1.1 in
    ap (λ (b : Branch). waiting_branches b ws) is ∙ fronts_stay old.facts.items extends.0.0 old.tables.items extends.1.0 (reverse ws) fronts

abbrev with_branch : Run → Open → Run
with_branch run new = record { branch = new; waiting = run.waiting; is_closed = run.is_closed }

going_branches : (run : Run) → run.is_closed ≡ false →
    branches_of run ≡ branch_of run.branch ∷ waiting_branches (branch_of run.branch) run.waiting.items
going_branches run going =
    ap (λ closed. if closed then [] else branch_of run.branch ∷ waiting_branches (branch_of run.branch) run.waiting.items) going

module _ (schema : List Table) (s : Step) (run : Run) (going : run.is_closed ≡ false) (is_run : IsRun run) (new : Open) where
  one_child : (right : Bool) → children schema (branch_of run.branch) s ≡ (if right then Some (branch_of new ∷ []) else None) → Extends run.branch new →
      advanced schema s (branches_of run) ≡ (if right then Some (branches_of (with_branch run new)) else None)
  one_child true made extends =
      ap (advanced schema s) (going_branches run going)
      ∙ (ap (λ bs. stepped bs (waiting_branches (branch_of run.branch) run.waiting.items)) made
      ∙ (ap (λ bs. Some (branch_of new ∷ bs)) (sym (grown_waiting run.branch new run.waiting.items extends is_run))
      ∙ sym (ap Some (going_branches (with_branch run new) going))))
  one_child false made extends =
      ap (advanced schema s) (going_branches run going) ∙ ap (λ bs. stepped bs (waiting_branches (branch_of run.branch) run.waiting.items)) made

  pub grown_steps : (result : Result Bool NoMemory) →
      IfOk result (λ right. children schema (branch_of run.branch) s ≡ (if right then Some (branch_of new ∷ []) else None)) →
      OnOk result (Extends run.branch new) →
      IfOk result (λ right. advanced schema s (branches_of run) ≡ (if right then Some (branches_of (with_branch run new)) else None))
  grown_steps (Ok right) made extends = one_child right made extends
  grown_steps (Err error) made extends = tt

  pub grown_runs : (result : Result Bool NoMemory) → OnOk result (Extends run.branch new) → OnOk result (AreFrontsOf (branch_of new) run.waiting.items)
  grown_runs (Ok right) extends = grown_is_run run.branch new run.waiting.items extends is_run
  grown_runs (Err error) extends = tt

-- ---- a branch for each part

pub opened_or : (b : Branch) (fact : ℕ) (x : Fact) (parts : List Formula) → slice_get b.facts fact ≡ Some x → x.formula ≡ f.Or parts →
    opened b fact with_each_part ≡ Some (map (λ part. with_facts b (fact_of x.rows part ∷ [])) parts)
opened_or b fact x parts at is =
    ap (option_and_then (λ (x : Fact). with_each_part b x.rows (out-Formula x.formula))) at
    ∙ ap (with_each_part b x.rows) (ap out-Formula is ∙ f.outs-Or parts)

module _ (old new : Open) (rows : List ℕ) (parts : List Formula) (waiting longer : List Waiting) (same : new ≡ old)
    (longer_is : longer ≡ waiting ++ reverse (map (waits (branch_of old) rows) parts)) where
  pub split_is_run : AreFrontsOf (branch_of old) waiting → AreFrontsOf (branch_of new) longer
  split_is_run fronts =
      subst (λ (kept : Open). AreFrontsOf (branch_of kept) longer) (sym same)
      (subst (AreFrontsOf (branch_of old)) (sym longer_is) (parts_in_front (branch_of old) rows parts waiting fronts))

  pub split_branches : waiting_branches (branch_of new) longer ≡ map (λ part. with_facts (branch_of old) (fact_of rows part ∷ [])) parts ++ waiting_branches (branch_of old) waiting
  split_branches =
      ap₂ (λ (kept : Open) ws. waiting_branches (branch_of kept) ws) same longer_is ∙ parts_first (branch_of old) rows parts waiting
