-- Paths of Sames: what `classes` answers of the joins leads from the one row to the other.
use Rattle.std.proofs.Common.{◌≡◌, ◌∙◌, sym, ap, refl, subst, ℕ, ◌<◌, ◌+◌, ◌⊎◌, Bool, true, false, List, [], ◌∷◌, ◌++◌, length, map, inl, inr, arith}
use Rattle.std.specs.Prelude.{Option, Some, None}
use Rattle.std.proofs.lemmas.Bool.{cases_eq}
use Rattle.std.proofs.lemmas.List.{length-append, length-map, get_or_append_left, get_or-map, get_or_at, get_or_default}
use Rattle.lint_core.specs.declared.certificate.SameEdge.{SameEdge}
use Rattle.lint_core.specs.declared.database.Value.TheVariants as value
use Rattle.lint_core.specs.Comparison.{is_same_text}
use Rattle.sort_formula.specs.declared.formula.Side.TheVariants as side
use Rattle.text_classes.specs.declared.facts.TextEnd.{TextEnd}
use Rattle.text_classes.specs.declared.facts.TextEnd.TheVariants.{Var, Text}
use Rattle.text_classes.specs.declared.facts.TextFact.{TextFact}
use Rattle.text_classes.specs.Paths.{fact_at, IsStep, Leads, IsPath}
use Rattle.text_classes.specs.Texts.{Holds, Satisfies, IsAmong}
use Rattle.std.specs.List.{All}
use Rattle.ground_theory.specs.declared.joining.Join.{Join}
use Rattle.ground_theory.specs.inner.Joining.{join_at, AreSames}
use Rattle.ground_theory.specs.inner.Paths.{IsJoinEdge, LeadsBy, AreTied, join_fact, row_facts}
use Rattle.ground_theory.proofs.Moving.{one_side, same_self}

abbrev no_fact : TextFact
no_fact = record { left = Text []; right = Text []; equal = false }

pub leads_push : (joins : List Join) (from : ℕ) (path : List SameEdge) (at : ℕ) (e : SameEdge) (next : ℕ) → LeadsBy joins from path at → IsJoinEdge joins e at next →
    LeadsBy joins from (path ++ e ∷ []) next
leads_push joins from [] at e next led edge = (next, subst (λ (n : ℕ). IsJoinEdge joins e n next) (sym led) edge, refl)
leads_push joins from (x ∷ xs) at e next led edge = (led.0, led.1, leads_push joins led.0 xs at e next led.2 edge)

pub one_text : (a b : List ℕ) → is_same_text a b ≡ true → a ≡ b
one_text a b same = let e : side.Text a ≡ side.Text b = one_side (side.Text a) (side.Text b) same in cc e

module _ (joins : List Join) (from to : ℕ) where
  abbrev facts : List TextFact
  facts = row_facts joins from to

  abbrev last : TextFact
  last = record { left = Var from; right = Var to; equal = false }

  count : length facts ≡ length joins + 1
  count = length-append (map join_fact joins) (last ∷ []) ∙ (let m : length (map join_fact joins) ≡ length joins = length-map joins join_fact in omega arith)

  join_there : (k : ℕ) → k < length joins → fact_at facts k ≡ join_fact (join_at joins k)
  join_there k h =
      get_or_append_left (map join_fact joins) (last ∷ []) no_fact k (let m : length (map join_fact joins) ≡ length joins = length-map joins join_fact in omega arith)
      ∙ get_or-map join_fact joins k (join_at [] 0) no_fact h

  last_there : fact_at facts (length joins) ≡ last
  last_there = get_or_at (map join_fact joins) last [] no_fact (length joins) (length-map joins join_fact)

  -- a step is along a join
  step_listed : (n : ℕ) (a b : TextEnd) → n < length facts → IsStep (fact_at facts n) a b → n < length joins
  step_listed n a b h step = elim (cases_eq n (length joins)) [
    | inl e ↦ absurd (let f : false ≡ true = sym (ap (λ (t : TextFact). t.equal) (ap (fact_at facts) e ∙ last_there)) ∙ step.equal in cc f)
    | inr e ↦ (let c = count in omega arith)
  ]

  pub first_listed : (at n : ℕ) (ns : List ℕ) → Leads facts (Var at) (n ∷ ns) (Var to) → n < length joins
  first_listed at n ns leads = step_listed n (Var at) leads.0 leads.1 leads.2

  pub record IsWalked (path : List SameEdge) (next : ℕ) (ns : List ℕ) : Type 0 where
    pub led : LeadsBy joins from path next
    pub rest : Leads facts (Var next) ns (Var to)

  pub walk_more : (path : List SameEdge) (at n : ℕ) (ns : List ℕ) → LeadsBy joins from path at → Leads facts (Var at) (n ∷ ns) (Var to) → (back : Bool) (next : ℕ) →
      ((back ≡ false) × ((join_at joins n).row ≡ at) × (next ≡ (join_at joins n).other)) ⊎ ((back ≡ true) × ((join_at joins n).row ≡ at → ⊥) × (next ≡ (join_at joins n).row)) →
      IsWalked (path ++ record { fact = (join_at joins n).fact; back = back } ∷ []) next ns
  walk_more path at n ns led leads back next way =
      let j : Join = join_at joins n in
      let listed : n < length joins = first_listed at n ns leads in
      let ends = subst (λ (f : TextFact). IsStep f (Var at) leads.0) (join_there n listed) leads.2 in
      let go : IsJoinEdge joins (record { fact = j.fact; back = back }) at next × (leads.0 ≡ Var next) =
      elim way [
        | inl w ↦ (
          record { place = n; listed = listed; fact = refl; ends = inl (w.0, sym w.1, w.2) },
          elim ends.ends [
            | inl e ↦ e.1 ∙ ap Var (sym w.2)
            | inr e ↦ (let o : at ≡ j.other = cc e.0 in e.1 ∙ ap Var (w.1 ∙ o ∙ sym w.2))
          ],
        )
        | inr w ↦ elim ends.ends [
          | inl e ↦ (let o : at ≡ j.row = cc e.0 in absurd (w.1 (sym o)))
          | inr e ↦ (let o : at ≡ j.other = cc e.0 in (record { place = n; listed = listed; fact = refl; ends = inr (w.0, o, w.2) }, e.1 ∙ ap Var (sym w.2)))
        ]
      ] in
      record {
        led = leads_push joins from path at (record { fact = j.fact; back = back }) next led go.0;
        rest = subst (λ (x : TextEnd). Leads facts x ns (Var to)) go.1 leads.3;
      }

  -- no texts are the same along each join and differ at two rows that these tie
  pub no_labels : (texts : ℕ → List ℕ) → Satisfies texts facts → AreTied joins from to → ⊥
  no_labels texts satisfies tied =
      let c = count in
      let differ : is_same_text (texts from) (texts to) ≡ false =
      subst (Holds texts) last_there (satisfies (length joins) no_fact (omega arith)) in
      let same : value.Text (texts from) ≡ value.Text (texts to) =
      tied (λ r. value.Text (texts r)) (λ k h.
      ap value.Text (one_text (texts (join_at joins k).row) (texts (join_at joins k).other)
      (subst (Holds texts) (join_there k h) (satisfies k no_fact (omega arith))))) in
      let one : texts from ≡ texts to = cc same in
      let yes : is_same_text (texts from) (texts to) ≡ true = subst (λ (t : List ℕ). is_same_text (texts from) t ≡ true) one (same_self (side.Text (texts from))) in
      let f : false ≡ true = sym differ ∙ yes in
      cc f

  no_text : (n : ℕ) (a : List ℕ) (b : TextEnd) → n < length facts → IsStep (fact_at facts n) (Text a) b → ⊥
  no_text n a b h step =
      let listed = step_listed n (Text a) b h step in
      let ends = subst (λ (f : TextFact). IsStep f (Text a) b) (join_there n listed) step in
      elim ends.ends [ inl e ↦ cc e.0 | inr e ↦ cc e.0 ]

  -- a path leads from the one row to the other
  pub path_leads : (o : Option ℕ) (path : List ℕ) → IsPath facts o path → Leads facts (Var from) path (Var to)
  path_leads (Some n) path is =
      let c = count in
      let low : n < length facts = is.0 in
      elim (cases_eq n (length joins)) [
        | inl e ↦
            let f : fact_at facts n ≡ last = ap (fact_at facts) e ∙ last_there in
            subst (λ (t : TextFact). Leads facts t.left path t.right) f is.2
        | inr e ↦
            let t : false ≡ true = sym is.1 ∙ ap (λ (t : TextFact). t.equal) (join_there n (omega arith)) in
            cc t
      ]
  path_leads None [] is =
      let e : Text is.0 ≡ Text is.1 = is.3 in
      let one : is.0 ≡ is.1 = cc e in
      let yes : is_same_text is.0 is.1 ≡ true = subst (λ (t : List ℕ). is_same_text is.0 t ≡ true) one (same_self (side.Text is.0)) in
      let f : false ≡ true = sym is.2 ∙ yes in
      cc f
  path_leads None (n ∷ ns) is = absurd (no_text n is.0 is.3.0 is.3.1 is.3.2)

  -- the facts are among the variables of the row terms
  pub facts_among : (rows : ℕ) → AreSames rows joins → from < rows → to < rows → All (IsAmong rows) facts
  facts_among rows within from_in to_in k d h =
      let at : ℕ = k in
      subst (IsAmong rows) (get_or_default facts k no_fact d h)
      (elim (cases_eq k (length joins)) [
        | inl e ↦ subst (IsAmong rows) (sym (ap (fact_at facts) e ∙ last_there)) (record { left = from_in; right = to_in })
        | inr e ↦
            let low : k < length joins = (let c = count in omega arith) in
            let both = within k low in
            subst (IsAmong rows) (sym (join_there k low)) (record { left = both.0; right = both.1 })
      ])
