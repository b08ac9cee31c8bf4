-- What a chain of equal facts says of texts that satisfy the facts.
use Rattle.std.proofs.Common.{◌≡◌, ◌∙◌, sym, ap, refl, ℕ, ◌<◌, true, List, [], ◌∷◌, length, Option, Some, None, inl, inr, true≢false}
use Rattle.std.proofs.lemmas.Bool.Decides.{Decides-eqb}
use Rattle.std.proofs.lemmas.Slice.Eq.{slice_eq-Decides}
use Rattle.lint_core.specs.Comparison.{is_same_text}
use Rattle.text_classes.specs.declared.facts.TextEnd.{TextEnd}
use Rattle.text_classes.specs.declared.facts.TextEnd.TheVariants.{Text}
use Rattle.text_classes.specs.declared.facts.TextFact.{TextFact}
use Rattle.text_classes.specs.Texts.{text_of, Holds, Satisfies}
use Rattle.text_classes.specs.Paths.{fact_at, IsStep, Leads, IsPath}

pub same_text_is : (a b : List ℕ) → is_same_text a b ≡ true → a ≡ b
same_text_is a b h = (slice_eq-Decides Decides-eqb a b (is_same_text a b) refl).0 h

pub same_text_of : (a b : List ℕ) → a ≡ b → is_same_text a b ≡ true
same_text_of a b same = (slice_eq-Decides Decides-eqb a b (is_same_text a b) refl).1 same

module _ (facts : List TextFact) (texts : ℕ → List ℕ) (holds : Satisfies texts facts) where
  pub fact_holds : (n : ℕ) → n < length facts → Holds texts (fact_at facts n)
  fact_holds n listed = holds n _ listed

  -- an equal fact has one text on both sides
  one_step : (n : ℕ) (from next : TextEnd) → n < length facts → IsStep (fact_at facts n) from next → text_of texts from ≡ text_of texts next
  one_step n from next listed step =
      let f = fact_at facts n in
      let same : text_of texts f.left ≡ text_of texts f.right = same_text_is _ _ (fact_holds n listed ∙ step.equal) in
      elim (step.ends) [
        | inl forth ↦ ap (text_of texts) forth.0 ∙ same ∙ ap (text_of texts) (sym forth.1)
        | inr back ↦ ap (text_of texts) back.0 ∙ sym same ∙ ap (text_of texts) (sym back.1)
      ]

  -- so a chain of them has one
  pub one_text : (from : TextEnd) (path : List ℕ) (to : TextEnd) → Leads facts from path to → text_of texts from ≡ text_of texts to
  one_text from [] to leads = ap (text_of texts) leads
  one_text from (n ∷ ns) to leads = one_step n from leads.0 leads.1 leads.2 ∙ one_text leads.0 ns to leads.3

  pub excluded : (last : Option ℕ) (path : List ℕ) → IsPath facts last path → ⊥
  excluded (Some last) path is =
      let same = same_text_of _ _ (one_text _ path _ is.2) in
      true≢false (sym same ∙ fact_holds last is.0 ∙ is.1)
  excluded None path is = true≢false (sym (same_text_of is.0 is.1 (one_text (Text is.0) path (Text is.1) is.3)) ∙ is.2)
