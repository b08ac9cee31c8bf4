-- Chains of equal facts, named by the facts' numbers. Each fact is taken from either side to the other.
use Rattle.std.specs.Prelude.{◌≡◌, ◌⊎◌, ◌<◌, ℕ, true, false, List, [], ◌∷◌, length, Option, Some, None, slice_index_or}
use Rattle.lint_core.specs.Comparison.{is_same_text}
use Rattle.text_classes.specs.declared.facts.TextEnd.{TextEnd}
use Rattle.text_classes.specs.declared.facts.TextEnd.TheVariants.{Text}
use Rattle.text_classes.specs.declared.facts.TextFact.{TextFact}

-- the fact of this number
abbrev pub fact_at : List TextFact → ℕ → TextFact
fact_at facts number = slice_index_or facts number (record { left = Text []; right = Text []; equal = false })

-- from the one side of an equal fact to the other
pub record IsStep (f : TextFact) (from next : TextEnd) : Type 0 where
  pub equal : f.equal ≡ true
  pub ends : ((from ≡ f.left) × (next ≡ f.right)) ⊎ ((from ≡ f.right) × (next ≡ f.left))

-- the facts lead from the one end to the other
abbrev pub Leads : List TextFact → TextEnd → List ℕ → TextEnd → Type 0
Leads facts from [] to = from ≡ to
Leads facts from (n ∷ ns) to = (next : TextEnd) × (n < length facts) × IsStep (fact_at facts n) from next × Leads facts next ns to

-- from the left side of the unequal fact `last` to its right one, or from a text to another
abbrev pub IsPath : List TextFact → Option ℕ → List ℕ → Type 0
IsPath facts (Some last) path =
    (last < length facts) × ((fact_at facts last).equal ≡ false) × Leads facts (fact_at facts last).left path (fact_at facts last).right
IsPath facts None path = (a : List ℕ) × (b : List ℕ) × (is_same_text a b ≡ false) × Leads facts (Text a) path (Text b)
