-- When two refusals tell the same: all of them is the same, but for the place of a Syntax refusal, of which the
-- definitions say only that it is the place of some token, or the empty one behind the last.
use Rattle.std.specs.Prelude.{◌≡◌}
use Rattle.lint_base.specs.declared.place.Fault.TheVariants.{Syntax}
use Rattle.lint_base.specs.declared.place.Refusal.{Refusal}

pub record SameRefusal (refusal other : Refusal) : Type 0 where
  pub fault : refusal.fault ≡ other.fault
  pub count : refusal.count ≡ other.count
  pub span : (refusal.fault ≡ Syntax → ⊥) → refusal.span ≡ other.span
