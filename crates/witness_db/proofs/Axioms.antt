-- Axioms among sentences that hold, hold.
use Rattle.std.proofs.Common.{◌≡◌, ◌∙◌, ap, subst, ℕ, true, List, []}
use Rattle.std.proofs.lemmas.Option.{slice_get_within, get_or_from_slice_get, slice_get-get_or}
use Rattle.std.specs.Prelude.{Some, slice_get, All}
use Rattle.std.specs.List.{list_all, Contains}
use Rattle.lint_core.specs.declared.database.Database.{Database}
use Rattle.sort_formula.specs.declared.formula.Formula.{Formula}
use Rattle.sort_formula.specs.Axioms.{Axiom as Stated}
use Rattle.sort_formula.specs.Holds.{holds}
use Rattle.witness_db.proofs.Domains.{all_from}

pub all_hold : (db : Database) (sentences : List Formula) → ((i : ℕ) (formula : Formula) → slice_get sentences i ≡ Some formula → holds db formula [] ≡ true) →
    (those : List Stated) → All (λ (x : Stated). Contains sentences x.sentence) those → list_all (λ (x : Stated). holds db x.sentence []) those ≡ true
all_hold db sentences each those among =
    all_from (λ (x : Stated). holds db x.sentence []) those
    (λ i x at.
    let here : Contains sentences x.sentence =
    subst (λ (y : Stated). Contains sentences y.sentence) (get_or_from_slice_get those i x x at) (among i x (slice_get_within those i x at)) in
    each here.0 x.sentence (slice_get-get_or sentences here.0 x.sentence here.1 ∙ ap Some here.2))
