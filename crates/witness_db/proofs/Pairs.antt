-- The counts and nodes of a needless join's points.
use Rattle.std.proofs.Common.{◌≡◌, ◌∙◌, ◌-◌, ap, ℕ, true, List, length, arith}
use Rattle.std.proofs.lemmas.List.{length-map}
use Rattle.std.proofs.lemmas.List.Edits.{length-remove}
use Rattle.std.specs.Prelude.{Option, nat_lt, remove}
use Rattle.lint_base.proofs.Lists.{below_true}
use Rattle.lint_core.specs.declared.condition.Entry.{Entry}
use Rattle.lint_core.specs.declared.query.Query.{Query}
use Rattle.lint_core.specs.Asked.{main_entries}
use Rattle.lint_core.specs.Database.{below}
use Rattle.sorted_skolem.specs.declared.term.RowTerm.{RowTerm}
use Rattle.instantiate.specs.Plain.{plain_row}
use Rattle.instantiate.proofs.TermLists.{length_below}
use Rattle.witness_db.specs.Leading.{leading_places, place_for}
use Rattle.witness_db.specs.inner.Fitting.{own}

pub places_count : (terms : List RowTerm) (places : List (Option ℕ)) (count : ℕ) → length (leading_places terms places count) ≡ count
places_count terms places count = length-map (below count) (λ node. place_for places (plain_row terms 0 node)) ∙ length_below count

-- all entries but one
pub count_others : (query : Query) (entry : ℕ) (entries : List Entry) → entries ≡ main_entries query → nat_lt entry (length (main_entries query)) ≡ true →
    length entries - 1 ≡ length (remove (own query) entry)
count_others query entry entries is low =
    let before = below_true entry (length (main_entries query)) low in
    let same : length entries ≡ length (main_entries query) = ap length is in
    let tables : length (own query) ≡ length (main_entries query) = length-map (main_entries query) (λ (e : Entry). e.table) in
    let fewer = length-remove (own query) entry (omega arith) in
    omega arith
