-- The guards of a clause, by what stands above.
use Rattle.std.proofs.Common.{◌≡◌, ap, ℕ, ◌-◌, ◌<◌, List, [], ◌∷◌, length, take, get_or, arith}
use Rattle.std.proofs.lemmas.Option.{slice_get-get_or}
use Rattle.std.specs.Prelude.{Some, None, slice_get, unwrap_or, option_and_then}
use Rattle.std.specs.Option.{option_map_or}
use Rattle.sorted_skolem.specs.declared.term.RowTerm.{RowTerm}
use Rattle.sorted_skolem.specs.Preorder.{Way, Node}
use Rattle.ground_theory.specs.declared.literal.Guard.{Guard}
use Rattle.instantiate.specs.Keys.{Key}
use Rattle.instantiate.specs.Ground.{maker_of, guard_of, present_guard}
use Rattle.instantiate.specs.declared.listing.Listing.{Listing}
use Rattle.instantiate.specs.inner.Listings.{inside_guards, outlines_in}
use Rattle.instantiate.proofs.Numbering.{key_of}

module _ (l : Listing) where
  abbrev outs : List (List Node)
  outs = outlines_in l

  abbrev at_key : Key → ℕ → Guard
  at_key key way = guard_of outs l.order.now l.terms.now key way

  -- the guards inside a Forall
  pub inside_is : (sentence : ℕ) (rows : List ℕ) (way : Way) → 0 < length rows →
      inside_guards l sentence rows way ≡ at_key (key_of sentence way.node (take (length rows - 1) rows)) way.way ∷ present_guard outs l.order.now l.terms.now (get_or rows (length rows - 1) 0)
  inside_is sentence rows way some =
      ap (λ o. at_key (key_of sentence way.node (take (length rows - 1) rows)) way.way ∷ unwrap_or (option_and_then (λ row. Some (present_guard outs l.order.now l.terms.now row)) o) [])
      (slice_get-get_or rows (length rows - 1) 0 (omega arith))

  pub present_is : (row : ℕ) (t : RowTerm) → slice_get l.terms.now row ≡ Some t → present_guard outs l.order.now l.terms.now row ≡ at_key (maker_of t) 0 ∷ []
  present_is row t at = ap (λ o. option_map_or (λ (term : RowTerm). at_key (maker_of term) 0 ∷ []) o []) at

  pub present_none : (row : ℕ) → slice_get l.terms.now row ≡ None → present_guard outs l.order.now l.terms.now row ≡ []
  present_none row at = ap (λ o. option_map_or (λ (term : RowTerm). at_key (maker_of term) 0 ∷ []) o []) at
