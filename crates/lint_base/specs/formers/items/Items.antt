-- How an `Items` holds its items: it is a list of them, so a type may lead back to itself through it.
use mathlib.Core.Path.{◌≡◌, refl, sym}
use mathlib.Core.List.{List, []}
use mathlib.Core.Former.{Former, this, list, via, children}
use base.Stored.{code_map}
use denote.RattleType.{RattleType}
use denote.HoleLaws.{Alike}
use denote.HolePlaces.{Recodes, struct_places, laid}
use denote.Hole.Carrier.{listed, list-listed}
use denote.Hole.Fix.{over}
use denote.Model.Placed.{view_places}
use denote.Param.Weighed.{Weighed, w_list}
use Rattle.std.specs.declared.alloc.Global.{Global}
use Rattle.std.specs.contracts.alloc.Global as global
use Rattle.std.specs.contracts.impls.GlobalAllocator.TheImpl.{ghosts}
use Rattle.std.specs.formers.vec.Vec as vec
use Rattle.lint_base.specs.contracts.items.Items as items
use Rattle.lint_base.specs.contracts.items.Items.TheInside as fields
use Rattle.lint_base.specs.declared.items.Items.TheInside.{Inside}
use Rattle.lint_base.specs.declared.items.Items.TheView.{view, invariant}

-- the view is a list
abbrev pub the_former : Former {0} → Former {0}
the_former g = list g

abbrev pub the_weighed : {g : Former {0}} → Weighed g → Weighed (the_former g)
the_weighed weighed = w_list weighed

-- with no item it needs none
pub the_empty : List ⊥
the_empty = []

abbrev pub the_items : (X : Type 0) → List X → List X
the_items X held = held

pub the_items_listed : (X : Type 0) (held : List X) → listed _ (children (the_former this) X held) ≡ the_items X held
the_items_listed X held = list-listed X held

-- the one field, a `Vec`, holds the same items in the same order
abbrev field : Former {0}
field = via (vec.the_former this Global) Inside (λ X inside. inside.items) (λ X held. record { items = held }) (λ X inside. refl) (λ X held. refl)

module _ (R R' : RattleType) (h : R.Denot → R'.Denot) where
  pub the_places : Alike R R' h → Alike (items.the_row R) (items.the_row R') ((the_former this).map R.Denot R'.Denot h)
  the_places alike =
      view_places field (list this) view (λ X Y k u. refl) (λ X u. refl) R.Denot R'.Denot h (items.the_row R).coded (items.the_row R').coded
      (invariant R.Denot) (invariant R'.Denot) (λ u p q. refl) (λ u p q. refl) (λ u e. tt) (λ u e. tt)
      (over (fields.the_row R)) (over (fields.the_row R'))
      (struct_places (fields.the_type R) (fields.the_type R') (vec.mapped h, tt) _ (λ held. refl) refl
      (laid _ _ _ (vec.the_places global.the_row ghosts R R' h alike), tt))

  pub the_codes_placed : Recodes R R' h → Recodes (items.the_row R) (items.the_row R') ((the_former this).map R.Denot R'.Denot h)
  the_codes_placed recodes held = sym (code_map R.coded.code R'.coded.code h (λ x. sym (recodes x)) held)
