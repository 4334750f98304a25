-- `NameMap` as a type that may hold the type that holds it, by its values.
use Rattle.std.specs.Prelude.{◌≡◌, ◌&&◌, List, [], ◌∷◌, String, string_cmp, string_eq}
use mathlib.Core.Path.{refl, sym, subst}
use mathlib.Core.Former.{Former, this, list, via, children}
use denote.RattleType.{RattleType}
use denote.HoleLaws.{Alike}
use denote.HolePlaces.{Recodes, struct_places, stays, laid}
use denote.Struct.Tuple.{tuple_type, Tuple}
use denote.Hole.Carrier.{listed}
use denote.Hole.Fix.{over}
use denote.Param.Weighed.{Weighed, most}
use denote.Model.Placed.{view_places}
use Rattle.std.specs.declared.alloc.Global.{Global}
use Rattle.std.specs.declared.cmp.PartialEq as eq
use Rattle.std.specs.contracts.alloc.Global as heap
use Rattle.std.specs.contracts.string.String as text
use Rattle.std.specs.contracts.impls.GlobalAllocator.TheImpl.{ghosts}
use Rattle.std.specs.Cmp.Lexicographic.{pointwise}
use Rattle.std.specs.Cmp.Derive.Mapped.{pointwise-map}
use Rattle.std.specs.List.Sorted.{IsStrictlySortedBy, IsStrictlySortedBy-prop}
use Rattle.std.specs.Map.{values_of}
use Rattle.std.specs.formers.vec.Vec as vec
use Rattle.std_collections.specs.Layout.Former.{entry, on_value, entries_puts, values_listed, keys_on_values, entries_recoded}
use Rattle.name_map.specs.Seen.{NameMap}
use Rattle.name_map.specs.declared.map.NameMap.TheInside.{Inside}
use Rattle.name_map.specs.declared.map.NameMap.TheView.{view, invariant}
use Rattle.name_map.specs.contracts.map.NameMap as C
use Rattle.name_map.specs.contracts.map.NameMap.TheInside as I

abbrev Name : Type 0
Name = String Global

abbrev pub the_former : Former {0} → Former {0}
the_former g = via (list (entry g Name)) (λ X. NameMap (g.Of X)) (λ X m. m.entries) (λ X es. record { entries = es }) (λ X m. refl) (λ X es. refl)

abbrev pub the_weighed : {g : Former {0}} → Weighed g → Weighed (the_former g)
the_weighed w = record { weight = λ X μ m. most (w.weight X μ) (values_of m.entries); puts = λ X μ m. entries_puts w Name X μ m.entries }

pub the_empty : NameMap ⊥
the_empty = record { entries = [] }

abbrev pub the_items : (X : Type 0) → NameMap X → List X
the_items X m = values_of m.entries

pub the_items_listed : (X : Type 0) (m : NameMap X) → listed _ (children (the_former this) X m) ≡ the_items X m
the_items_listed X m = values_listed Name X m.entries

abbrev fields : Former {0}
fields = via (vec.the_former (entry this Name) Global) Inside (λ X a. a.entries) (λ X v. record { entries = v }) (λ X a. refl) (λ X v. refl)

abbrev name_row : RattleType
name_row = text.the_row heap.the_row ghosts

module _ (R S : RattleType) (h : R.Denot → S.Denot) where
  abbrev pair_row : RattleType → RattleType
  pair_row T = Tuple (name_row ∷ T ∷ [])

  pub the_places : Alike R S h → Alike (C.the_row R) (C.the_row S) ((the_former this).map R.Denot S.Denot h)
  the_places a =
      let pairs : Alike (pair_row R) (pair_row S) (on_value h) = struct_places (tuple_type (name_row ∷ R ∷ [])) (tuple_type (name_row ∷ S ∷ [])) ((λ n. n), (h, tt)) (on_value h) (λ d. refl) refl (stays name_row, (laid R S h a, tt)) in
      view_places fields (the_former this) view (λ X Y k u. refl) (λ X u. refl) R.Denot S.Denot h (C.the_row R).coded (C.the_row S).coded
      (invariant R.Denot) (invariant S.Denot) (λ u. IsStrictlySortedBy-prop string_cmp _) (λ u. IsStrictlySortedBy-prop string_cmp _)
      (λ u s. subst (IsStrictlySortedBy string_cmp) (sym (keys_on_values h u.entries.items)) s)
      (λ u s. subst (IsStrictlySortedBy string_cmp) (keys_on_values h u.entries.items) s)
      (over (I.the_row R)) (over (I.the_row S))
      (struct_places (I.the_type R) (I.the_type S) (vec.mapped (on_value h), tt) _ (λ d. refl) refl (laid _ _ _ (vec.the_places heap.the_row ghosts (pair_row R) (pair_row S) (on_value h) pairs), tt))

  pub the_codes_placed : Recodes R S h → Recodes (C.the_row R) (C.the_row S) ((the_former this).map R.Denot S.Denot h)
  the_codes_placed e m = entries_recoded name_row R S h e m.entries

module _ (X Y : Type 0) (h : X → Y) where
  pub the_eq_natural : (V : eq.Ghosts Y) (m n : NameMap X)
      → pointwise (λ p q. string_eq p.0 q.0 && V.eq p.1 q.1) ((the_former this).map X Y h m).entries ((the_former this).map X Y h n).entries
      ≡ pointwise (λ p q. string_eq p.0 q.0 && V.eq (h p.1) (h q.1)) m.entries n.entries
  the_eq_natural V m n = pointwise-map (on_value h) (λ p q. string_eq p.0 q.0 && V.eq p.1 q.1) m.entries n.entries
