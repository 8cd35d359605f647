-- `ArrayDeque` as a type that may hold the type that holds it. Its value lists the items.
-- There is no `the_empty`: of a const parameter's value the check makes a type there.
--
-- In four parts: former, weight, places, codes. They break if a field of `ArrayDeque` or of
-- `DequeState` comes or goes (`the_former`, `fields`), or if its view or invariant changes
-- (`holds`, `the_places`).
use Rattle.std.specs.Prelude.{◌≡◌, ◌≤◌, ℕ, List, map}
use mathlib.Core.{Former.{Former, this, const, pair, list, via, children}, Path.{refl, sym, subst}}
use native.Mathlib.{Bridge.{le_prop}, Nat.{ℕ_set}}
use lib.ListN.{length-map}
use base.Stored.{Gv, code_l, code_map, gcons}
use denote.{
  Hole.{Carrier.{listed, list-listed}, Fix.over},
  HoleLaws.Alike,
  HolePlaces.{Recodes, laid, struct_places},
  Model.Placed.{view_places},
  Param.{value_of, Weighed.{Weighed, List-puts, most}},
  RattleType.RattleType,
}
use Rattle.std.specs.declared.marker.PhantomData.{PhantomData}
use Rattle.arraydeque_ring.specs.{Steps.{Steps}}
use Rattle.arraydeque.specs.{
  Deque.DequeState,
  declared.deque.ArrayDeque.{TheInside.Inside, TheView.{invariant, view}},
}
use Rattle.arraydeque.specs.contracts.deque.ArrayDeque as C
use Rattle.arraydeque.specs.contracts.deque.ArrayDeque.TheInside as I
use Rattle.arraydeque_ring.specs.formers.ring.Ring as ring

-- Former: a deque over the values of another type, item by item
abbrev pub the_former : Former {0} → ℕ → Type 0 → Former {0}
the_former g N B =
    via (pair (list g) (const (ℕ × Steps))) (λ X. DequeState (g.Of X))
    (λ X d. (d.items, (d.start, d.steps)))
    (λ X v. record { items = v.0; start = v.1.0; steps = v.1.1 }) (λ X d. refl) (λ X v. refl)

-- Weight: the largest measure among the items, and these as a list
abbrev pub the_weighed : {g : Former {0}} → Weighed g → (N : ℕ) (B : Type 0)
    → Weighed (the_former g N B)
the_weighed w N B = record {
  weight = λ X μ d. most (w.weight X μ) d.items;
  puts = λ X μ d. List-puts w X μ d.items;
}

abbrev pub the_items : (N : ℕ) (B X : Type 0) → DequeState X → List X
the_items N B X d = d.items

pub the_items_listed : (N : ℕ) (B X : Type 0) (d : DequeState X)
    → listed _ (children (the_former this N B) X d) ≡ the_items N B X d
the_items_listed N B X d = list-listed X d.items

-- Places: a deque owns and lends what its ring does
abbrev fields : ℕ → Type 0 → Former {0}
fields N B =
    via (pair (ring.the_former this) (const (PhantomData B))) (λ X. Inside X N B)
    (λ X a. (a.ring, a.behavior)) (λ X v. record { ring = v.0; behavior = v.1 }) (λ X a. refl)
    (λ X v. refl)

module _ (N B : RattleType) (R R' : RattleType) (h : R.Denot → R'.Denot) where
  -- what the invariant reads
  abbrev holds : ℕ × ℕ → Type 0
  holds s = (s.0 ≡ value_of N) × (s.1 ≤ value_of N)

  abbrev moved : Inside R.Denot (value_of N) B.Denot → Inside R'.Denot (value_of N) B.Denot
  moved = (fields (value_of N) B.Denot).map R.Denot R'.Denot h

  to_image : (u : Inside R.Denot (value_of N) B.Denot) → invariant R.Denot (value_of N) B.Denot u
      → invariant R'.Denot (value_of N) B.Denot (moved u)
  to_image u = subst holds (λ i. (u.ring.capacity, sym (length-map u.ring.items h) i))

  from_image : (u : Inside R.Denot (value_of N) B.Denot)
      → invariant R'.Denot (value_of N) B.Denot (moved u)
      → invariant R.Denot (value_of N) B.Denot u
  from_image u = subst holds (λ i. (u.ring.capacity, length-map u.ring.items h i))

  pub the_places : Alike R R' h
      → Alike (C.the_row R N B) (C.the_row R' N B)
      ((the_former this (value_of N) B.Denot).map R.Denot R'.Denot h)
  the_places a =
      view_places (fields (value_of N) B.Denot) (the_former this (value_of N) B.Denot)
      (λ X. view X (value_of N) B.Denot) (λ X Y k u. refl) (λ X u. refl) R.Denot R'.Denot h
      (C.the_row R N B).coded (C.the_row R' N B).coded (invariant R.Denot (value_of N) B.Denot)
      (invariant R'.Denot (value_of N) B.Denot)
      (λ u p q i. (ℕ_set _ _ p.0 q.0 i, le_prop p.1 q.1 i))
      (λ u p q i. (ℕ_set _ _ p.0 q.0 i, le_prop p.1 q.1 i)) to_image from_image
      (over (I.the_row R N B)) (over (I.the_row R' N B))
      (struct_places (I.the_type R N B) (I.the_type R' N B)
      ((ring.the_former this).map R.Denot R'.Denot h, (λ n. n, tt)) _ (λ d. refl) refl
      (laid _ _ _ (ring.the_places R R' h a), ((refl, (λ n. refl, λ n. refl)), tt)))

  -- Codes: a deque is coded by what its items are coded by
  items_recoded : Recodes R R' h → (xs : List R.Denot) (k : Gv)
      → gcons (code_l R'.coded.code (map h xs)) k ≡ gcons (code_l R.coded.code xs) k
  items_recoded e xs k =
      λ i. gcons (sym (code_map R.coded.code R'.coded.code h (λ x. sym (e x)) xs) i) k

  pub the_codes_placed : Recodes R R' h
      → Recodes (C.the_row R N B) (C.the_row R' N B)
      ((the_former this (value_of N) B.Denot).map R.Denot R'.Denot h)
  the_codes_placed e d = items_recoded e d.items _
