-- `Slots` as a type that may hold the type that holds it. Its value is a region.
--
-- In four parts: former, weight, places, codes. They break if a field of `Slots` or of `Region`
-- comes or goes (`the_former`, `fields`, `the_empty`), if its view or invariant changes
-- (`the_places`), or if Ownership says otherwise what a place or a region owns or lends
-- (`place_placed` to `slots_seen`).
use Rattle.std.specs.{
  declared.{alloc.Global.Global, option.Option.{Option, TheVariants.{None, Some}}},
  Mem.type_size,
  Prelude.{◌≡◌, ℕ, ◌+◌, ◌*◌, ◌^◌, max, nat_lt, List, [], ◌∷◌, map},
}
use mathlib.Core.{
  Former.{Former, Count, Row, this, const, pair, list, option, via, children},
  Option.{Option as Maybe, none, some},
  Path.{refl, sym, ap, ◌∙◌},
}
use native.Mathlib.Nat.{ℕ_set}
use lib.ListN.{length-map}
use mir.{Raw.raw, Syntax.ty_array}
use base.{
  Fml.{fsep, flt, froom},
  Fraction.full_share,
  Stored.{Gv, code_l, code_map, gcons, gnum},
}
use denote.{
  Hole.{Carrier.{listed}, Fix.over},
  HoleLaws.Alike,
  HolePlaces.Recodes,
  Memory.{lone, part_of, raw_all},
  Model.Placed.{view_places},
  Param.{Nested.deepest, Weighed.{Weighed, max_again, most, none_max}},
  RattleType.RattleType,
  RawPtr.{Ptr, block_ptr, null_ptr},
  Sharing.{said, beside},
  Struct.{Owning.{shape, to}, Struct.Struct},
}
use prog.Memory.{size}
use Rattle.arraydeque_ring.specs.{
  declared.slots.Slots.{TheInside.Inside, TheView.{invariant, view}},
  Ownership.{owned_if, place_lent, place_owned, places_lent, places_owned, slots_lent},
  Ownership.slots_owned,
  Places.Region,
  Ring.values,
  Steps.{Steps, no_steps},
}
use Rattle.std.specs.contracts.impls.GlobalAllocator.TheImpl as heap
use Rattle.arraydeque_ring.specs.contracts.slots.Slots as C
use Rattle.arraydeque_ring.specs.contracts.slots.Slots.TheInside as I

-- Former: a region over the values of another type, place by place
module _ {X : Type 0} where
  abbrev pub maybe : Option X → Maybe X
  maybe None = none
  maybe (Some x) = some x

  abbrev pub place : Maybe X → Option X
  place none = None
  place (some x) = Some x

  pub place-maybe : (p : Option X) → place (maybe p) ≡ p
  place-maybe None = refl
  place-maybe (Some x) = refl

  pub maybe-place : (m : Maybe X) → maybe (place m) ≡ m
  maybe-place none = refl
  maybe-place (some x) = refl

abbrev pub place_former : Former {0} → Former {0}
place_former g =
    via (option g) (λ X. Option (g.Of X)) (λ X. maybe) (λ X. place) (λ X. place-maybe)
    (λ X. maybe-place)

abbrev pub the_former : Former {0} → Former {0}
the_former g =
    via (pair (list (place_former g)) (const Steps)) (λ X. Region (g.Of X))
    (λ X r. (r.places, r.steps)) (λ X v. record { places = v.0; steps = v.1 }) (λ X r. refl)
    (λ X v. refl)

-- Weight: the largest measure among the values in the places, and these values as a list
module _ {g : Former {0}} (w : Weighed g) (X : Type 0) (μ : X → ℕ) where
  pub places_puts : (ps : List (Option (g.Of X))) (n : Count) (t : Row X n)
      → deepest μ ((list (place_former g)).count (map ((place_former g).shape X) ps) n)
      ((list (place_former g)).put X ps n t)
      ≡ max (most (w.weight X μ) (values ps)) (deepest μ n t)
  places_puts [] n t = none_max (deepest μ n t)
  places_puts (None ∷ ps) n t = places_puts ps n t
  places_puts (Some x ∷ ps) n t =
      w.puts X μ x _ ((list (place_former g)).put X ps n t)
      ∙ ap (max (w.weight X μ x)) (places_puts ps n t)
      ∙ max_again (w.weight X μ x) (most (w.weight X μ) (values ps)) (deepest μ n t)

abbrev pub the_weighed : {g : Former {0}} → Weighed g → Weighed (the_former g)
the_weighed w = record {
  weight = λ X μ r. most (w.weight X μ) (values r.places);
  puts = λ X μ r. places_puts w X μ r.places;
}

pub the_empty : Region ⊥
the_empty = record { places = []; steps = no_steps }

abbrev pub the_items : (X : Type 0) → Region X → List X
the_items X r = values r.places

places_listed : (X : Type 0) (ps : List (Option X))
    → listed _ (children (list (place_former this)) X ps) ≡ values ps
places_listed X [] = refl
places_listed X (None ∷ ps) = places_listed X ps
places_listed X (Some x ∷ ps) = ap (λ l. x ∷ l) (places_listed X ps)

pub the_items_listed : (X : Type 0) (r : Region X)
    → listed _ (children (the_former this) X r) ≡ the_items X r
the_items_listed X r = places_listed X r.places

-- Places: a region owns and lends what the values in its places own and lend, one by one
abbrev fields : Former {0}
fields =
    via (pair (list (place_former this)) (const (Ptr × (ℕ × (Global × Steps))))) Inside
    (λ X a. (a.places, (a.ptr, (a.capacity, (a.alloc, a.steps)))))
    (λ X v.
    record { ptr = v.1.0; capacity = v.1.1.0; alloc = v.1.1.1.0; places = v.0; steps = v.1.1.1.1 })
    (λ X a. refl) (λ X v. refl)

module _ (R R' : RattleType) (h : R.Denot → R'.Denot) where
  abbrev moved : Option R.Denot → Option R'.Denot
  moved = (place_former this).map R.Denot R'.Denot h

  module _ (a : Alike R R' h) where
    abbrev width : type_size R' ≡ type_size R
    width = λ i. size (lone (a.mir_same i))

    place_placed : (b o : ℕ) (p : Option R.Denot)
        → place_owned R' b o (moved p) ≡ place_owned R b o p
    unfolding part_of
    place_placed b o (Some x) =
        λ i. part_of (raw_all (a.mir_same i)) (λ (_ : Unit {0}). a.own_same x i) full_share tt b o
    place_placed b o None = λ i. froom (raw (lone (a.mir_same i))) b o

    places_placed : (b o : ℕ) (ps : List (Option R.Denot))
        → places_owned R' b o (map moved ps) ≡ places_owned R b o ps
    places_placed b o [] = refl
    places_placed b o (p ∷ ps) =
        (λ i. fsep (place_placed b o p i) (places_owned R' b (o + width i) (map moved ps)))
        ∙ (λ i. fsep (place_owned R b o p) (places_placed b (o + type_size R) ps i))

    seen_placed : (b o : ℕ) (p : Option R.Denot) → place_lent R' b o (moved p) ≡ place_lent R b o p
    seen_placed b o (Some x) = λ i. a.shr_same x i b o
    seen_placed b o None = refl

    lent_placed : (b o : ℕ) (ps : List (Option R.Denot))
        → places_lent R' b o (map moved ps) ≡ places_lent R b o ps
    lent_placed b o [] = refl
    lent_placed b o (p ∷ ps) =
        (λ i. beside (seen_placed b o p i) (places_lent R' b (o + width i) (map moved ps)))
        ∙ (λ i. beside (place_lent R b o p) (lent_placed b (o + type_size R) ps i))

    slots_placed : (g : Global) (p : Ptr) (ps : List (Option R.Denot))
        → slots_owned R' g p (map moved ps) ≡ slots_owned R g p ps
    slots_placed g (block_ptr b o) ps =
        λ i.
        let n : ℕ = length-map ps moved i in
        fsep (flt (n * width i + o) (2 ^ 63))
        (fsep (places_placed b o ps i)
        (owned_if (nat_lt 0 (n * width i))
        (heap.ghosts.dealloc_token g (raw (ty_array (lone (a.mir_same i)) n)) (block_ptr b o))))
    slots_placed g null_ptr ps = refl

    slots_seen : (p : Ptr) (ps : List (Option R.Denot))
        → slots_lent R' p (map moved ps) ≡ slots_lent R p ps
    slots_seen (block_ptr b o) ps =
        λ i.
        beside (said (flt (length-map ps moved i * width i + o) (2 ^ 63))) (lent_placed b o ps i)
    slots_seen null_ptr ps = refl

  inside_places : Alike R R' h → Alike (I.the_row R) (I.the_row R') (fields.map R.Denot R'.Denot h)
  inside_places a = record {
    mir_same = refl;
    own_same = λ d i vs.
        fsep ((Struct (shape (I.the_type R))).own_val (to (I.the_type R) d) vs)
        (slots_placed a d.alloc d.ptr d.places i);
    shr_same = λ d i b o.
        beside ((Struct (shape (I.the_type R))).shr_at (to (I.the_type R) d) b o)
        (slots_seen a d.ptr d.places i);
  }

  pub the_places : Alike R R' h
      → Alike (C.the_row R) (C.the_row R') ((the_former this).map R.Denot R'.Denot h)
  the_places a =
      view_places fields (the_former this) view (λ X Y k u. refl) (λ X u. refl) R.Denot R'.Denot h
      (C.the_row R).coded (C.the_row R').coded (invariant R.Denot) (invariant R'.Denot)
      (λ u. ℕ_set _ _) (λ u. ℕ_set _ _) (λ u e. e ∙ sym (length-map u.places moved))
      (λ u e. e ∙ length-map u.places moved) (over (I.the_row R)) (over (I.the_row R'))
      (inside_places a)

  -- Codes: a region is coded by what its values are coded by
  module _ (c : Option R.Denot → Gv) (d : Option R'.Denot → Gv) (none_same : c None ≡ d None)
      (some_same : (x : R.Denot) → c (Some x) ≡ d (Some (h x))) where
    place_recoded : (p : Option R.Denot) → c p ≡ d (moved p)
    place_recoded None = none_same
    place_recoded (Some x) = some_same x

    recoded : (ps : List (Option R.Denot)) (k : Gv)
        → gcons (code_l d (map moved ps)) k ≡ gcons (code_l c ps) k
    recoded ps k = λ i. gcons (sym (code_map c d moved place_recoded ps) i) k

  pub the_codes_placed : Recodes R R' h
      → Recodes (C.the_row R) (C.the_row R') ((the_former this).map R.Denot R'.Denot h)
  the_codes_placed e r = recoded _ _ refl (λ x i. gcons (gnum 1) (sym (e x) i)) r.places _
