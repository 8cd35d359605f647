-- `Ring` as a type that may hold the type that holds it. Its value lists the items from front to
-- back, so the places are taken in that order too.
--
-- In four parts: former, weight, places, codes. They break if a field of `Ring` or of `RingState`
-- comes or goes (`the_former`, `fields`, `the_empty`), if its view changes (`natural`), or if its
-- invariant reads more than how many places there are and which are filled (`Seen`).
use Rattle.std.specs.{
  declared.option.Option.{Option, TheVariants.{None, Some}},
  List.{drop-map, take-map},
  Prelude.{◌≡◌, ℕ, zero, suc, ◌-◌, ◌≤◌, List, [], ◌∷◌, ◌++◌, map, length, take, drop, Bool},
  Prelude.{true, false},
}
use mathlib.Core.{
  Former.{Former, this, const, one_more, pair, list, via, children},
  List.append-nil,
  Path.{refl, sym, ap, subst, ◌∙◌},
}
use native.Mathlib.{Bridge.{le_prop}, Omega.{arith}}
use lib.{
  ListN.{drop_of_length-le, length-append, length-drop, length-map, take-append-drop},
  Seq.{drop-append_seam, take-append_seam, take_all},
}
use base.Stored.{Coded-set, Gv, code_l, code_map, coded_bool, coded_list, gcons}
use denote.{
  Hole.{Carrier.{listed, list-listed}, Fix.over},
  HoleLaws.Alike,
  HolePlaces.{Recodes, laid, struct_places},
  Model.Placed.{held, view_places},
  Param.Weighed.{Weighed, List-puts, most},
  RattleType.RattleType,
}
use Rattle.arraydeque_ring.specs.{
  declared.ring.Ring.{TheInside.Inside, TheView.{invariant, view}},
  Ring.{FilledFrom, RingState, filled, rotated, values},
  Steps.{Steps, no_steps},
}
use Rattle.arraydeque_ring.specs.contracts.ring.Ring as C
use Rattle.arraydeque_ring.specs.contracts.ring.Ring.TheInside as I
use Rattle.arraydeque_ring.specs.formers.slots.Slots as slots

-- Former: a ring over the values of another type, item by item
abbrev pub the_former : Former {0} → Former {0}
the_former g =
    via (pair (list g) (const (ℕ × (ℕ × Steps)))) (λ X. RingState (g.Of X))
    (λ X r. (r.items, (r.capacity, (r.start, r.steps))))
    (λ X v. record { items = v.0; capacity = v.1.0; start = v.1.1.0; steps = v.1.1.1 })
    (λ X r. refl) (λ X v. refl)

-- Weight: the largest measure among the items, and these as a list
abbrev pub the_weighed : {g : Former {0}} → Weighed g → Weighed (the_former g)
the_weighed w = record {
  weight = λ X μ r. most (w.weight X μ) r.items;
  puts = λ X μ r. List-puts w X μ r.items;
}

pub the_empty : RingState ⊥
the_empty = record { items = []; capacity = 0; start = 0; steps = no_steps }

abbrev pub the_items : (X : Type 0) → RingState X → List X
the_items X r = r.items

pub the_items_listed : (X : Type 0) (r : RingState X)
    → listed _ (children (the_former this) X r) ≡ the_items X r
the_items_listed X r = list-listed X r.items

-- Places: a ring owns and lends what its items own and lend, one by one. First, a list read from an
-- index on, and read back
module _ {X : Type 0} where
  abbrev unrotated : ℕ → List X → List X
  unrotated n xs = rotated (length xs - n) xs

  seam : (n : ℕ) (xs : List X) → rotated (length (drop n xs)) (rotated n xs) ≡ xs
  seam n xs =
      (λ i.
      drop-append_seam (drop n xs) (take n xs) i ++ take-append_seam (drop n xs) (take n xs) i)
      ∙ take-append-drop n xs

  length_rotated : (n : ℕ) (xs : List X) → length (rotated n xs) ≡ length xs
  length_rotated n xs =
      let there = length-append (drop n xs) (take n xs) in
      let here = length-append (take n xs) (drop n xs) in
      let whole : length (take n xs ++ drop n xs) ≡ length xs = ap length (take-append-drop n xs) in
      omega arith

  back : (n : ℕ) (xs : List X) → unrotated n (rotated n xs) ≡ xs
  back n xs =
      ap (λ k. rotated k (rotated n xs))
      (ap (λ k. k - n) (length_rotated n xs) ∙ sym (length-drop n xs))
      ∙ seam n xs

  forth_by : (n m : ℕ) (xs : List X) → length xs - n ≡ m → rotated n (rotated m xs) ≡ xs
  forth_by n zero xs e =
      ap (rotated n) (append-nil xs)
      ∙ (λ i. drop_of_length-le xs {i = n} (omega arith) i ++ take_all n xs (omega arith) i)
  forth_by n (suc m) xs e =
      let long = length-drop (suc m) xs in
      subst (λ k. rotated k (rotated (suc m) xs) ≡ xs) (omega arith) (seam (suc m) xs)

  forth : (n : ℕ) (xs : List X) → rotated n (unrotated n xs) ≡ xs
  forth n xs = forth_by n (length xs - n) xs refl

append_map : {X Y : Type 0} (h : X → Y) (xs ys : List X) → map h (xs ++ ys) ≡ map h xs ++ map h ys
append_map h [] ys = refl
append_map h (x ∷ xs) ys = ap (λ l. h x ∷ l) (append_map h xs ys)

rotated_map : {X Y : Type 0} (h : X → Y) (n : ℕ) (xs : List X)
    → rotated n (map h xs) ≡ map h (rotated n xs)
rotated_map h n xs =
    (λ i. drop-map h n xs i ++ take-map h n xs i) ∙ sym (append_map h (drop n xs) (take n xs))

turned_map : {X Y : Type 0} (h : X → Y) (n : ℕ) (xs : List X)
    → unrotated n (map h (rotated n xs)) ≡ map h xs
turned_map h n xs = ap (unrotated n) (sym (rotated_map h n xs)) ∙ back n (map h xs)

-- the fields, whose places are taken from the start on
abbrev fields : Former {0}
fields =
    via (pair (list (slots.place_former this)) (const (ℕ × (ℕ × Steps)))) Inside
    (λ X r. (rotated r.start r.slots.places, (r.start, (r.len, r.slots.steps))))
    (λ X v.
    record {
      slots = record { places = unrotated v.1.0 v.0; steps = v.1.1.1 };
      start = v.1.0;
      len = v.1.1.0;
    })
    (λ X r i.
    record {
      slots = record { places = back r.start r.slots.places i; steps = r.slots.steps };
      start = r.start;
      len = r.len;
    })
    (λ X v i. (forth v.1.0 v.0 i, v.1))

values_map : {X Y : Type 0} (h : X → Y) (ps : List (Option X))
    → values (map ((slots.place_former this).map X Y h) ps) ≡ map h (values ps)
values_map h [] = refl
values_map h (None ∷ ps) = values_map h ps
values_map h (Some x ∷ ps) = ap (λ l. h x ∷ l) (values_map h ps)

values_held : (X : Type 0) (ps : List (Option X))
    → held (list this) X (values ps) ≡ held (list (slots.place_former this)) X ps
values_held X [] = refl
values_held X (None ∷ ps) = values_held X ps
values_held X (Some x ∷ ps) =
    λ i. (one_more (values_held X ps i).0, (x, (values_held X ps i).1))

filled_map : {X Y : Type 0} (h : X → Y) (ps : List (Option X))
    → filled (map ((slots.place_former this).map X Y h) ps) ≡ filled ps
unfolding filled
filled_map h [] = refl
filled_map h (None ∷ ps) = ap (λ l. false ∷ l) (filled_map h ps)
filled_map h (Some x ∷ ps) = ap (λ l. true ∷ l) (filled_map h ps)

module _ (X Y : Type 0) (h : X → Y) where
  abbrev moved : Option X → Option Y
  moved = (slots.place_former this).map X Y h

  natural : (u : Inside X) → view Y (fields.map X Y h u) ≡ (the_former this).map X Y h (view X u)
  natural u =
      let start = u.start in
      let ps = u.slots.places in
      λ i.
      record {
        items = (ap values (forth start (map moved (rotated start ps)))
            ∙ values_map h (rotated start ps)) i;
        capacity = (ap length (turned_map moved start ps) ∙ length-map ps moved) i;
        start = start;
        steps = u.slots.steps;
      }

  -- how many places there are and which are filled, which is what the invariant reads
  abbrev Seen : Type 0
  Seen = ℕ × List Bool

  seen_same : (u : Inside X)
      → ◌≡◌ {A = Seen} (length u.slots.places, filled u.slots.places)
      (length (fields.map X Y h u).slots.places, filled (fields.map X Y h u).slots.places)
  seen_same u =
      let ps = u.slots.places in
      sym
      ((λ i.
      (length (turned_map moved u.start ps i), filled (turned_map moved u.start ps i)))
      ∙ (λ i. (length-map ps moved i, filled_map h ps i)))

  abbrev holds : (start len : ℕ) → Seen → Type 0
  holds start len s = (start ≤ s.0 - 1) × FilledFrom start len s.1

  to_image : (u : Inside X) → invariant X u → invariant Y (fields.map X Y h u)
  to_image u = subst (holds u.start u.len) (seen_same u)

  from_image : (u : Inside X) → invariant Y (fields.map X Y h u) → invariant X u
  from_image u = subst (holds u.start u.len) (sym (seen_same u))

one_invariant : (X : Type 0) (u : Inside X) → IsProp (invariant X u)
one_invariant X u p q =
    λ i. (le_prop p.0 q.0 i, Coded-set (coded_list coded_bool) _ _ p.1 q.1 i)

module _ (R R' : RattleType) (h : R.Denot → R'.Denot) where
  pub the_places : Alike R R' h
      → Alike (C.the_row R) (C.the_row R') ((the_former this).map R.Denot R'.Denot h)
  the_places a =
      view_places fields (the_former this) view natural
      (λ X u. values_held X (rotated u.start u.slots.places)) R.Denot R'.Denot h
      (C.the_row R).coded (C.the_row R').coded (invariant R.Denot) (invariant R'.Denot)
      (one_invariant R.Denot) (one_invariant R'.Denot) (to_image R.Denot R'.Denot h)
      (from_image R.Denot R'.Denot h) (over (I.the_row R)) (over (I.the_row R'))
      (struct_places (I.the_type R) (I.the_type R')
      ((slots.the_former this).map R.Denot R'.Denot h, (λ n. n, (λ n. n, tt))) _
      (λ d i. (
        record {
          places = turned_map (moved R.Denot R'.Denot h) d.start d.slots.places i;
          steps = d.slots.steps;
        },
        (d.start, (d.len, tt)),
      )) refl (
        laid _ _ _ (slots.the_places R R' h a),
        ((refl, (λ n. refl, λ n. refl)), ((refl, (λ n. refl, λ n. refl)), tt)),
      ))

  -- Codes: a ring is coded by what its items are coded by
  items_recoded : Recodes R R' h → (xs : List R.Denot) (k : Gv)
      → gcons (code_l R'.coded.code (map h xs)) k ≡ gcons (code_l R.coded.code xs) k
  items_recoded e xs k =
      λ i. gcons (sym (code_map R.coded.code R'.coded.code h (λ x. sym (e x)) xs) i) k

  pub the_codes_placed : Recodes R R' h
      → Recodes (C.the_row R) (C.the_row R') ((the_former this).map R.Denot R'.Denot h)
  the_codes_placed e r = items_recoded e r.items _
