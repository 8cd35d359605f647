-- What places hold, read one by one from a place on, round the region's end.
use Rattle.std.proofs.{
  Common.{◌≡◌, ◌≢◌, ℕ, ◌+◌, ◌-◌, ◌<◌, ◌≤◌, List, length, set, get_or, Option, None, sym, ap, ◌∙◌},
  Common.arith,
  lemmas.List.length-set,
  Math.Nat.add-mod-mod,
}
use Rattle.arraydeque_ring.{
  proofs.places.{
    Emptied.get_or-written,
    Items.same_places,
    Rotated.{place_of-first, place_of-sum, one_place, get_or-rotated, length-rotated, up_from},
  },
  specs.{Moved.distance, Places.held_at, Ring.{place_of, rotated}},
}

-- the n places hold, from the place t on, what f says of each index
pub record Holds {X : Type 0} (n t : ℕ) (f : ℕ → Option X) (ps : List (Option X)) : Type 0 where
  pub length_is : length ps ≡ n
  pub in_region : t ≤ n - 1
  pub at : (k : ℕ) → k < n → held_at ps (place_of t k n) ≡ f k

-- the same is read in the list ts that begins there
pub Holds-of_rotated : {X : Type 0} {n t : ℕ} {f : ℕ → Option X} {ps ts : List (Option X)} → rotated t ps ≡ ts
    → length ts ≡ n → t ≤ n - 1 → ((k : ℕ) → k < n → held_at ts k ≡ f k) → Holds n t f ps
Holds-of_rotated is long within each = grind (arith, length-rotated, get_or-rotated)

module _ {X : Type 0} {n t : ℕ} {f : ℕ → Option X} {ps : List (Option X)} (h : Holds n t f ps) where
  pub Holds-rotated : (k : ℕ) → k < n → get_or (rotated t ps) k None ≡ f k
  Holds-rotated k lt = get_or-rotated t k n ps None h.length_is (omega arith) lt ∙ h.at k lt

  pub rotated-Holds : {ts : List (Option X)} → length ts ≡ n → ((k : ℕ) → k < n → f k ≡ held_at ts k)
      → rotated t ps ≡ ts
  rotated-Holds long same = grind (arith, same_places, length-rotated, Holds-rotated)

  pub Holds-same : {g : ℕ → Option X} → ((k : ℕ) → k < n → f k ≡ g k) → Holds n t g ps
  Holds-same same = record { length_is = h.length_is; in_region = h.in_region; at = λ k lt. h.at k lt ∙ same k lt }

  -- read from the place j further on
  pub Holds-from : {g : ℕ → Option X} (j : ℕ) → 0 < n → j ≤ n → ((k : ℕ) → k < n → f (place_of j k n) ≡ g k)
      → Holds n (place_of t j n) g ps
  Holds-from j some le each = record {
    length_is = h.length_is;
    in_region = omega arith;
    at = λ k lt. ap (held_at ps) (place_of-sum t j k n ∙ sym (add-mod-mod t (j + k) n))
        ∙ h.at (place_of j k n) (omega arith) ∙ each k lt;
  }

  -- with c written at the place of the index k
  pub Holds-set : {g : ℕ → Option X} (k : ℕ) (c : Option X) → k < n → c ≡ g k → ((i : ℕ) → i < n → i ≢ k → f i ≡ g i)
      → Holds n t g (set ps (place_of t k n) c)
  Holds-set {g} k c k_in here others = grind (arith, length-set, get_or-written, one_place)

  -- each place has an index
  pub Holds-each : (x : ℕ) → x < n → held_at ps x ≡ f (distance t x n)
  Holds-each x lt = grind (arith, up_from)

-- from the first place on an index is its own place
pub Holds-first : {X : Type 0} {n : ℕ} {f : ℕ → Option X} {ps : List (Option X)} → Holds n 0 f ps → (k : ℕ) → k < n
    → held_at ps k ≡ f k
Holds-first {n = n} h k lt = rw (place_of-first k n lt) at (h.at k lt)
