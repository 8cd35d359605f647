-- An item of a list in order by a key, found at a partition point and taken out.
use Rattle.std.{
  proofs.{
    Common.{◌≡◌, ℕ, ◌+◌, ◌<◌, ◌≤◌, Bool, true, false, List, length, get_or, Contains, ltb, inl, inr},
    Common.{ap, ◌∙◌, arith},
    lemmas.{
      Bool.{cases_lt, Decides.nat_tests},
      List.{
        get_or_default,
        Edits.{length-remove, get_or-remove_below, get_or-remove_above},
        Sorted.{IsPartitionedBy-ltb, IsPartitionPoint-from_clause},
      },
    },
  },
  specs.{
    Fn.{Called, ComputesKey},
    List.{remove, Sorted.{IsNonDecreasingBy, IsPartitionPoint, IsPartitionedBy}},
  },
}
use denote.{Param.Members.Mut, Ref.Bor}

module _ {X : Type 0} (key : X → ℕ) (xs : List X) (up : IsNonDecreasingBy key xs) {i : ℕ} where
  -- a removal keeps the order
  pub IsNonDecreasingBy-remove : i < length xs → IsNonDecreasingBy key (remove xs i)
  IsNonDecreasingBy-remove within j k d le lt =
      let len = length-remove xs i within in
      let below : (m : ℕ) → m < i → get_or (remove xs i) m d ≡ get_or xs m d =
      λ m less. get_or-remove_below xs i d m less within in
      let above : (m : ℕ) → i ≤ m → get_or (remove xs i) m d ≡ get_or xs (m + 1) d =
      λ m more. get_or-remove_above xs i d m more within in
      elim (cases_lt j i) [
        | inl before ↦ elim (cases_lt k i) [
          | inl both ↦ rw (below j before, below k both) (up j k d le (omega arith))
          | inr behind ↦ rw (below j before, above k behind) (up j (k + 1) d (omega arith) (omega arith))
        ]
        | inr behind ↦
            rw (above j behind, above k (omega arith)) (up (j + 1) (k + 1) d (omega arith) (omega arith))
      ]

  -- where the closure tests for lesser keys, an item of x's key is at the point, if x is there
  pub found_before : {F : Type 0} {g : Mut F (Bor X × Unit {0}) Bool} {f : F} (x : X)
      → ((p : X → Bool) → ComputesKey g p f → IsPartitionedBy p xs
      → IsPartitionPoint (λ y. p y ≡ true) (λ y. p y ≡ false) xs i)
      → ((a : Bor X × Unit {0}) (b : Bool) (after : F) → Called g f a b after
      → (b ≡ ltb (key a.0.now) (key x)) × (after ≡ f))
      → Contains xs x → (i < length xs) × ((d : X) → key (get_or xs i d) ≡ key x)
  found_before x parted asked (j, within, is) =
      let point = IsPartitionPoint-from_clause (λ y. ltb (key y) (key x)) xs i parted
      (IsPartitionedBy-ltb key xs (key x) up) asked in
      let le : i ≤ j = elim (cases_lt j i) [
        | inl lt ↦ let h = point.0 j x (omega arith) lt in let e = ap key is in absurd (grind (arith, nat_tests, h, e))
        | inr le ↦ le
      ] in (
        omega arith,
        λ d.
            let e : key (get_or xs j d) ≡ key x = ap key (get_or_default xs j d x within ∙ is) in
            let rise = up i j d le within in
            let h = point.1 i d (omega arith) (omega arith) in
            grind (arith, nat_tests, h, e, rise),
      )
