-- An insert at a partition point keeps items in order by a key, and so does one that is refused.
use Rattle.std.{
  proofs.{
    Common.{◌≡◌, ℕ, ◌≤◌, Bool, true, false, length, leb, ltb, leb-true, leb-false, ltb-true},
    Common.{ltb-false, arith},
    lemmas.List.{
      Sorted.{IsNonDecreasingBy-insert, IsPartitionPoint-from_clause, IsPermutation-insert},
      Sorted.{IsPartitionedBy-leb, IsPartitionedBy-ltb},
    },
  },
  specs.{
    declared.result.Result.{Result, TheVariants.{Ok, Err}},
    Fn.{Called, ComputesKey},
    List.{insert, Sorted.{IsNonDecreasingBy, IsPartitionPoint, IsPartitionedBy}},
    Prelude.{OnOk, OnErr},
  },
}
use denote.{Param.Members.Mut, Ref.Bor}
use Rattle.arraydeque.specs.Deque.{DequeState}

module _ {X A E : Type 0} (key : X → ℕ) where
  either_way : (r : Result A E) (v w : DequeState X) (i : ℕ) (x : X)
      → OnOk r (w.items ≡ insert v.items i x) → OnErr r (w ≡ v)
      → IsNonDecreasingBy key v.items → IsNonDecreasingBy key (insert v.items i x) → IsNonDecreasingBy key w.items
  either_way (Ok a) v w i x put same old new = rw put new
  either_way (Err e) v w i x put same old new = rw same old

  module _ {F : Type 0} {g : Mut F (Bor X × Unit {0}) Bool} {f : F} (r : Result A E) (v w : DequeState X)
      {i : ℕ} (x : X) (put : OnOk r (w.items ≡ insert v.items i x)) (same : OnErr r (w ≡ v))
      (up : IsNonDecreasingBy key v.items) (bound : i ≤ length v.items)
      (parted : (p : X → Bool) → ComputesKey g p f → IsPartitionedBy p v.items
      → IsPartitionPoint (λ y. p y ≡ true) (λ y. p y ≡ false) v.items i) where
    -- where the closure tests by p, which keys up to x's pass, and keys from x's on fail
    pub IsNonDecreasingBy-insert_by : (p : X → Bool) → IsPartitionedBy p v.items
        → ((y : X) → p y ≡ true → key y ≤ key x) → ((y : X) → p y ≡ false → key x ≤ key y)
        → ((a : Bor X × Unit {0}) (b : Bool) (after : F) → Called g f a b after → (b ≡ p a.0.now) × (after ≡ f))
        → IsNonDecreasingBy key w.items
    IsNonDecreasingBy-insert_by p some low high asked =
        let point = IsPartitionPoint-from_clause p v.items i parted some asked in
        either_way r v w i x put same up (IsNonDecreasingBy-insert key v.items i x up bound
        (λ k d lt. low _ (point.0 k d (omega arith) lt)) (λ k d le lt. high _ (point.1 k d le lt)))

    -- behind the items of its own key, where the closure tests for keys up to it
    pub IsNonDecreasingBy-insert_behind : ((a : Bor X × Unit {0}) (b : Bool) (after : F) → Called g f a b after
        → (b ≡ leb (key a.0.now) (key x)) × (after ≡ f)) → IsNonDecreasingBy key w.items
    IsNonDecreasingBy-insert_behind = IsNonDecreasingBy-insert_by (λ y. leb (key y) (key x))
        (IsPartitionedBy-leb key v.items (key x) up) (λ y. leb-true _ _) (λ y no. omega (arith, leb-false _ _ no))

    -- before them, where it tests for lesser keys
    pub IsNonDecreasingBy-insert_before : ((a : Bor X × Unit {0}) (b : Bool) (after : F) → Called g f a b after
        → (b ≡ ltb (key a.0.now) (key x)) × (after ≡ f)) → IsNonDecreasingBy key w.items
    IsNonDecreasingBy-insert_before = IsNonDecreasingBy-insert_by (λ y. ltb (key y) (key x))
        (IsPartitionedBy-ltb key v.items (key x) up) (λ y yes. omega (arith, ltb-true _ _ yes)) (λ y. ltb-false _ _)

-- the items after an insert are those before it and the new one
pub ruleset insert_rules = (IsPermutation-insert)
