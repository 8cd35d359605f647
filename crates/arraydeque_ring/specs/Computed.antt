-- What a closure computes that is called at each item in turn.
use Rattle.std.specs.{
  Borrow.{Bor, MutBor},
  Fn.{AlwaysReturns, CalledAt, CalledAtMut, ComputesKey, Mut},
  Prelude.{◌≡◌, ◌⊎◌},
}

-- f answers at a `&` to an item what `test` gives: a call does and leaves f as it is, or all calls
-- in turn do, whatever they leave
abbrev pub ComputesAt : {F X R : Type 0} → Mut F (Bor X × Unit {0}) R → (X → R) → F → Type 0
ComputesAt {F} {X} {R} g test f =
    ((x : X) (r : R) (h : F) → CalledAt g f x r h → (r ≡ test x) × (h ≡ f))
    ⊎ ComputesKey g test f

-- the same at a `&mut` to an item, where f leaves what `change` gives
abbrev pub ComputesAtMut : {F X R : Type 0}
    → Mut F (MutBor X × Unit {0}) (R × (MutBor X × Unit {0})) → (X → R) → (X → X) → F → Type 0
ComputesAtMut {F} {X} {R} g test change f =
    ((x : X) (r : R) (h : F) (y : X) → CalledAtMut g f x r h y
    → (r ≡ test x) × (y ≡ change x) × (h ≡ f))
    ⊎ AlwaysReturns g (λ a r. (r.0 ≡ test a.0.now) × (r.1.0.now ≡ change a.0.now)) f

-- the same of f that answers nothing: at a `&mut` to an item it leaves what `change` gives
abbrev pub Changes : {F X : Type 0}
    → Mut F (MutBor X × Unit {0}) (Unit {0} × (MutBor X × Unit {0})) → (X → X) → F → Type 0
Changes g change f = ComputesAtMut g (λ _. tt) change f
