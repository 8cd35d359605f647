-- What a closure that is called once at each item in turn leaves in their stead.
use Rattle.std.specs.{
  Borrow.MutBor,
  Fn.{CalledAtMut, Mut},
  List.splice,
  Prelude.{◌≡◌, ℕ, List, [], ◌∷◌, length, take, slice_get, slice_range, Some},
}

-- R went over the items xs in turn, from f on: it left ys in their stead, and is then g
abbrev pub WritesInTurn : {F X : Type 0} → (F → X → F → X → Type 0) → F → List X → List X → F
    → Type 0
WritesInTurn R f [] [] g = f ≡ g
WritesInTurn R f [] (y ∷ ys) g = ⊥
WritesInTurn R f (x ∷ xs) [] g = ⊥
WritesInTurn {F} R f (x ∷ xs) (y ∷ ys) g = (h : F) × R f x h y × WritesInTurn R h xs ys g

-- the same, whatever it is afterwards
abbrev pub WrittenInTurn : {F X : Type 0} → (F → X → F → X → Type 0) → F → List X → List X → Type 0
WrittenInTurn {F} R f xs ys = (last : F) × WritesInTurn R f xs ys last

-- R went over the items of the list old from one index up to another, from f on: new has what it
-- left in their stead, and the others as they were
abbrev pub WrittenPart : {F X : Type 0} → (F → X → F → X → Type 0) → F → ℕ → ℕ → List X → List X
    → Type 0
WrittenPart {F} {X} R f from to old new = (left : List X)
    × WrittenInTurn R f (slice_range old from to) left × (new ≡ splice old from to left)

-- a call of f at a `&mut` to x may leave it at y, and f at h
abbrev pub WritesAt : {F X : Type 0}
    → Mut F (MutBor X × Unit {0}) (Unit {0} × (MutBor X × Unit {0})) → F → X → F → X → Type 0
WritesAt g f x h y = CalledAtMut g f x tt h y

-- f may be called at each of xs, once and in turn, whatever it wrote; nothing is said of a call
-- after the last
pub record MayWriteEach {F X : Type 0}
    (g : Mut F (MutBor X × Unit {0}) (Unit {0} × (MutBor X × Unit {0}))) (f : F) (xs : List X)
    : Type 0 where
  pub asks : (ys : List X) (state : F) (x : MutBor X) → slice_get xs (length ys) ≡ Some x.now
      → WritesInTurn (WritesAt g) f (take (length ys) xs) ys state → g.pre state (x, tt)
