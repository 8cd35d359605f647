-- What a ring keeps of its items by the answers of a closure, and what it costs.
use Rattle.std.specs.{
  Borrow.{Bor, MutBor},
  Fn.{CalledAt, CalledAtMut, Mut},
  List.{items_where_true, Retain.ReturnsInTurn},
  Prelude.{◌≡◌, ℕ, List, [], ◌∷◌, ◌++◌, length, replicate, take, map, slice_get, Some, not, Bool},
  Prelude.{true, false, count_by, if◌then◌else◌, ◌==◌},
}
use Rattle.arraydeque_ring.specs.{Ring.RingState, Steps.{more_takes, more_moves, more_lends}}

-- of how many items the index changes: those answered true, past the first answered false
abbrev pub count_moved : List Bool → ℕ
count_moved [] = 0
count_moved (true ∷ bs) = count_moved bs
count_moved (false ∷ bs) = count_by (λ b. b) bs

-- of n items: true for the first `kept`, and then false for the one that goes, unless all stay
abbrev pub answers_until : ℕ → ℕ → List Bool
answers_until kept n = replicate kept true ++ (if kept == n then [] else false ∷ [])

-- R answered once at each item in turn, from f on, and the items answered true stay, in order; each
-- that goes is taken out, and each whose index changes is moved once
pub record Retains {F X : Type 0} (R : F → X → Bool → F → Type 0) (f : F)
    (old new : RingState X) : Type 0 where
  pub answers : List Bool
  pub last : F
  pub one_each : length answers ≡ length old.items
  pub in_turn : ReturnsInTurn R f answers old.items last
  pub kept : new ≡ record old {
    items = items_where_true answers old.items;
    steps = more_takes (count_by not answers) (more_moves (count_moved answers) old.steps);
  }

-- f may be asked about each of xs, once and in turn; nothing is said of a call after the last
abbrev pub MayBeAsked : {F X : Type 0} → Mut F (Bor X × Unit {0}) Bool → F → List X → Type 0
MayBeAsked {F} {X} g f xs =
    (answers : List Bool) (state : F) (x : Bor X) → slice_get xs (length answers) ≡ Some x.now
    → ReturnsInTurn (CalledAt g) f answers xs state → g.pre state (x, tt)

-- of pairs of an item as it was and as it was left: the items as they were
abbrev pub as_were : {X : Type 0} → List (X × X) → List X
as_were pairs = map (λ pair. pair.0) pairs

-- and as they were left
abbrev pub as_left : {X : Type 0} → List (X × X) → List X
as_left pairs = map (λ pair. pair.1) pairs

-- R answered at the item as it was, and left it as the pair says
abbrev pub WrittenAs : {F X : Type 0} → (F → X → Bool → F → X → Type 0) → F → X × X → Bool → F
    → Type 0
WrittenAs R f pair answer g = R f pair.0 answer g pair.1

-- R answered once at each item in turn, from f on, and the items answered true stay, in order and
-- as it left them; each item is lent once, each that goes is taken out, and each whose index
-- changes is moved once
pub record RetainsMut {F X : Type 0} (R : F → X → Bool → F → X → Type 0) (f : F)
    (old new : RingState X) : Type 0 where
  pub answers : List Bool
  pub pairs : List (X × X)
  pub last : F
  pub one_each : length answers ≡ length old.items
  pub before : as_were pairs ≡ old.items
  pub in_turn : ReturnsInTurn (WrittenAs R) f answers pairs last
  pub kept : new ≡ record old {
    items = items_where_true answers (as_left pairs);
    steps = more_takes (count_by not answers)
        (more_moves (count_moved answers) (more_lends (length old.items) old.steps));
  }

-- f may be called on each of xs, once and in turn, whatever it wrote; nothing is said of a call
-- after the last
abbrev pub MayBeAskedMut : {F X : Type 0}
    → Mut F (MutBor X × Unit {0}) (Bool × (MutBor X × Unit {0})) → F → List X → Type 0
MayBeAskedMut {F} {X} g f xs =
    (answers : List Bool) (pairs : List (X × X)) (state : F) (x : MutBor X)
    → as_were pairs ≡ take (length answers) xs → slice_get xs (length answers) ≡ Some x.now
    → ReturnsInTurn (WrittenAs (CalledAtMut g)) f answers pairs state → g.pre state (x, tt)
