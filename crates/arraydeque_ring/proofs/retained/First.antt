-- The answers up to the first item that goes: at a list, and at one in two slices.
use Rattle.std.{
  proofs.{
    Common.{◌≡◌, ℕ, zero, suc, ◌+◌, ◌<◌, List, [], ◌∷◌, ◌++◌, length, take, replicate, get_or},
    Common.{Bool, true, false, cond, not, count_by, refl, ap, ◌∙◌, arith},
    lemmas.{
      Bool.Decides.nat_tests,
      List.{append-nil, append_assoc, length-append, length-replicate, replicate-append-replicate},
      List.Folds.sum_by-replicate,
      Option.slice_get_within,
    },
    Retain.answers_push,
  },
  specs.{Borrow.Bor, Fn.{CalledAt, Mut}, List.{items_where_true, Retain.ReturnsInTurn}},
}
use Rattle.arraydeque_ring.{
  proofs.places.Items.slice_get-append,
  specs.Retained.{answers_until, count_moved, MayBeAsked},
}

pub until_goes : (k n : ℕ) → k < n → answers_until k n ≡ replicate k true ++ false ∷ []
until_goes k n lt = grind arith

-- n items that stay stand before
until_behind : (n k m : ℕ) → answers_until (n + k) (n + m) ≡ replicate n true ++ answers_until k m
until_behind n k m = grind (arith, append_assoc, replicate-append-replicate n k true)

-- those that stay are the first ones, none goes, and none is moved
pub picked_front : {X : Type 0} (k : ℕ) (xs : List X) → items_where_true (replicate k true) xs ≡ take k xs
picked_front zero xs = refl
picked_front (suc k) [] = refl
picked_front (suc k) (x ∷ xs) = ap (λ l. x ∷ l) (picked_front k xs)

pub none_goes : (k : ℕ) → count_by not (replicate k true) ≡ 0
none_goes k = omega (arith, sum_by-replicate (λ b. cond (not b) 1 0) k true)

pub none_moved : (k : ℕ) → count_moved (replicate k true) ≡ 0
none_moved zero = refl
none_moved (suc k) = none_moved k

module _ {X F : Type 0} (R : F → X → Bool → F → Type 0) where
  -- k items stay, and the next one is answered
  pub answer_next : (f g h : F) (k : ℕ) (xs : List X) (x : X) (b : Bool) → k < length xs → x ≡ get_or xs k x
      → ReturnsInTurn R f (replicate k true) xs g → R g x b h → ReturnsInTurn R f (replicate k true ++ b ∷ []) xs h
  answer_next f g h k xs x b lt is told said = grind (arith, answers_push, length-replicate)

  -- what is answered at a list is so at a longer one
  told_longer : (f g : F) (bs : List Bool) (xs ys : List X) → ReturnsInTurn R f bs xs g
      → ReturnsInTurn R f bs (xs ++ ys) g
  told_longer f g [] xs ys told = told
  told_longer f g (b ∷ bs) [] ys told = absurd told
  told_longer f g (b ∷ bs) (x ∷ xs) ys told = (told.0, told.1, told_longer told.0 g bs xs ys told.2)

  -- answers at all of one list, and then at another
  pub told_behind : (f g h : F) (bs cs : List Bool) (xs ys : List X) → length bs ≡ length xs → ReturnsInTurn R f bs xs g
      → ReturnsInTurn R g cs ys h → ReturnsInTurn R f (bs ++ cs) (xs ++ ys) h
  told_behind f g h [] cs [] ys long told after = rw told after
  told_behind f g h [] cs (x ∷ xs) ys long told after = absurd (omega arith)
  told_behind f g h (b ∷ bs) cs [] ys long told after = absurd told
  told_behind f g h (b ∷ bs) cs (x ∷ xs) ys long told after =
      (told.0, told.1, told_behind told.0 g h bs cs xs ys (omega arith) told.2 after)

  -- the first that goes is in the first of two lists
  pub until_in_front : (f g : F) (k : ℕ) (xs ys : List X)
      → k < length xs → ReturnsInTurn R f (answers_until k (length xs)) xs g
      → ReturnsInTurn R f (answers_until k (length (xs ++ ys))) (xs ++ ys) g
  until_in_front f g k xs ys lt told = grind (arith, length-append, told_longer)

  -- or all of that one stay
  pub all_stay : (f g : F) (k : ℕ) (xs : List X) → k ≡ length xs → ReturnsInTurn R f (answers_until k (length xs)) xs g
      → ReturnsInTurn R f (replicate k true) xs g
  all_stay f g k xs all told = grind (arith, append-nil)

  pub until_in_back : (f g h : F) (k m : ℕ) (xs ys : List X) → k ≡ length xs
      → ReturnsInTurn R f (answers_until k (length xs)) xs g → ReturnsInTurn R g (answers_until m (length ys)) ys h
      → ReturnsInTurn R f (answers_until (k + m) (length (xs ++ ys))) (xs ++ ys) h
  until_in_back f g h k m xs ys all told after =
      grind (arith, length-append, until_behind, told_behind, length-replicate, all_stay)

-- what may be asked about two lists, one behind the other, may be so about the first, and then about the second
module _ {X F : Type 0} (t : Mut F (Bor X × Unit {0}) Bool) (f : F) (xs ys : List X)
    (may : MayBeAsked t f (xs ++ ys)) where
  pub asked_front : MayBeAsked t f xs
  asked_front answers g x here told =
      may answers g x (grind (arith, slice_get-append, slice_get_within xs (length answers) x.now here))
      (told_longer (CalledAt t) f g answers xs ys told)

  pub asked_back : (g : F) (k : ℕ) → k ≡ length xs → ReturnsInTurn (CalledAt t) f (answers_until k (length xs)) xs g
      → MayBeAsked t g ys
  asked_back g k all first answers h x here told =
      let bs = replicate k true in
      may (bs ++ answers) h x (grind (
        arith,
        nat_tests,
        length-append bs answers,
        length-replicate k true,
        slice_get-append xs ys (length (bs ++ answers)),
      ))
      (told_behind (CalledAt t) f g h bs answers xs ys (length-replicate k true ∙ all)
      (all_stay (CalledAt t) f g k xs all first) told)
