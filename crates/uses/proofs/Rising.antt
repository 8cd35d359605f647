-- Peaks that fall to a sample, and the first of them.
use Rattle.std.{
  proofs.{
    Common.{◌≡◌, ◌≤◌, ◌<◌, ℕ, List, [], ◌∷◌, ◌++◌, max, nat_lt, if◌then◌else◌, slice_get, Option},
    Common.{◌⊎◌, length, Some, None, unwrap_or, Bool, true≢false, inl, inr, refl, sym},
    Common.{ap, ◌∙◌, arith},
    lemmas.Bool.{cases_lt, Decides.nat_tests},
  },
  specs.{
    Borrow.MutBor,
    declared.result.Result.{Result, TheVariants.{Ok, Err}},
    Fn.{Once, FnOnceReturnsAtMut},
    List.Retain.PopsIf,
    Prelude.{IsOk, OnErr},
  },
}
use Rattle.uses.specs.Peaks.{before, peaks_of, largest}

-- a peak before what is left of those behind it
abbrev above : ℕ → ℕ → List ℕ → List ℕ
above s x [] = if nat_lt x s then [] else x ∷ []
above s x (y ∷ ys) = x ∷ y ∷ ys

-- the peaks without the last ones, which s exceeds
abbrev pub fallen : ℕ → List ℕ → List ℕ
fallen s [] = []
fallen s (x ∷ xs) = above s x (fallen s xs)

-- such a last one goes
pub fallen-lower : (xs : List ℕ) (x s : ℕ) → x < s → fallen s (xs ++ x ∷ []) ≡ fallen s xs
fallen-lower [] x s lower = grind (arith, nat_tests)
fallen-lower (y ∷ ys) x s lower = ap (above s y) (fallen-lower ys x s lower)

above-more : (s y x : ℕ) (ys : List ℕ) → above s y (ys ++ x ∷ []) ≡ y ∷ ys ++ x ∷ []
above-more s y x [] = refl
above-more s y x (z ∷ zs) = refl

-- and no other
pub fallen-all : (xs : List ℕ) (x s : ℕ) → s ≤ x → fallen s (xs ++ x ∷ []) ≡ xs ++ x ∷ []
fallen-all [] x s le = grind (arith, nat_tests)
fallen-all (y ∷ ys) x s le = ap (above s y) (fallen-all ys x s le) ∙ above-more s y x ys

before-above : (x s p : ℕ) (ps t : List ℕ) → fallen s ps ≡ t
    → before x (above s p t ++ s ∷ []) ≡ fallen s (before x (p ∷ ps)) ++ s ∷ []
before-above x s p ps [] is =
    elim (cases_lt x p) [
      | inl less ↦ elim (cases_lt p s) [ inl low ↦ grind (arith, nat_tests) | inr high ↦ grind (arith, nat_tests) ]
      | inr more ↦ elim (cases_lt p s) [ inl low ↦ grind (arith, nat_tests) | inr high ↦ grind (arith, nat_tests) ]
    ]
before-above x s p ps (y ∷ ys) is =
    elim (cases_lt x p) [ inl less ↦ grind (arith, nat_tests) | inr more ↦ grind (arith, nat_tests) ]

before-fallen : (x s : ℕ) (ps : List ℕ) → before x (fallen s ps ++ s ∷ []) ≡ fallen s (before x ps) ++ s ∷ []
before-fallen x s [] = elim (cases_lt x s) [ inl low ↦ grind (arith, nat_tests) | inr high ↦ grind (arith, nat_tests) ]
before-fallen x s (p ∷ ps) = before-above x s p ps (fallen s ps) refl

-- what a new sample leaves of the peaks
pub peaks-enter : (xs : List ℕ) (s : ℕ) → fallen s (peaks_of xs) ++ s ∷ [] ≡ peaks_of (xs ++ s ∷ [])
peaks-enter [] s = refl
peaks-enter (x ∷ xs) s = sym (before-fallen x s (peaks_of xs)) ∙ ap (before x) (peaks-enter xs s)

first-before : (x : ℕ) (ps : List ℕ) (first : Option ℕ) → slice_get ps 0 ≡ first
    → slice_get (before x ps) 0 ≡ Some (max x (unwrap_or first 0))
first-before x [] first is = grind (arith, is)
first-before x (p ∷ ps) first is =
    elim (cases_lt x p) [ inl less ↦ grind (arith, nat_tests, is) | inr more ↦ grind (arith, nat_tests, is) ]

-- the first peak is the largest sample
pub first-largest : (xs : List ℕ) → slice_get (peaks_of xs) 0 ≡ largest xs
first-largest [] = refl
first-largest (x ∷ xs) = first-before x (peaks_of xs) (largest xs) (first-largest xs)

-- of a closure that tests whether a peak is lower, a pop
module _ {F : Type 0} (g : Once F (MutBor ℕ × Unit {0}) (Bool × (MutBor ℕ × Unit {0}))) (f : F) (s : ℕ)
    (says : (x : ℕ) (b : Bool) (y : ℕ) → FnOnceReturnsAtMut g f x b y → (b ≡ nat_lt x s) × (y ≡ x))
    (old new : List ℕ) (r : Option ℕ) where
  -- takes such a last one out
  pub pop-lower : PopsIf g old new f r → fallen s new ≡ fallen s old
  pop-lower (inl none) = grind (arith, none.0, none.1)
  pop-lower (inr (xs, x, b, y, was, met, is, left)) =
      let said = says x b y met in
      elim (cases_lt x s) [
        | inl low ↦ grind (arith, nat_tests, said.0, said.1, was, left, fallen-lower xs x s low)
        | inr high ↦ grind (arith, nat_tests, said.0, said.1, was, left)
      ]

  -- or leaves the peaks that stay
  pub pop-none : PopsIf g old new f r → r ≡ None → new ≡ fallen s new
  pop-none (inl none) empty = grind (arith, none.0, none.1)
  pop-none (inr (xs, x, b, y, was, met, is, left)) empty =
      let said = says x b y met in
      elim (cases_lt x s) [
        | inl low ↦ absurd (grind (arith, nat_tests, said.0, is, empty))
        | inr high ↦ grind (arith, nat_tests, said.0, said.1, left, fallen-all xs x s high)
      ]

  -- or changes none
  pub pop-stays : PopsIf g old new f r → r ≡ None → new ≡ old
  pop-stays (inl none) empty = none.1 ∙ sym none.0
  pop-stays (inr (xs, x, b, y, was, met, is, left)) empty =
      let said = says x b y met in
      elim (cases_lt x s) [
        | inl low ↦ absurd (grind (arith, nat_tests, said.0, is, empty))
        | inr high ↦ grind (arith, nat_tests, said.0, said.1, was, left)
      ]

-- peaks that are as they were, or fewer
abbrev pub UnchangedOrFewer : List ℕ → List ℕ → Type 0
UnchangedOrFewer new old = (new ≡ old) ⊎ (length new < length old)

pub fewer-still : (new mid old : List ℕ) → length new < length mid → UnchangedOrFewer mid old
    → UnchangedOrFewer new old
fewer-still new mid old less (inl same) = inr (omega (arith, less, ap length same))
fewer-still new mid old less (inr fewer) = inr (omega (arith, less, fewer))

-- if there is no room among them for one more, they are as they were
pub unchanged-full : {A E : Type 0} (r : Result A E) (n : ℕ) (old mid new : List ℕ) → (length mid < n → IsOk r)
    → OnErr r (new ≡ mid) → UnchangedOrFewer mid old → length old ≤ n → OnErr r (new ≡ old)
unchanged-full (Ok a) n old mid new room same was within = tt
unchanged-full (Err e) n old mid new room same (inl is) within = same ∙ is
unchanged-full (Err e) n old mid new room same (inr fewer) within =
    absurd (true≢false (sym (room (omega (arith, fewer, within)))))
