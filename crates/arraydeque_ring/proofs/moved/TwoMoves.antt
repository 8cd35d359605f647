-- A run of values that moves in two moves or three, round the end: what the first leaves the next ones move.
use Rattle.std.proofs.{
  Common.{◌≡◌, ℕ, ◌+◌, ◌-◌, ◌<◌, ◌≤◌, ◌⊎◌, inl, inr, List, length, Option, refl, sym, ap, subst},
  Common.{◌∙◌, arith},
  lemmas.Bool.Decides.nat_tests,
  Math.Nat.mod-eq_of_lt,
}
use Rattle.arraydeque_ring.{
  proofs.{
    moved.Flat.{distance_is, length-moved, moved_at},
    places.{
      Filled.filled_run_of,
      Items.same_places,
      Rotated.{MayStartAt, place_of_cases, place_of-lt},
    },
  },
  specs.{
    Moved.{distance, IsFilledRound, CanMoveRun, run_moved},
    Places.{held_at, IsFilled},
    Ring.place_of,
    Runs.IsFilledRun,
  },
}

-- the place k on is at the distance k
distance-up : (i k n : ℕ) → i < n → k < n → distance i (place_of i k n) n ≡ k
distance-up i k n a b = grind (arith, place_of-lt i k n (omega arith))

-- of the l values of a run that moves from s to d, k from the index i on move first, and then the m others, from the
-- index j on: the first ones first, where none of the others is in their way, or the last ones
unfoldable pub InOrder : ℕ → ℕ → ℕ → ℕ → ℕ → ℕ → ℕ → ℕ → Type 0
InOrder d s l n i j k m = ((i ≡ 0) × (j ≡ k) × ((distance s d n ≡ 0) ⊎ (l ≤ distance s d n)))
    ⊎ ((j ≡ 0) × (i ≡ m) × (distance s d n + l ≤ n))

-- the l places from p on are those of a run from a on, from the index i on
unfoldable pub StartsAt : ℕ → ℕ → ℕ → ℕ → ℕ → Type 0
StartsAt a n i l p = (l ≡ 0) ⊎ ((p < n) × MayStartAt a i n p)

-- and so is the place at each index
on : (a n i l p x : ℕ) → StartsAt a n i l p → a < n → i + l ≤ n → x < l
    → (p < n) × (place_of p x n ≡ place_of a (i + x) n)
unfolding StartsAt
on a n i l p x at a_in fits lt = grind (arith, place_of_cases)

-- a place is among them where it is at such an index, and at the same distance
in_part : (a n i l p x : ℕ) → StartsAt a n i l p → a < n → x < n → i + l ≤ n
    → ((distance a x n ≡ i + distance p x n) × (distance p x n < l))
    ⊎ ((l ≤ distance p x n) × ((distance a x n < i) ⊎ (i + l ≤ distance a x n)))
unfolding StartsAt
in_part a n i l p x at a_in x_in fits = grind (arith, distance_is a x n (omega arith) x_in, distance_is p x n)

-- the l values from t on, which go to e, are those from the index i on
abbrev IsPart : ℕ → ℕ → ℕ → ℕ → ℕ → ℕ → ℕ → Type 0
IsPart d s n i l e t = StartsAt d n i l e × StartsAt s n i l t

-- k values can move from t to e, and then m from u to f, which gives the places `whole`
pub record TwoMoves {X : Type 0} (e t k f u m : ℕ) (ps whole : List (Option X)) : Type 0 where
  pub first : IsFilledRound t k ps
  pub second : IsFilledRound u m (run_moved e t k ps)
  pub is : run_moved f u m (run_moved e t k ps) ≡ whole

module _ {X : Type 0} (d s l i j k m n : ℕ) (ps : List (Option X)) (long : length ps ≡ n)
    (fits : (d < n) × (s < n) × (l ≤ n) × (k + m ≡ l) × (i + k ≤ l) × (j + m ≤ l))
    (order : InOrder d s l n i j k m) (e t f u : ℕ) (one : IsPart d s n i k e t) (two : IsPart d s n j m f u)
  where
    -- a place is among those of the run where it is among those of either move, and at the same distance
    either : (a p q x : ℕ) → a < n → x < n → StartsAt a n i k p → StartsAt a n j m q → let first = distance p x n in
        let second = distance q x n in
        ((distance a x n ≡ i + first) × (first < k) × (m ≤ second))
        ⊎ (((distance a x n ≡ j + second) × (k ≤ first) × (second < m))
        ⊎ ((l ≤ distance a x n) × (k ≤ first) × (m ≤ second)))
    unfolding InOrder
    either a p q x a_in lt at_p at_q = grind (arith, in_part)

    abbrev after_first : List (Option X)
    after_first = run_moved e t k ps

    -- a source of the second move is no target of the first, and holds what it held
    apart : (x : ℕ) → x < n → distance u x n < m → k ≤ distance e x n
    unfolding InOrder
    apart x lt a = omega (
      arith,
      in_part d n i k e x one.0 (omega arith) lt (omega arith),
      in_part s n j m u x two.1 (omega arith) lt (omega arith),
      place_of_cases d (n - s) n (omega arith),
      place_of_cases x (n - s) n (omega arith),
      place_of_cases x (n - d) n (omega arith),
    )

    still_there : (x : ℕ) → x < n → distance u x n < m → held_at after_first x ≡ held_at ps x
    still_there x lt a = moved_at e t k ps x long lt
        ∙ grind (arith, apart x lt a, either s t u x (omega arith) lt one.1 two.1)

    each : (x : ℕ) → x < n → held_at (run_moved f u m after_first) x ≡ held_at (run_moved d s l ps) x
    each x lt =
        let far = distance f x n in
        moved_at f u m after_first x (length-moved e t k ps ∙ long) lt ∙ grind (
          arith,
          nat_tests,
          either d e f x (omega arith) lt one.0 two.0,
          either s t u x (omega arith) lt one.1 two.1,
          apart x lt,
          on s n i k t (distance e x n) one.1,
          moved_at e t k ps x long lt,
          on s n j m u far two.1,
          place_of-lt u far n,
          distance-up u far n,
          still_there (place_of u far n),
        ) ∙ sym (moved_at d s l ps x long lt)

    pub two_moves : IsFilledRound s l ps → TwoMoves e t k f u m ps (run_moved d s l ps)
    two_moves filled =
        let at : (x : ℕ) → x < l → IsFilled ps (place_of s x n) = λ x lt. rw (← long) (filled x lt) in
        record {
          first = λ x lt. rw (long, (on s n i k t x one.1 (omega arith) (omega arith) lt).1) (at (i + x) (omega arith));
          second = λ x lt. let source = on s n j m u x two.1 (omega arith) (omega arith) lt in rw (
            length-moved e t k ps ∙ long,
            still_there _ (place_of-lt u x n (omega arith)) (rw (distance-up u x n (omega arith) (omega arith)) lt),
            source.1,
          ) (at (j + x) (omega arith));
          is = same_places _ _ (length-moved f u m _ ∙ length-moved e t k ps ∙ sym (length-moved d s l ps))
              (λ x lt. each x (omega (arith, length-moved d s l ps)));
        }

pub can_move : {X : Type 0} {e t l n : ℕ} {ps : List (Option X)} → length ps ≡ n → (e + l ≤ n) × (t + l ≤ n)
    → IsFilledRound t l ps → CanMoveRun e t l ps
can_move long fits filled = record { target = omega arith; source = omega arith; filled = filled }

-- a run that doesn't pass the end
pub round_run : {X : Type 0} (ps : List (Option X)) (from len : ℕ) → from + len ≤ length ps
    → IsFilledRound from len ps → IsFilledRun ps from len
round_run ps from len le filled = filled_run_of ps from len le (λ x a b.
    subst (IsFilled ps) (mod-eq_of_lt {m = length ps} (omega arith) ∙ omega arith) (filled (x - from) (omega arith)))

-- a run of which neither source nor target passes the end, and which moves in two moves: the first k values first
-- where it moves down, else the last m
module _ {X : Type 0} (i j k m l : ℕ) (ps : List (Option X)) (parts : (0 < l) × (k + m ≡ l)) (can : CanMoveRun i j l ps)
  where
    pub first_block_goes : i ≤ j → TwoMoves i j k (i + k) (j + k) m ps (run_moved i j l ps)
    unfolding StartsAt InOrder
    first_block_goes down = two_moves i j l 0 k k m (length ps) ps refl (omega arith)
        (inl (omega arith, omega arith, grind (arith, distance_is j i (length ps) (omega arith) (omega arith))))
        i j (i + k) (j + k) (grind arith) (grind arith) can.filled

    pub last_block_goes : j ≤ i → TwoMoves (i + k) (j + k) m i j k ps (run_moved i j l ps)
    unfolding StartsAt InOrder
    last_block_goes up = two_moves i j l k 0 m k (length ps) ps refl (omega arith)
        (inr (omega arith, omega arith, grind arith)) (i + k) (j + k) i j (grind arith) (grind arith) can.filled

-- three moves can be made one after the other
pub record Three {X : Type 0} (d₁ s₁ l₁ d₂ s₂ l₂ d₃ s₃ l₃ : ℕ) (ps whole : List (Option X)) : Type 0 where
  pub one : CanMoveRun d₁ s₁ l₁ ps
  pub two : CanMoveRun d₂ s₂ l₂ (run_moved d₁ s₁ l₁ ps)
  pub three : CanMoveRun d₃ s₃ l₃ (run_moved d₂ s₂ l₂ (run_moved d₁ s₁ l₁ ps))
  pub is : run_moved d₃ s₃ l₃ (run_moved d₂ s₂ l₂ (run_moved d₁ s₁ l₁ ps)) ≡ whole

-- a run that moves in three parts, none of which passes the end: up to the index a, from there to b, and from there on
module _ {X : Type 0} (d s l n a b : ℕ) {k m d₁ s₁ d₂ s₂ d₃ s₃ : ℕ} {ps : List (Option X)} (n_is : n ≡ length ps)
    (filled : IsFilledRound s l ps) (parts : (a + k ≡ b) × (b + m ≡ l) × (l ≤ n) × (d < n) × (s < n))
    (before : IsPart d s n 0 a d₁ s₁ × ((d₁ + a ≤ n) × (s₁ + a ≤ n)))
    (between : IsPart d s n a k d₂ s₂ × ((d₂ + k ≤ n) × (s₂ + k ≤ n)))
    (behind : IsPart d s n b m d₃ s₃ × ((d₃ + m ≤ n) × (s₃ + m ≤ n))) where
  pub three : (l ≤ distance s d n → Three d₁ s₁ a d₂ s₂ k d₃ s₃ m ps (run_moved d s l ps))
      × (distance s d n + l ≤ n → Three d₃ s₃ m d₂ s₂ k d₁ s₁ a ps (run_moved d s l ps))
  unfolding StartsAt InOrder
  three = let long = sym n_is in (
    λ far.
        let firsts = two_moves d s b 0 a a k n ps long (omega arith) (inl (omega arith, omega arith, grind arith))
        d₁ s₁ d₂ s₂ before.0 between.0 (λ x lt. filled x (omega arith)) in
        let last = two_moves d s l 0 b b m n ps long (omega arith) (inl (omega arith, omega arith, inr far))
        d s d₃ s₃ (grind arith) behind.0 filled in
        let same = length-moved d₁ s₁ a ps ∙ long in
        record {
          one = can_move long before.1 firsts.first;
          two = can_move same between.1 firsts.second;
          three = can_move (length-moved d₂ s₂ k _ ∙ same) behind.1 (rw firsts.is last.second);
          is = ap (run_moved d₃ s₃ m) firsts.is ∙ last.is;
        },
    λ near.
        let last = two_moves d s l b 0 m b n ps long (omega arith) (inr (omega arith, omega arith, near))
        d₃ s₃ d s behind.0 (grind arith) filled in
        let same = length-moved d₃ s₃ m ps ∙ long in
        let firsts = two_moves d s b a 0 k a n _ same (omega arith) (inr (omega arith, omega arith, omega arith))
        d₂ s₂ d₁ s₁ between.0 before.0 last.second in
        record {
          one = can_move long behind.1 last.first;
          two = can_move same between.1 firsts.first;
          three = can_move (length-moved d₂ s₂ k _ ∙ same) before.1 firsts.second;
          is = firsts.is ∙ last.is;
        },
  )
