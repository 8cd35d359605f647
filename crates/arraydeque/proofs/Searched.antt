-- A list that is searched by halves: what is known of the items before and behind those that are left.
use Rattle.std.{
  proofs.{
    Common.{◌≡◌, ℕ, ◌+◌, ◌-◌, ◌<◌, ◌≤◌, ◌⊎◌, inl, inr, List, ◌∷◌, [], ◌++◌, length, get_or},
    Common.{Bool, true, false, true≢false, ap, refl, sym, ◌∙◌, arith},
    lemmas.{
      Fn.answers_by,
      Bool.false_from_ne_true,
      Grind.common_steps,
      List.{length-append, get_or_append_left, get_or-append-add, get_or-append_right},
    },
  },
  specs.{
    declared.{
      cmp.Ordering.{Ordering, TheVariants.{Less, Equal, Greater}},
      result.Result.{Result, TheVariants.{Ok, Err}},
    },
    Fn.{Called, AlwaysReturns, ComputesKey},
    List.{AllWithin, HoldsAt, Sorted.{IsBinarySearchResult, IsNonDecreasingBy, IsPartitionedBy, IsPartitionPoint}},
    Ordering.{is_lt, is_eq, ordering_index},
    Result.IfOk,
  },
}
use denote.{Param.Members.Mut, Ref.Bor}
use Rattle.arraydeque.specs.Searches.{IsFirstFound, IsLessCount}

-- a closure that answers so at each call does at the first, and from then on
pub answers_first : {F A R : Type 0} (g : Mut F A R) {P : A → R → Type 0} {f : F} {a : A} {r : R} {f' : F}
    → AlwaysReturns g P f → Called g f a r f' → P a r × AlwaysReturns g P f'
answers_first g {a = a} {r = r} {f' = f'} always called =
    ((always.at (a ∷ []) r f' called).0, record { at = λ more. (always.at (a ∷ more) r f' called).1 })

-- a closure that asks another one, and answers h of what it answers
module _ {F S X K R : Type 0} (g : Mut F (Bor X × Unit {0}) K) (g' : Mut S (Bor X × Unit {0}) R) (asked : S → F)
    (kept : S → Type 0) (h : K → R) where
  abbrev pub AsksThrough : Type 0
  AsksThrough = (s : S) (a : Bor X × Unit {0}) (r : R) (t : S) → Called g' s a r t → kept s
      → (k : K) × (Called g (asked s) a k (asked t) × ((r ≡ h k) × kept t))

  pub answers_through : AsksThrough → (key : X → K) (s : S) → kept s → ComputesKey g key (asked s)
      → ComputesKey g' (λ y. h (key y)) s
  answers_through asks key s keeps says = answers_by g' (λ a r. r ≡ h (key a.0.now))
      (λ q. kept q × ComputesKey g key (asked q)) (λ q a r t called i.
      let told = asks q a r t called i.0 in
      let next = answers_first g i.1 told.1.0 in
      (told.1.1.0 ∙ ap h next.0, (told.1.1.1, next.1))) s (keeps, says)

module _ {X : Type 0} (p : X → Bool) (xs : List X) where
  -- items before `base` pass, and those behind the next `size` don't
  pub record Between (base size : ℕ) : Type 0 where
    pub before : AllWithin (λ y. p y ≡ true) xs 0 base
    pub behind : AllWithin (λ y. p y ≡ false) xs (base + size) (length xs)

  module _ (parted : IsPartitionedBy p xs) where
    pub passes_before : (i n : ℕ) → n ≤ i + 1 → i < length xs → HoldsAt (λ y. p y ≡ true) xs i
        → AllWithin (λ y. p y ≡ true) xs 0 n
    passes_before i n le lt passes k d low below = parted k i d (omega arith) lt (passes d)

    pub fails_behind : (i n : ℕ) → i ≤ n → HoldsAt (λ y. p y ≡ false) xs i
        → AllWithin (λ y. p y ≡ false) xs n (length xs)
    fails_behind i n le fails k d low below = grind arith

-- a list in two parts, of which the first item of the second tells where to search
module _ {X : Type 0} (xs ys : List X) where
  at_front : (k : ℕ) (d : X) → k < length xs → get_or (xs ++ ys) k d ≡ get_or xs k d
  at_front k d lt = get_or_append_left xs ys d k lt

  at_back : (k : ℕ) (d : X) → get_or (xs ++ ys) (length xs + k) d ≡ get_or ys k d
  at_back k d = get_or-append-add xs ys k d

  from_back : (k : ℕ) (d : X) → length xs ≤ k → get_or (xs ++ ys) k d ≡ get_or ys (k - length xs) d
  from_back k d le = get_or-append_right xs ys (length xs) k d refl le

  module _ (P Q : X → Type 0) where
    point_behind : (i j : ℕ) → j ≡ length xs + i → AllWithin P xs 0 (length xs) → IsPartitionPoint P Q ys i
        → IsPartitionPoint P Q (xs ++ ys) j
    point_behind i j at all found = grind (arith, at_front, from_back, length-append)

    point_before : (i : ℕ) → i ≤ length xs → AllWithin Q ys 0 (length ys) → IsPartitionPoint P Q xs i
        → IsPartitionPoint P Q (xs ++ ys) i
    point_before i within all found = grind (arith, at_front, from_back, length-append)

  module _ (p : X → Bool) (parted : IsPartitionedBy p (xs ++ ys)) where
    front_parted : IsPartitionedBy p xs
    front_parted i j d le lt passes = rw (at_front i d (omega arith)) at
        (parted i j d le (omega (arith, length-append xs ys)) (rw (at_front j d lt) passes))

    back_parted : IsPartitionedBy p ys
    back_parted i j d le lt passes = rw (at_back i d) at
        (parted (length xs + i) (length xs + j) d (omega arith) (omega (arith, length-append xs ys))
        (rw (at_back j d) passes))

    pub parted_behind : (i j : ℕ) → j ≡ length xs + i → 0 < length ys → ((d : X) → p (get_or ys 0 d) ≡ true)
        → (IsPartitionedBy p ys → IsPartitionPoint (λ y. p y ≡ true) (λ y. p y ≡ false) ys i)
        → IsPartitionPoint (λ y. p y ≡ true) (λ y. p y ≡ false) (xs ++ ys) j
    parted_behind i j at some first found = point_behind (λ y. p y ≡ true) (λ y. p y ≡ false) i j at
        (λ k d low lt. rw (at_front k d lt) at (parted k (length xs + 0) d (omega arith)
        (omega (arith, length-append xs ys)) (rw (at_back 0 d) (first d))))
        (found back_parted)

    pub parted_before : (i j : ℕ) → j ≡ i → i ≤ length xs → (0 < length ys → (d : X) → p (get_or ys 0 d) ≡ false)
        → (IsPartitionedBy p xs → IsPartitionPoint (λ y. p y ≡ true) (λ y. p y ≡ false) xs i)
        → IsPartitionPoint (λ y. p y ≡ true) (λ y. p y ≡ false) (xs ++ ys) j
    parted_before i j at within first found =
        rw at (point_before (λ y. p y ≡ true) (λ y. p y ≡ false) i within
        (λ k d low lt. false_from_ne_true (p (get_or ys k d)) (λ passes.
        grind (arith, first (omega arith) d, back_parted 0 k d low lt passes)))
        (found front_parted))

module _ {F X : Type 0} (g : Mut F (Bor X × Unit {0}) Ordering) where
  -- where f answered by an order, f' does, and what it answered has left `size` items from `base` on
  pub record Halves (f f' : F) (xs : List X) (base size : ℕ) : Type 0 where
    pub within : base + size ≤ length xs
    pub at : (ord : X → Ordering) → ComputesKey g ord f → ComputesKey g ord f'
        × (IsPartitionedBy (λ y. is_lt (ord y)) xs → Between (λ y. is_lt (ord y)) xs base size)

  -- where nothing is left, the search has ended
  pub count_of : (f f' : F) (xs : List X) (n size : ℕ) → Halves f f' xs n size → (size ≡ 0) ⊎ (length xs ≤ n)
      → (ord : X → Ordering) → ComputesKey g ord f → ComputesKey g ord f' × IsLessCount ord xs n
  count_of f f' xs n size h none ord says = grind arith

  module _ (f f' f'' : F) (xs : List X) (base size : ℕ) (h : Halves f f' xs base size)
      (i : ℕ) (lt : i < length xs) (x : Bor X) (is : x.now ≡ get_or xs i x.now) (r : Ordering)
      (called : Called g f' (x, tt) r f'') where
    answered : (b : Bool) → is_lt r ≡ b → (ord : X → Ordering) → ComputesKey g ord f'
        → ComputesKey g ord f'' × HoldsAt (λ y. is_lt (ord y) ≡ b) xs i
    answered b e ord says = let next = answers_first g says called in grind (arith, common_steps)

    pub halves_less : (to left : ℕ) → to ≤ i + 1 → base + size ≤ to + left → to + left ≤ length xs → is_lt r ≡ true
        → Halves f f'' xs to left
    halves_less to left up all within e = record {
      within = within;
      at = λ ord says.
          let now = h.at ord says in
          let next = answered true e ord now.0 in (
            next.0,
            λ parted. let b = now.1 parted in record {
              before = passes_before (λ y. is_lt (ord y)) xs parted i to up lt next.1;
              behind = λ k d low below. b.behind k d (omega arith) below;
            },
          );
    }

    pub halves_not_less : (left : ℕ) → i ≤ base + left → base + left ≤ length xs → is_lt r ≡ false
        → Halves f f'' xs base left
    halves_not_less left le within e = record {
      within = within;
      at = λ ord says.
          let now = h.at ord says in
          let next = answered false e ord now.0 in (
            next.0,
            λ parted. record {
              before = (now.1 parted).before;
              behind = fails_behind (λ y. is_lt (ord y)) xs parted i (base + left) le next.1;
            },
          );
    }

    -- by which answer it was
    pub halves_next : (to left : ℕ) → base ≤ i → i + left ≡ base + size → i ≤ base + left
        → ((is_lt r ≡ true) × (to ≡ i)) ⊎ ((is_lt r ≡ false) × (to ≡ base)) → Halves f f'' xs to left
    halves_next to left up even le answer = elim answer [
      | inl y ↦ rw y.1 (halves_less i left (omega arith) (omega arith) (omega (arith, h.within)) y.0)
      | inr n ↦ rw n.1 (halves_not_less left le (omega (arith, h.within)) n.0)
    ]

-- a test, as an order
abbrev pub less_if : Bool → Ordering
less_if true = Less
less_if false = Greater

pub count_of_test : {X : Type 0} (p : X → Bool) (xs : List X) (n : ℕ) → IsLessCount (λ y. less_if (p y)) xs n
    → IsPartitionedBy p xs → IsPartitionPoint (λ y. p y ≡ true) (λ y. p y ≡ false) xs n
count_of_test p xs n count parted = grind arith

-- an answer by its number
is_lt_below : (a b : Ordering) → ordering_index a ≤ ordering_index b → is_lt b ≡ true → is_lt a ≡ true
is_lt_below Less b le lt = refl
is_lt_below Equal Less le lt = absurd (omega arith)
is_lt_below Greater Less le lt = absurd (omega arith)
is_lt_below a Equal le lt = absurd (true≢false (sym lt))
is_lt_below a Greater le lt = absurd (true≢false (sym lt))

less_of : (o : Ordering) → is_lt o ≡ true → o ≡ Less
less_of Less e = refl
less_of Equal e = absurd (true≢false (sym e))
less_of Greater e = absurd (true≢false (sym e))

pub equal_of : (o : Ordering) → is_eq o ≡ true → o ≡ Equal
equal_of Less e = absurd (true≢false (sym e))
equal_of Equal e = refl
equal_of Greater e = absurd (true≢false (sym e))

greater_of : (o : Ordering) → is_lt o ≡ false → is_eq o ≡ false → o ≡ Greater
greater_of Less lt eq = absurd (true≢false lt)
greater_of Equal lt eq = absurd (true≢false eq)
greater_of Greater lt eq = refl

greater_above : (a b : Ordering) → a ≡ Greater → ordering_index a ≤ ordering_index b → b ≡ Greater
greater_above a Less e le = absurd (omega (arith, ap ordering_index e))
greater_above a Equal e le = absurd (omega (arith, ap ordering_index e))
greater_above a Greater e le = refl

module _ {X : Type 0} (ord : X → Ordering) (xs : List X) where
  less_parted : IsNonDecreasingBy (λ y. ordering_index (ord y)) xs → IsPartitionedBy (λ y. is_lt (ord y)) xs
  less_parted rise i j d le lt passes = grind (arith, is_lt_below)

  all_less : (n : ℕ) → IsLessCount ord xs n → IsNonDecreasingBy (λ y. ordering_index (ord y)) xs
      → AllWithin (λ y. ord y ≡ Less) xs 0 n
  all_less n count rise k d low lt = less_of (ord (get_or xs k d)) ((count (less_parted rise)).0 k d low lt)

  pub first_found : (n : ℕ) → IsLessCount ord xs n → IsFirstFound ord xs (Ok n)
  first_found = all_less

  pub missed_at : (n : ℕ) → IsLessCount ord xs n → ((d : X) → n < length xs → is_eq (ord (get_or xs n d)) ≡ false)
      → IsBinarySearchResult ord xs (Err n)
  missed_at n count other rise = (
    all_less n count rise,
    λ k d le lt. greater_above (ord (get_or xs n d)) (ord (get_or xs k d))
        (greater_of (ord (get_or xs n d)) ((count (less_parted rise)).1 n d (omega arith) (omega arith))
        (other d (omega arith)))
        (rise n k d le lt),
  )

  pub found_at : (r : Result ℕ ℕ) → IsBinarySearchResult ord xs r → IfOk r (HoldsAt (λ y. ord y ≡ Equal) xs)
  found_at (Ok i) found = found
  found_at (Err i) missed = tt
