-- The last items of a list.
use Rattle.std.{
  proofs.{
    Common.{◌≡◌, ℕ, ◌+◌, ◌-◌, ◌≤◌, List, [], ◌∷◌, ◌<◌, ◌++◌, length, take, drop, map, min, inl},
    Common.{inr, ap, ◌∙◌, arith, get_or, ◌⊎◌},
    lemmas.{
      Bool.cases_lt,
      List.{length-append, length-drop, length-map, drop-append-le, drop-drop, drop-map, drop_all},
      List.{drop_min, take_all, get_or-drop, get_or_append_left, get_or_push},
      List.Elements.{All-push, All-drop, All-same},
    },
    Math.Seq.drop-append-add,
  },
  specs.Prelude.All,
}
use Rattle.arraydeque_ring.{proofs.places.Appended.up_by-both, specs.Ring.up_by}
use Rattle.arraydeque.specs.Deque.{keep_last}

-- all of a list that is short enough
pub keep_last-all : {X : Type 0} (n : ℕ) (xs : List X) → length xs ≤ n → keep_last n xs ≡ xs
keep_last-all n xs short = grind arith

-- to keep the last n, to add items and to keep the last n again is to add them and to keep the last n
pub keep_last-append : {X : Type 0} (n : ℕ) (xs ys : List X)
    → keep_last n (keep_last n xs ++ ys) ≡ keep_last n (xs ++ ys)
keep_last-append n xs ys =
    let first = length xs - n in let then = length (keep_last n xs ++ ys) - n in grind
    (arith, length-append, length-drop, drop-append-le first xs ys, drop-drop then first (xs ++ ys))

-- where there are n already, one more comes behind them, and their first goes
pub keep_last-full : {X : Type 0} (n : ℕ) (xs : List X) (y : X) → 0 < n → n ≤ length xs →
    keep_last n (xs ++ y ∷ []) ≡ drop 1 (keep_last n xs) ++ y ∷ []
keep_last-full n xs y some full = grind (
  arith,
  length-append xs (y ∷ []),
  drop-drop 1 (length xs - n) xs,
  drop-append-le (length xs - n + 1) xs (y ∷ []),
)

-- of each of the last n items a function's value, as the last n of those of all
pub keep_last-map : {X Y : Type 0} (n : ℕ) (f : X → Y) (xs : List X)
    → keep_last n (map f xs) ≡ map f (keep_last n xs)
keep_last-map n f xs = rw (length-map xs f) (drop-map f (length xs - n) xs)

-- what becomes of the last items, one extend or push after another
pub ruleset keep_last_rules = (keep_last-all, keep_last-append, keep_last-full, keep_last-map)

-- what holds of all items and of a pushed one holds of all that are kept
pub All-kept : {X : Type 0} (P : X → Type 0) (n : ℕ) (old new : List X) (x : X) → new ≡ keep_last n (old ++ x ∷ [])
    → All P old → P x → All P new
All-kept P n old new x is all this =
    let both = All-push P old x all this in
    All-same P new (keep_last n (old ++ x ∷ [])) is (All-drop P (length (old ++ x ∷ []) - n) (old ++ x ∷ []) both)

-- one that is kept is an old item or the pushed one, which the search reads an `All` by
pub kept_item : {X : Type 0} (m : ℕ) (xs : List X) (x : X) (k : ℕ) (d : X) → k < length (drop m (xs ++ x ∷ [])) →
    let item = get_or (drop m (xs ++ x ∷ [])) k d in
    (item ≡ x) ⊎ ((m + k < length xs) × (item ≡ get_or xs (m + k) d))
kept_item m xs x k d within = elim (cases_lt (m + k) (length xs)) [
  | inl old ↦ grind (arith, get_or-drop m (xs ++ x ∷ []) k d, get_or_append_left xs (x ∷ []) d (m + k))
  | inr next ↦ grind (
    arith,
    get_or-drop m (xs ++ x ∷ []) k d,
    get_or_push xs x d (m + k),
    length-drop m (xs ++ x ∷ []),
    length-append xs (x ∷ []),
  )
]

-- that a push which may take the first item out keeps what holds of all items
pub ruleset kept_rules = (kept_item)

-- what is dropped of two lists is dropped of the first, and the rest of the second
drop-append : {X : Type 0} (k : ℕ) (xs ys : List X) → drop k (xs ++ ys) ≡ drop k xs ++ drop (k - length xs) ys
drop-append k xs ys = elim (cases_lt (length xs) k) [
  | inl lt ↦ grind (arith, drop-append-add xs ys (k - length xs), drop_all k xs)
  | inr le ↦ grind (arith, drop-append-le k xs ys)
]

-- the last n of two lists: as many of the second as may be, and of the first as many as there is
-- room for beside them
pub keep_last_joined : {X : Type 0} (n : ℕ) (xs ys : List X) (len : ℕ) → len ≡ min (length ys) n →
    keep_last (n - len) xs ++ take len (keep_last len ys) ≡ keep_last n (xs ++ ys)
keep_last_joined n xs ys len many =
    let total = length (xs ++ ys) - n in
    grind (
      arith,
      length-append xs ys,
      length-drop (length ys - len) ys,
      drop_min total xs,
      drop-append total xs ys,
      take_all len (keep_last len ys),
    )

-- to go up past all but k of some items and then past these is to go up past all
pub up_by_all : (all k t n : ℕ) → k ≤ all → up_by k (up_by (all - k) t n) n ≡ up_by all t n
up_by_all all k t n within =
    let same : (all - k) + k ≡ all = omega arith in up_by-both (all - k) k t n ∙ ap (λ m. up_by m t n) same

-- what the last items of two lists are, and where the ring starts that they are left in
pub ruleset append_rules = (keep_last_joined, up_by_all)
