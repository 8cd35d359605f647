-- What is taken of a source of items.
use Rattle.std.{
  proofs.{
    Common.{◌≡◌, ℕ, ◌<◌, ◌≤◌, List, length, take, Option, Bool, true, false, ◌++◌, refl, sym, subst, arith},
    iter.runs.{Lists.Yields-both, Made.{run, run_of_exit, took}},
    lemmas.List.{same_lists, length-take, get_or-take, take_all},
  },
  specs.Iterator.{Drains, Runs.{Run, ItemsAre, YieldsInOrder}},
}
use Rattle.arraydeque_ring.specs.Fills.{Fills, Ends}
use Rattle.arraydeque.specs.Sources.{IsReadOff, TakesFrom, TakesAll}

-- a run whose items are read off a list
module _ {S A : Type 0} {gives : S → Option A → S → Type 0} (run : Run gives) (xs : List A)
    (within : run.len ≤ length xs) where
  -- they are its first ones, as many as they are
  items_are : IsReadOff run xs → take run.len xs ≡ run.items
  items_are reads = grind (arith, same_lists, length-take, get_or-take)

  -- its first n, where there are fewer only at its end
  first_items : (n : ℕ) → run.len ≤ n → (run.len < n → run.whole ≡ true) → (run.whole ≡ true → run.len ≡ length xs)
      → IsReadOff run xs → run.items ≡ take n xs
  first_items n at_most fewer all reads = grind (arith, items_are, take_all)

  -- and all of it, if they are as many
  all_items : run.len ≡ length xs → IsReadOff run xs → run.items ≡ xs
  all_items many reads = grind (arith, items_are, take_all)

-- of a source whose iterator shows the list xs
module _ {Source S A : Type 0} (becomes : Source → S → Type 0) (gives : S → Option A → S → Type 0) (source : Source)
    (xs : List A) (shown : S → List A) where
  abbrev Shows : Type 0
  Shows = (it : S) → becomes source it → (shown it ≡ xs) × YieldsInOrder gives shown

  reads : Shows → (it : S) (run : Run gives) → becomes source it → run.from ≡ it → ItemsAre run xs
  reads shows it run became from = grind arith

module _ {Source S A : Type 0} {becomes : Source → S → Type 0} {gives : S → Option A → S → Type 0} {source : Source}
    {P : List A → Type 0} where
  -- its first n items
  pub TakesFrom-list : {n : ℕ} (xs : List A) (shown : S → List A) → TakesFrom becomes gives source n P
      → Shows becomes gives source xs shown → P (take n xs)
  TakesFrom-list {n} xs shown took shows =
      let are = reads becomes gives source xs shown shows took.iterator took.run took.became took.from_it in
      subst P (first_items took.run xs are.0 n took.at_most took.or_all are.1 are.2) took.holds

  -- and all of them
  pub TakesAll-list : (xs : List A) (shown : S → List A) → TakesAll becomes gives source P
      → Shows becomes gives source xs shown → P xs
  TakesAll-list xs shown took shows = grind arith

  -- what std's `Extend` says of an iterator that came to its end
  pub TakesAll-drains : TakesAll becomes gives source P
      → (it : S) × (xs : List A) × becomes source it × P xs × Drains gives it xs
  TakesAll-drains all = let ran = took all.run in grind arith

  module _ (s : S) (became : becomes source s) where
    -- by what takes all
    pub TakesAll-ends : (xs : List A) → Drains gives s xs → P xs → TakesAll becomes gives source P
    TakesAll-ends xs drains holds =
        let last = drains.1 in
        let ran = run_of_exit gives s xs last.0 last.1 drains.0 last.2 in
        record {
          iterator = s;
          became = became;
          run = ran.0;
          from_it = ran.1;
          to_end = ran.2;
          holds = subst P (sym ran.3.0) holds;
          same = λ xs many reads. all_items ran.0 xs (omega arith) many reads;
        }

    -- by a fill, and by what takes all that it left
    module _ {t : S} {n : ℕ} {ended : Bool} {Q : List A → Type 0} (filled : Fills gives s t n ended Q) where
      pub TakesFrom-fills : ((xs : List A) → Q xs → P xs) → TakesFrom becomes gives source n P
      TakesFrom-fills holds =
          let ran = run gives s filled.items ended (filled.last, filled.yielded, λ none. (t, filled.none none)) in
          let or_all : length filled.items < n → ended ≡ true = grind arith in
          record {
            iterator = s;
            became = became;
            run = ran;
            from_it = refl;
            at_most = filled.at_most;
            or_all = or_all;
            holds = holds filled.items filled.holds;
            first = λ xs within reads all. first_items ran xs within n filled.at_most or_all all reads;
            same = λ xs many reads. all_items ran xs (omega arith) many reads;
          }

      pub TakesAll-fills : ended ≡ true → P filled.items → TakesAll becomes gives source P
      TakesAll-fills none holds = TakesAll-ends filled.items (t, (filled.last, filled.yielded, filled.none none)) holds

      pub TakesAll-both : ended ≡ false → {R : List A → Type 0} (left : Ends gives t R) → P (filled.items ++ left.items)
          → TakesAll becomes gives source P
      TakesAll-both some left holds = grind (arith, Yields-both, TakesAll-ends)
