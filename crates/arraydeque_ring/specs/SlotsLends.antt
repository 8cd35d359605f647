-- What a `Slots` ends as, once a `&mut` into it has ended.
use Rattle.std.specs.{
  Borrow.{Fml, RattleType, MutBor, Array, Lends, LendsBoth, fsep, follows, follows_both},
  Prelude.{ℕ, List, [], ◌∷◌, slice_set, Some},
}
use Rattle.arraydeque_ring.specs.{
  contracts.slots.Slots.the_row,
  Loans.LoanState,
  Places.Region,
  Runs.{as_many, with_run},
  Steps.more_lends,
}
use denote.Struct.Tuple.{Tuple}

-- a pair of lists
abbrev pub two_lists : RattleType → RattleType
two_lists R = Tuple (Array R 0 ∷ Array R 0 ∷ [])

module _ (R : RattleType) (region : MutBor (Region R.Denot)) where
  module _ (place : ℕ) (r : MutBor R.Denot) where
    -- the place ends with the value last written through r, every other place as it was, and one
    -- lend is counted
    abbrev pub lends_place : Fml
    lends_place = Lends (the_row R) R region r (λ w. record {
      places = slice_set region.now.places place (Some w);
      steps = more_lends 1 region.now.steps;
    })

  module _ (from : ℕ) (r : MutBor (List R.Denot)) where
    -- the run from the place `from` on ends with the values last written through r, every other
    -- place as it was, and one lend is counted
    abbrev pub lends_run : Fml
    lends_run = Lends (the_row R) (Array R 0) region r (λ ws. record {
      places = with_run from (as_many r.now ws) region.now.places;
      steps = more_lends 1 region.now.steps;
    })

  module _ (a b : ℕ) where
    -- the region with ws instead of the values xs from the place a on, with vs instead of
    -- the values ys from the place b on, and with two lends counted
    abbrev pub two_written : (xs ys ws vs : List R.Denot) → Region R.Denot
    two_written xs ys ws vs = record {
      places = with_run b (as_many ys vs) (with_run a (as_many xs ws) region.now.places);
      steps = more_lends 2 region.now.steps;
    }

    -- two runs end with the values last written through r, every other place as it was, and two
    -- lends are counted
    abbrev pub lends_two_runs : MutBor (List R.Denot) × MutBor (List R.Denot) → Fml
    lends_two_runs r = LendsBoth (the_row R) (Array R 0) (Array R 0) region r
        (two_written r.0.now r.1.now)

    -- the region follows the name of a loan of two runs, and that name follows the two slices
    abbrev pub lends_loan : LoanState R.Denot → Fml
    lends_loan loan = fsep
        (follows (the_row R) (two_lists R) region.ghost_name loan.name
        (λ w. two_written loan.first.now loan.second.now w.0 w.1))
        (follows_both (two_lists R) (Array R 0) (Array R 0)
        loan.name loan.first.ghost_name loan.second.ghost_name (λ ws vs. (ws, vs)))
