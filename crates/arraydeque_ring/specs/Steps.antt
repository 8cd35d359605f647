-- The steps that a region has made: five counts of what was done to its values, and one of how
-- often a place was read or written. They cost nothing at run time.
use Rattle.std.specs.Prelude.{◌≡◌, ℕ, ◌+◌, ◌*◌, ◌≤◌}

pub record Steps : Type 0 where
  pub puts : ℕ
  pub takes : ℕ
  pub moves : ℕ
  pub exchanges : ℕ
  pub lends : ℕ
  pub transfers : ℕ

abbrev pub no_steps : Steps
no_steps = record { puts = 0; takes = 0; moves = 0; exchanges = 0; lends = 0; transfers = 0 }

-- places were read or written n times more
abbrev pub more_transfers : ℕ → Steps → Steps
more_transfers n s = record s { transfers = s.transfers + n }

-- n values more were put into places, by a write each
abbrev pub more_puts : ℕ → Steps → Steps
more_puts n s = record s { puts = s.puts + n; transfers = s.transfers + n }

-- n values more were taken out of places, by a read each
abbrev pub more_takes : ℕ → Steps → Steps
more_takes n s = record s { takes = s.takes + n; transfers = s.transfers + n }

-- n values more were moved from a place to another, by a read and a write each
abbrev pub more_moves : ℕ → Steps → Steps
more_moves n s = record s { moves = s.moves + n; transfers = s.transfers + 2 * n }

-- n pairs of values more were exchanged, by two reads and two writes each
abbrev pub more_exchanges : ℕ → Steps → Steps
more_exchanges n s = record s { exchanges = s.exchanges + n; transfers = s.transfers + 4 * n }

-- values were lent for writing n times more, which reads and writes no place
abbrev pub more_lends : ℕ → Steps → Steps
more_lends n s = record s { lends = s.lends + n }

-- n moves and exchanges more at most, taken together, and no other step
abbrev pub Rearranges : ℕ → Steps → Steps → Type 0
Rearranges n old new =
    (m : ℕ) × (e : ℕ) × (m + e ≤ n) × (new ≡ more_moves m (more_exchanges e old))
