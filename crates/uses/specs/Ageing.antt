-- What is left of entries once time has gone by.
use Rattle.std.specs.{List.filter, Prelude.{◌-◌, ℕ, List, Bool, map, nat_lt}}
use Rattle.uses.specs.declared.ageing.Entry.{Entry}

-- whether an entry has more time left than goes by
abbrev pub lasts : {T : Type 0} → ℕ → Entry T → Bool
lasts elapsed entry = nat_lt elapsed entry.left

-- an entry with so much less time left
abbrev pub older : {T : Type 0} → ℕ → Entry T → Entry T
older elapsed entry = record entry { left = entry.left - elapsed }

-- the entries that last, each so much older
abbrev pub aged : {T : Type 0} → ℕ → List (Entry T) → List (Entry T)
aged elapsed entries = map (older elapsed) (filter (lasts elapsed) entries)
