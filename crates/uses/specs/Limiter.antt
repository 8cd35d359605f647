-- What a limiter knows of the requests that it admitted.
use Rattle.std.specs.{List.filter, Prelude.{◌-◌, ℕ, List, nat_lt}}

-- how long a request counts, and when the last ones were admitted, oldest first
pub record Admitted : Type 0 where
  pub span : ℕ
  pub times : List ℕ

-- the times within the span before now
abbrev pub recent : ℕ → ℕ → List ℕ → List ℕ
recent span now times = filter (λ time. nat_lt (now - time) span) times
