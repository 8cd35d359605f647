-- What a run costs: the items that its calls move, and the pairs that they exchange.
use Rattle.std.specs.{
  Prelude.{◌≡◌, ℕ, ◌≢◌, ◌+◌, ◌≤◌, List, ◌∷◌, length, All, Some, not, ◌&&◌, ◌==◌, nat_lt},
  Prelude.if◌then◌else◌,
}
use Rattle.arraydeque_ring.specs.{
  Sides.{moves_to_insert, moves_to_remove, moves_to_drain},
  Steps.Steps,
}
use Rattle.arraydeque.specs.{
  declared.run.{
    Call.Call,
    Call.TheVariants.{Insert, Remove, SwapRemoveBack, SwapRemoveFront, Swap, Linearize, Drain},
    Reply.Reply,
  },
  Deque.DequeState,
  Machine.{Answer, done, item, drained, answer_of},
  Policy.Policy,
  Run.MachineRun,
}

-- the moves and exchanges of the steps, together
abbrev pub work_of : Steps → ℕ
work_of steps = steps.moves + steps.exchanges

module _ {X : Type 0} where
  -- how many items of the list l a call so answered moves: those on the side of the gap that has
  -- fewer; of a Linearize at most all, exchanges included
  abbrev pub moves_of : Call X → Answer X → List X → ℕ
  moves_of (Insert i x) done l = moves_to_insert i (length l)
  moves_of (Remove i) (item (Some x)) l = moves_to_remove i (length l)
  moves_of (Drain from to) (drained xs) l = moves_to_drain from to (length l)
  moves_of Linearize done l = length l
  moves_of _ _ l = 0

  -- how many pairs of the list l a call exchanges: one, if two of its items change places
  abbrev pub exchanges_of : Call X → List X → ℕ
  exchanges_of (Swap i j) l =
      if nat_lt i (length l) && (nat_lt j (length l) && not (i == j)) then 1 else 0
  exchanges_of (SwapRemoveBack i) l = if nat_lt (i + 1) (length l) then 1 else 0
  exchanges_of (SwapRemoveFront i) l = if nat_lt 0 i && nat_lt i (length l) then 1 else 0
  exchanges_of _ l = 0

  -- what a call so answered costs in all
  abbrev pub cost_of : Call X → Answer X → List X → ℕ
  cost_of call answer l = moves_of call answer l + exchanges_of call l

  -- the costs of a run's calls, each with its answer and the list before it, added up
  abbrev pub cost_of_run : {B : Type 0} {n : ℕ} (p : Policy) (l : List X) (calls : List (Call X))
      (replies : List (Reply X n B)) (last : List X) → MachineRun p l calls replies last → ℕ
  cost_of_run p l (c ∷ cs) (r ∷ rs) last run =
      cost_of c (answer_of r) l + cost_of_run p run.0 cs rs last run.2
  cost_of_run p l _ _ last run = 0

-- the calls are a run from the old deque's list to the new one's, and no more moves and exchanges
-- were made than it costs; just as many if none of the calls is a Linearize
pub record RunCosts {X B : Type 0} {n : ℕ} (p : Policy) (old : DequeState X)
    (calls : List (Call X)) (replies : List (Reply X n B)) (new : DequeState X) : Type 0 where
  pub run : MachineRun p old.items calls replies new.items
  pub at_most : work_of new.steps ≤
      work_of old.steps + cost_of_run p old.items calls replies new.items run
  pub exactly : All (λ call. call ≢ Linearize) calls → work_of new.steps ≡
      work_of old.steps + cost_of_run p old.items calls replies new.items run
