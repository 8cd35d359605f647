-- What a call makes of a deque says what it costs.
use Rattle.std.proofs.{
  Common.{◌≡◌, ℕ, Some, ◌+◌, ◌≤◌, List, refl, ap, arith},
  lemmas.{Bool.Decides.nat_tests, Option.slice_get_cases},
}
use Rattle.arraydeque.specs.{
  Costs.{work_of, cost_of},
  declared.run.{
    Call.{
      Call,
      TheVariants.{PushFront, PushBack, PopFront, PopBack, Insert, Remove, SwapRemoveBack},
      TheVariants.{SwapRemoveFront, Swap, Replace, Clear, Linearize, ExtendBack, ExtendFront},
      TheVariants.{Extend, Drain, SplitOff},
    },
  },
  Deque.DequeState,
  Machine.{Answer, Answers, done, item, displaced, drained, split},
  Makes.{StepsAre, pushed_back, pushed_front},
  Policy.{Policy, saturating, wrapping},
}

module _ {X : Type 0} where
  -- the call, so answered, made as many moves and exchanges as it costs, or fewer if it is a Linearize
  abbrev pub CallCosts : Call X → Answer X → DequeState X → DequeState X → Type 0
  CallCosts Linearize a old new = work_of new.steps ≤ work_of old.steps + cost_of Linearize a old.items
  CallCosts c a old new = work_of new.steps ≡ work_of old.steps + cost_of c a old.items

  -- pushes move and exchange nothing
  pushed_back-work : (p : Policy) (n : ℕ) (xs : List X) (old : DequeState X)
      → work_of (pushed_back p n xs old).steps ≡ work_of old.steps
  pushed_back-work saturating n xs old = refl
  pushed_back-work wrapping n xs old = grind (arith, nat_tests)

  pushed_front-work : (p : Policy) (n : ℕ) (xs : List X) (old : DequeState X)
      → work_of (pushed_front p n xs old).steps ≡ work_of old.steps
  pushed_front-work saturating n xs old = refl
  pushed_front-work wrapping n xs old = grind (arith, nat_tests)

module _ {X : Type 0} (p : Policy) (n : ℕ) (old new : DequeState X) where
  -- each call costs what its steps say
  pub call_costs : (c : Call X) (a : Answer X) → Answers p n old.items c a new.items → StepsAre p n c a old new.steps
      → CallCosts c a old new
  call_costs (PushFront x) (displaced (Some y)) list steps = grind (arith, nat_tests, ap work_of steps)
  call_costs (PushBack x) (displaced (Some y)) list steps = grind (arith, nat_tests, ap work_of steps)
  call_costs (Insert i x) done list steps = omega (arith, ap work_of steps)
  call_costs PopFront (item (Some x)) list steps = omega (arith, ap work_of steps)
  call_costs PopBack (item (Some x)) list steps = omega (arith, ap work_of steps)
  call_costs (Remove i) (item (Some x)) list steps = omega (arith, ap work_of steps)
  call_costs (SwapRemoveBack i) _ list steps =
      grind (arith, nat_tests, ap work_of steps, slice_get_cases old.items i, list.0)
  call_costs (SwapRemoveFront i) _ list steps =
      grind (arith, nat_tests, ap work_of steps, slice_get_cases old.items i, list.0)
  call_costs (Swap i j) _ list steps = grind (arith, nat_tests, ap work_of steps, list)
  call_costs (Replace i x) (item y) list steps = omega (arith, ap work_of steps)
  call_costs Clear done list steps = omega (arith, ap work_of steps)
  call_costs Linearize done list steps = grind (arith, nat_tests, ap work_of steps.3, steps.2)
  call_costs Linearize _ list steps = cc list.0
  call_costs (Drain from to) (drained xs) list steps = omega (arith, ap work_of steps)
  call_costs (SplitOff at) (split xs) list steps = omega (arith, ap work_of steps)
  call_costs (ExtendBack v) done list steps = omega (arith, ap work_of steps, pushed_back-work p n v.items old)
  call_costs (ExtendFront v) done list steps = omega (arith, ap work_of steps, pushed_front-work p n v.items old)
  call_costs (Extend v) done list steps = omega (arith, ap work_of steps, pushed_back-work p n v.items old)
  call_costs _ _ list steps = omega (arith, ap work_of steps)
