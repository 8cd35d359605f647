-- A run of a deque: it grows by one call at its end, and is a run of the machine with its costs.
use Rattle.std.proofs.{
  Common.{◌≡◌, ℕ, ◌≢◌, ◌+◌, ◌≤◌, List, [], ◌∷◌, ◌++◌, refl, ap, subst, arith},
  lemmas.List.Elements.{All-head, All-tail},
}
use Rattle.arraydeque.{
  proofs.CallCosts.{CallCosts, call_costs},
  specs.{
    Costs.{work_of, cost_of, RunCosts},
    declared.run.{Call.{Call, TheVariants.Linearize}, Reply.Reply},
    Deque.DequeState,
    Machine.{Answer, answer_of},
    Makes.Makes,
    Policy.Policy,
    Run.DequeRun,
  },
}

-- the work of one call, in the words of a run
work_of_call : {X : Type 0} (c : Call X) (a : Answer X) (old new : DequeState X) → CallCosts c a old new
    → (work_of new.steps ≤ work_of old.steps + cost_of c a old.items)
    × (c ≢ Linearize → work_of new.steps ≡ work_of old.steps + cost_of c a old.items)
work_of_call Linearize a old new costs = (costs, λ other. absurd (other refl))
work_of_call _ a old new costs = (omega (arith, costs), λ other. costs)

module _ {X B : Type 0} {n : ℕ} (p : Policy) (size : ℕ) where
  -- the run with one call more
  pub DequeRun-push : (c : Call X) (r : Reply X n B) (old mid new : DequeState X) (cs : List (Call X))
      (rs : List (Reply X n B))
      → DequeRun p size old cs rs mid → Makes p n size c r mid new
      → DequeRun p size old (cs ++ c ∷ []) (rs ++ r ∷ []) new
  DequeRun-push c r old mid new [] [] same made =
      (new, subst (λ (d : DequeState X). Makes p n size c r d new) same made, refl)
  DequeRun-push c r old mid new [] (r' ∷ rs) none made = absurd none
  DequeRun-push c r old mid new (c' ∷ cs) [] none made = absurd none
  DequeRun-push c r old mid new (c' ∷ cs) (r' ∷ rs) run made =
      (run.0, run.1, DequeRun-push c r run.0 mid new cs rs run.2 made)

  -- it is a run of the machine, and costs what that costs
  pub RunCosts-of : (old new : DequeState X) (cs : List (Call X)) (rs : List (Reply X n B))
      → DequeRun p size old cs rs new → RunCosts p old cs rs new
  RunCosts-of old new [] [] same =
      let work = ap (λ (d : DequeState X). work_of d.steps) same in
      record {
        run = grind arith;
        at_most = omega (arith, work);
        exactly = λ none. omega (arith, work);
      }
  RunCosts-of old new [] (r ∷ rs) none = absurd none
  RunCosts-of old new (c ∷ cs) [] none = absurd none
  RunCosts-of old new (c ∷ cs) (r ∷ rs) run =
      let later = RunCosts-of run.0 new cs rs run.2 in
      let call =
      work_of_call c (answer_of r) old run.0 (call_costs p n old run.0 c (answer_of r) run.1.list run.1.steps) in
      record {
        run = (run.0.items, run.1.list, later.run);
        at_most = omega (arith, later.at_most, call.0);
        exactly = λ none.
            let others = later.exactly (All-tail (λ call. call ≢ Linearize) c cs none) in
            omega (arith, others, call.1 (All-head (λ call. call ≢ Linearize) c cs none));
      }
