-- A run over a list of calls: one reply a call, in order.
use Rattle.std.specs.Prelude.{◌≡◌, ℕ, List, [], ◌∷◌}
use Rattle.arraydeque.specs.{
  declared.run.{Call.Call, Reply.Reply},
  Deque.DequeState,
  Machine.{Answers, answer_of},
  Makes.Makes,
  Policy.Policy,
}

module _ {X B : Type 0} {n : ℕ} (p : Policy) where
  -- the calls, made one after another from the list l, are answered by the replies and leave the
  -- last list
  abbrev pub MachineRun : List X → List (Call X) → List (Reply X n B) → List X → Type 0
  MachineRun l [] [] last = last ≡ l
  MachineRun l [] (r ∷ rs) last = ⊥
  MachineRun l (c ∷ cs) [] last = ⊥
  MachineRun l (c ∷ cs) (r ∷ rs) last =
      (next : List X) × Answers p n l c (answer_of r) next × MachineRun next cs rs last

  -- the calls, made one after another from the old deque, are answered by the replies and leave the
  -- new deque, and each makes of the deque before it the one after it; an item takes `size` bytes
  abbrev pub DequeRun : ℕ → DequeState X → List (Call X) → List (Reply X n B) → DequeState X
      → Type 0
  DequeRun size old [] [] new = new ≡ old
  DequeRun size old [] (r ∷ rs) new = ⊥
  DequeRun size old (c ∷ cs) [] new = ⊥
  DequeRun size old (c ∷ cs) (r ∷ rs) new =
      (next : DequeState X) × Makes p n size c r old next × DequeRun size next cs rs new
