-- That no two runs of edits side by side could be one.
use Rattle.std.proofs.{
  Common.{◌≡◌, ◌≢◌, ℕ, ◌-◌, ◌<◌, ◌≤◌, zero, suc, List, [], ◌∷◌, ◌++◌, length, get_or, replicate, slice_get, Option},
  Common.{None, Some, IfSome, sym, inl, inr, arith},
  lemmas.Bool.cases_lt,
}
use Rattle.uses.{
  proofs.Cut.{adjacent_push, last_push, some_weaker},
  specs.{declared.edits.{Edit.Edit, Run.Run}, Edits.{written_out, AreMerged}},
}

-- the edit that comes next, if one does, is of another kind than the run, or the run has n edits
abbrev pub IsFull : ℕ → Run → List Edit → Type 0
IsFull n run rest = IfSome (slice_get rest 0) (λ edit. run.edit ≡ edit → run.count ≡ n)

-- the runs before a rest: no two could be one, and the last could be no longer
abbrev pub AreMergedBefore : ℕ → List Run → List Edit → Type 0
AreMergedBefore n runs rest =
    AreMerged n runs × ((d : Run) → 0 < length runs → IsFull n (get_or runs (length runs - 1) d) rest)

first_of : (count : ℕ) (edit : Edit) (rest : List Edit) (P : Edit → Type 0) → 0 < count
    → IfSome (slice_get ((replicate count edit ++ []) ++ rest) 0) P → P edit
first_of zero edit rest P some holds = absurd (omega arith)
first_of (suc count) edit rest P some holds = holds

always : {X : Type 0} {P : X → Type 0} (o : Option X) → ((x : X) → P x) → IfSome o P
always None each = tt
always (Some x) each = each x

-- a run that ends where another kind begins, or has n edits
pub full-by : (n : ℕ) (run : Run) (rest : List Edit) → run.count ≤ n
    → (run.count < n → IfSome (slice_get rest 0) (λ edit. edit ≢ run.edit)) → IsFull n run rest
full-by n run rest within other = elim (cases_lt run.count n) [
  | inl less ↦ some_weaker (slice_get rest 0) (other less) (λ edit differs same. absurd (differs (sym same)))
  | inr full ↦ always (slice_get rest 0) (λ edit same. omega arith)
]

pub AreMergedBefore-push : (n : ℕ) (runs : List Run) (run : Run) (rest : List Edit)
    → AreMergedBefore n runs (written_out (run ∷ []) ++ rest) → 0 < run.count → IsFull n run rest
    → AreMergedBefore n (runs ++ run ∷ []) rest
AreMergedBefore-push n runs run rest was some full = (
  adjacent_push (λ a b. a.edit ≡ b.edit → a.count ≡ n) runs run was.0
      (λ d there. first_of run.count run.edit rest _ some (was.1 d there)),
  λ d there. rw (last_push runs run d) full,
)
