-- The end of a run.
use Rattle.std.proofs.{
  Common.{◌≡◌, ◌∙◌, ℕ, ℤ, List, [], ◌∷◌, ◌++◌, flat_map, codes, ap, append_assoc, refl, Some},
  Common.{Result, Ok, Err, IfOk, IfErr, IfSome, Option, String, string_bytes, Global, sym, subst},
}
use Rattle.arraydeque.specs.{
  declared.run.{Call.Call, Reply.Reply},
  Machine.answer_of,
  Policy.Policy,
  Run.MachineRun,
}
use Rattle.adq.specs.{
  declared.fault.Fault.{Fault, TheVariants.Memory},
  Line.{lines_of, LinesName},
  Run.{IsOutcome, Prints, ReadsWhole},
  Text.{list_text, text_of},
}

-- the text of replies, line by line, and of the last list
abbrev output_of : {B : Type 0} {n : ℕ} → List (Reply ℤ n B) → List ℤ → List ℕ
output_of replies last =
    flat_map (λ reply. text_of (answer_of reply) ++ 10 ∷ []) replies ++ codes "list: " ++ list_text last ++ 10 ∷ []

-- what a run answers, printed line by line
printed : {B : Type 0} (p : Policy) (n : ℕ) (l : List ℤ) (calls : List (Call ℤ)) (replies : List (Reply ℤ n B))
    (last : List ℤ) (text : List ℕ) → MachineRun p l calls replies last → text ≡ output_of replies last
    → Prints p n l calls text
printed p n l [] [] last text run e = e ∙ ap (λ l. codes "list: " ++ list_text l ++ 10 ∷ []) run
printed p n l [] (r ∷ replies) last text run e = absurd run
printed p n l (call ∷ calls) [] last text run e = absurd run
printed p n l (call ∷ calls) (r ∷ replies) last text (next, answers, run) e =
    let rest = output_of replies last in
    (answer_of r, next, rest, answers, printed p n next calls replies last rest run refl, e ∙ simp append_assoc)

-- where the calls were run, only the printing is left
pub ended : {B : Type 0} (p : Policy) (n : ℕ) (read text : List ℕ) (calls : List (Call ℤ))
    (replies : List (Reply ℤ n B)) (first last : List ℤ) (r : Result (String Global) Fault)
    → read ≡ text → LinesName (lines_of read) calls → first ≡ [] → MachineRun p first calls replies last
    → IfOk r (λ t. string_bytes t ≡ output_of replies last) → IfErr r (λ fault. fault ≡ Memory)
    → IsOutcome (Some (n, p)) text r
ended p n read text calls replies first last (Ok t) same named none run text_is e = (
  calls,
  subst (λ t. LinesName (lines_of t) calls) same named,
  printed p n [] calls replies last (string_bytes t) (subst (λ l. MachineRun p l calls replies last) none run) text_is,
)
ended p n read text calls replies first last (Err fault) same named none run printed e =
    subst (λ f. IsOutcome {A = Global} (Some (n, p)) text (Err f)) (sym e) tt

-- where all was read, whatever the run ends with
pub read_whole : (known : Option (List ℕ)) (old new : List ℕ) (r : Result (String Global) Fault)
    → IfSome known (λ xs. new ≡ old ++ xs) → ReadsWhole known old new r
read_whole known old new (Ok printed) h = h
read_whole known old new (Err (Fault.Line n)) h = h
read_whole known old new (Err Fault.Arguments) h = tt
read_whole known old new (Err Fault.Memory) h = tt
read_whole known old new (Err Fault.Io) h = tt
