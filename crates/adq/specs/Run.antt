-- What a run of the program prints, and why another prints nothing.
use Rattle.std.specs.{
  Global.Global,
  Io.{KnownBytes.{Appends, Keeps}, StartsWith},
  Map.lookup,
  Option.option_zip,
  Prelude.{◌≡◌, ℕ, ℤ, List, [], ◌∷◌, ◌++◌, Option, Some, None, Result, Ok, Err, String},
  Prelude.{string_bytes, codes, bytes_eq, ◌+◌, ⊤, IfSome},
}
use Rattle.arraydeque.specs.{declared.run.Call.Call, Machine.{Answer, Answers}, Policy.Policy}
use Rattle.adq.specs.{
  declared.fault.Fault.Fault,
  Line.{lines_of, LinesName, IsFirstBad},
  Text.{text_of, list_text, report_of},
}

-- the policy that a word names
abbrev pub policy_of : List ℕ → Option Policy
policy_of word = lookup (bytes_eq word)
    ((codes "sat", Policy.saturating) ∷ (codes "wrap", Policy.wrapping) ∷ [])

-- the capacity that a word names
abbrev pub capacity_of : List ℕ → Option ℕ
capacity_of word = lookup (bytes_eq word) ((codes "0", 0) ∷ (codes "1", 1) ∷ (codes "2", 2)
    ∷ (codes "3", 3) ∷ (codes "5", 5) ∷ (codes "7", 7) ∷ (codes "8", 8) ∷ [])

-- the capacity and the policy that the arguments name
abbrev pub settings_of : List (List ℕ) → Option (ℕ × Policy)
settings_of (policy ∷ capacity ∷ []) = option_zip (capacity_of capacity) (policy_of policy)
settings_of _ = None

-- the calls, made one after another from the list l, print their answers, and the last list
abbrev pub Prints : Policy → ℕ → List ℤ → List (Call ℤ) → List ℕ → Type 0
Prints p n l [] text = text ≡ codes "list: " ++ list_text l ++ 10 ∷ []
Prints p n l (call ∷ calls) text = (a : Answer ℤ) × (next : List ℤ) × (rest : List ℕ)
    × Answers p n l call a next × Prints p n next calls rest × (text ≡ text_of a ++ 10 ∷ rest)

-- what is printed, or why nothing is: the arguments are bad, this line is the first bad one,
-- memory was refused, or a stream failed
abbrev pub IsOutcome : {A : Type 0} → Option (ℕ × Policy) → List ℕ → Result (String A) Fault
    → Type 0
IsOutcome None text result = result ≡ Err Fault.Arguments
IsOutcome (Some s) text (Ok printed) = (calls : List (Call ℤ)) × LinesName (lines_of text) calls
    × Prints s.1 s.0 [] calls (string_bytes printed)
IsOutcome (Some s) text (Err Fault.Arguments) = ⊥
IsOutcome (Some s) text (Err (Fault.Line n)) = (k : ℕ) × (n ≡ k + 1) × IsFirstBad (lines_of text) k
IsOutcome (Some s) text (Err _) = ⊤

-- if anything is printed, or a line is blamed, all that the reader had is behind the old text
abbrev pub ReadsWhole : {A : Type 0} → Option (List ℕ) → List ℕ → List ℕ
    → Result (String A) Fault → Type 0
ReadsWhole known old new (Ok printed) = IfSome known (λ xs. new ≡ old ++ xs)
ReadsWhole known old new (Err (Fault.Line n)) = IfSome known (λ xs. new ≡ old ++ xs)
ReadsWhole known old new (Err _) = ⊤

-- all of the text was written; or a stream failed, and some beginning of the text was written
abbrev pub Writes : {X : Type 0} → Option (List ℕ) → Option (List ℕ) → List ℕ → Result X Fault
    → Type 0
Writes old new text (Ok done) = Appends old new text
Writes old new text (Err fault) = (fault ≡ Fault.Io)
    × ((front : List ℕ) × StartsWith text front × Appends old new front)

-- what is printed was written so; or nothing is printed, and for the same fault nothing was written
abbrev pub WritesOutcome : {A X : Type 0} → Option (List ℕ) → Option (List ℕ)
    → Result (String A) Fault → Result X Fault → Type 0
WritesOutcome old new (Ok printed) end = Writes old new (string_bytes printed) end
WritesOutcome old new (Err fault) end = (end ≡ Err fault) × Keeps old new

-- from the input's bytes to the output's: a text was read, what it prints was written
abbrev pub Drives : {X : Type 0} → Option (ℕ × Policy) → Option (List ℕ) → Option (List ℕ)
    → Option (List ℕ) → Result X Fault → Type 0
Drives settings input old new end = (text : List ℕ) × (outcome : Result (String Global) Fault)
    × IsOutcome settings text outcome × ReadsWhole input [] text outcome
    × WritesOutcome old new outcome end

-- the status of a run that a fault ends
abbrev pub status_of : Fault → ℕ
status_of Fault.Io = 1
status_of Fault.Arguments = 2
status_of (Fault.Line n) = 2
status_of Fault.Memory = 3

-- the status of a run; of a fault the report was written, or some beginning of it, and else nothing
abbrev pub Reports : {X : Type 0} → Result X Fault → ℕ → Option (List ℕ) → Option (List ℕ) → Type 0
Reports (Ok done) status old new = (status ≡ 0) × Keeps old new
Reports (Err fault) status old new = (status ≡ status_of fault)
    × ((told : Result ⊤ Fault) × Writes old new (report_of fault) told)
