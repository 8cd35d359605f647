use Rattle.std.proofs.Common.{arith, rules, ap, refl, sym, ℕ, ◌≡◌, ◌∙◌, List, [], ◌∷◌, length, get_or, map}
use Rattle.std.proofs.Common.{None, Err, Global, string_bytes}
use Rattle.adq.specs.{declared.fault.Fault.TheVariants.{Arguments}, Run.{IsOutcome, capacity_of, settings_of}}
use Rattle.adq.proofs.drive.run_with.Goals as goal

-- only two words name settings
not_two : {A : Type 0} (word : A → List ℕ) (args : List A) → (length args ≡ 2 → ⊥)
    → IsOutcome {A = Global} (settings_of (map word args)) [] (Err Arguments)
not_two word [] h = refl
not_two word (_ ∷ []) h = refl
not_two word (_ ∷ _ ∷ []) h = absurd (h refl)
not_two word (_ ∷ _ ∷ _ ∷ _) h = refl

-- and only if the second names a capacity
unnamed : {A : Type 0} (word : A → List ℕ) (args : List A) (second : A) (text : List ℕ)
    → second ≡ get_or args 1 second → text ≡ word second → capacity_of text ≡ None
    → IsOutcome {A = Global} (settings_of (map word args)) [] (Err Arguments)
unnamed word [] second text at is none = refl
unnamed word (_ ∷ []) second text at is none = refl
unnamed word (_ ∷ _ ∷ []) second text at is none = rw (ap capacity_of (sym (is ∙ ap word at)) ∙ none) refl
unnamed word (_ ∷ _ ∷ _ ∷ _) second text at is none = refl

pub returns-in_default-clause-run : goal.returns-in_default-clause-run
returns-in_default-clause-run g c =
    ([], Err Arguments, not_two _ c.args.args.now (λ e. omega arith), search rules, search rules)

pub returns-in_default-2-clause-run : goal.returns-in_default-2-clause-run
returns-in_default-2-clause-run g c =
    ([], Err Arguments, not_two _ c.args.args.now (λ e. omega arith), search rules, search rules)

pub returns-in_default-as_str-clause-run : goal.returns-in_default-as_str-clause-run
returns-in_default-as_str-clause-run g c = let none : capacity_of c.as_str.result.now ≡ None = search rules in (
  [],
  Err Arguments,
  unnamed string_bytes c.args.args.now _ _ c.capacity-item.is c.as_str.ensures.value none,
  search rules,
  search rules,
)
