-- What is told of a call, from what is told of its operands.
use Rattle.std.{
  proofs.Common.{◌≡◌, ℕ, ℤ, List, [], ◌∷◌, Result, Ok, Err, IsErrAnd, inl, inr, refl, subst, sym},
  proofs.Common.◌∙◌,
  specs.List.AllZip,
}
use Rattle.arraydeque.specs.declared.run.Call.{Call}
use Rattle.adq.specs.{declared.fault.Fault.Fault, Line.{Spells, tokens_of, Tells}}

-- of one whose operands were not read
pub told : {X Y : Type 0} {P : X → Type 0} {Q : Y → Type 0} (number : ℕ) (fault : Fault) (r : Result Y Fault)
    → IsErrAnd r (λ f. f ≡ fault) → Tells number P (Err fault) → (((x : X) → ¬ (P x)) → (y : Y) → ¬ (Q y))
    → Tells number Q r
told number fault (Ok y) e h none = absurd e
told number fault (Err f) e (inl m) none = inl (e ∙ m)
told number fault (Err f) e (inr h) none = inr (e ∙ h.0, none h.1)

-- of one that has none
no_words : (words : List (List ℕ)) → AllZip Spells words [] → words ≡ []
no_words [] h = refl
no_words (word ∷ words) h = absurd h

pub alone : (call : Call ℤ) (name : List ℕ) (words : List (List ℕ)) (number : ℕ) (r : Result (Call ℤ) Fault)
    → AllZip Spells (name ∷ []) (tokens_of call) → ((other : Call ℤ) → AllZip Spells (name ∷ words) (tokens_of other)
    → AllZip Spells words []) → Tells number (λ made. (made ≡ call) × (words ≡ [])) r
    → Tells number (λ made. AllZip Spells (name ∷ words) (tokens_of made)) r
alone call name words number (Ok made) row only h = subst (λ c. AllZip Spells (name ∷ words) (tokens_of c)) (sym h.0)
    (subst (λ ws. AllZip Spells (name ∷ ws) (tokens_of call)) (sym h.1) row)
alone call name words number (Err fault) row only (inl m) = inl m
alone call name words number (Err fault) row only (inr h) =
    inr (h.0, λ other s. h.1 call (refl, no_words words (only other s)))
