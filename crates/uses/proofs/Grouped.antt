-- The text of bytes that come in two parts.
use Rattle.std.proofs.Common.{◌≡◌, ℕ, List, [], ◌∷◌, ◌++◌, refl, ap}
use Rattle.uses.specs.Encoder.{four_of, text_of, left_of}

pub text_of-append : (xs ys : List ℕ) → text_of (xs ++ ys) ≡ text_of xs ++ text_of (left_of xs ++ ys)
text_of-append [] ys = refl
text_of-append (a ∷ []) ys = refl
text_of-append (a ∷ b ∷ []) ys = refl
text_of-append (a ∷ b ∷ c ∷ rest) ys = ap (λ l. four_of a b c ++ l) (text_of-append rest ys)

pub left_of-append : (xs ys : List ℕ) → left_of (xs ++ ys) ≡ left_of (left_of xs ++ ys)
left_of-append [] ys = refl
left_of-append (a ∷ []) ys = refl
left_of-append (a ∷ b ∷ []) ys = refl
left_of-append (a ∷ b ∷ c ∷ rest) ys = left_of-append rest ys
