-- What an encoder has, and the text of bytes.
use Rattle.std.specs.Prelude.{ℕ, ◌+◌, ◌*◌, ◌/◌, ◌%◌, List, [], ◌∷◌, ◌++◌}

-- the characters that wait to be read, and the bytes that wait for a third one
pub record Encoding : Type 0 where
  pub text : List ℕ
  pub group : List ℕ

-- the characters of three bytes: the next six bits each, above the space
abbrev pub four_of : ℕ → ℕ → ℕ → List ℕ
four_of a b c = (a / 4 + 32) ∷ (a % 4 * 16 + b / 16 + 32) ∷ (b % 16 * 4 + c / 64 + 32)
    ∷ (c % 64 + 32) ∷ []

-- the text of bytes, three by three
abbrev pub text_of : List ℕ → List ℕ
text_of [] = []
text_of (a ∷ []) = []
text_of (a ∷ b ∷ []) = []
text_of (a ∷ b ∷ c ∷ rest) = four_of a b c ++ text_of rest

-- the last bytes, fewer than three, which have no text yet
abbrev pub left_of : List ℕ → List ℕ
left_of [] = []
left_of (a ∷ []) = a ∷ []
left_of (a ∷ b ∷ []) = a ∷ b ∷ []
left_of (a ∷ b ∷ c ∷ rest) = left_of rest
