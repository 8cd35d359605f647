-- What the tokens of an input are.
use Rattle.std.specs.{
  Char.{is_ascii_alphabetic, is_ascii_digit},
  List.{flat_map, AllAdjacentBelow},
  Prelude.{◌≡◌, ◌<◌, ℕ, List, length, slice_get, All, IfSome, if◌then◌else◌},
}
use Rattle.uses.specs.declared.tokens.{
  Kind.{Kind, TheVariants.{Letters, Digits, Sign}},
  Token.Token,
}

-- what kind of token a byte stands in
abbrev pub kind_of : ℕ → Kind
kind_of byte =
    if is_ascii_alphabetic byte then Letters
    else (if is_ascii_digit byte then Digits
    else Sign)

-- the texts of tokens, one after the other
abbrev pub joined : List Token → List ℕ
joined tokens = flat_map (λ token. token.text.items) tokens

-- the token has bytes, each of its kind
abbrev pub IsOfOneKind : Token → Type 0
IsOfOneKind token = (0 < length token.text.items)
    × All (λ byte. kind_of byte ≡ token.kind) token.text.items

-- the token has one byte if it is a sign
abbrev pub IsOneByteIfSign : Token → Type 0
IsOneByteIfSign token = token.kind ≡ Sign → length token.text.items ≡ 1

-- no byte of that kind comes next, or each such byte is a token of its own
abbrev pub IsOver : Kind → List ℕ → Type 0
IsOver kind rest = IfSome (slice_get rest 0) (λ byte. kind_of byte ≡ kind → kind ≡ Sign)

-- no two tokens could be one: those side by side are of different kinds, or signs
abbrev pub AreLongest : List Token → Type 0
AreLongest tokens = AllAdjacentBelow
    (λ token next. token.kind ≡ next.kind → token.kind ≡ Sign) tokens (length tokens)
