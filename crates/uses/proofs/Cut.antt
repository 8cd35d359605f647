-- Where a token ends, and that no two tokens side by side could be one.
use Rattle.std.{
  proofs.{
    Common.{◌≡◌, ℕ, ◌+◌, ◌-◌, ◌<◌, List, [], ◌∷◌, ◌++◌, length, get_or, All, Option, Some, None},
    Common.{IfSome, inl, inr, sym, ◌∙◌, arith},
    lemmas.{Bool.cases_lt, List.{get_or_append_left, length-append}},
    Math.Seq.get_or-append_seam,
  },
  specs.List.AllAdjacentBelow,
}
use Rattle.uses.specs.{
  declared.tokens.{Kind.{Kind, TheVariants.Sign}, Token.Token},
  Tokens.{kind_of, joined, IsOfOneKind, IsOver, AreLongest},
}

pub some_weaker : {X : Type 0} {P Q : X → Type 0} (o : Option X) → IfSome o P → ((x : X) → P x → Q x) → IfSome o Q
some_weaker None holds weaker = tt
some_weaker (Some x) holds weaker = weaker x holds

pub adjacent_push : {X : Type 0} (R : X → X → Type 0) (xs : List X) (x : X) → AllAdjacentBelow R xs (length xs)
    → ((d : X) → 0 < length xs → R (get_or xs (length xs - 1) d) x)
    → AllAdjacentBelow R (xs ++ x ∷ []) (length (xs ++ x ∷ []))
adjacent_push R xs x each last k d within =
    let many = length-append xs (x ∷ []) in
    elim (cases_lt (k + 1) (length xs)) [
      | inl inside ↦ rw
          (get_or_append_left xs (x ∷ []) d k (omega (arith, inside)), get_or_append_left xs (x ∷ []) d (k + 1) inside)
          (each k d inside)
      | inr past ↦
          let end : k + 1 ≡ length xs = omega (arith, many, within, past) in
          let here : k ≡ length xs - 1 = omega (arith, end) in
          rw (get_or_append_left xs (x ∷ []) d k (omega (arith, end)), end, get_or-append_seam xs x [] d, here)
          (last d (omega (arith, end)))
    ]

pub last_push : {X : Type 0} (xs : List X) (x d : X) → get_or (xs ++ x ∷ []) (length (xs ++ x ∷ []) - 1) d ≡ x
last_push xs x d =
    let end : length (xs ++ x ∷ []) - 1 ≡ length xs = omega (arith, length-append xs (x ∷ [])) in
    rw end (get_or-append_seam xs x [] d)

over_text : (kind own : Kind) (text rest : List ℕ) → 0 < length text → All (λ byte. kind_of byte ≡ own) text
    → IsOver kind ((text ++ []) ++ rest) → kind ≡ own → kind ≡ Sign
over_text kind own [] rest some each over same = absurd (omega (arith, some))
over_text kind own (b ∷ bs) rest some each over same = over (each 0 b (omega arith) ∙ sym same)

-- the tokens before a rest: no two could be one, and the last could be no longer
abbrev pub AreCut : List Token → List ℕ → Type 0
AreCut tokens rest =
    AreLongest tokens × ((d : Token) → 0 < length tokens → IsOver (get_or tokens (length tokens - 1) d).kind rest)

pub AreCut-push : (tokens : List Token) (token : Token) (rest : List ℕ) → AreCut tokens (joined (token ∷ []) ++ rest)
    → IsOfOneKind token → IsOver token.kind rest → AreCut (tokens ++ token ∷ []) rest
AreCut-push tokens token rest cut one_kind over = (
  adjacent_push (λ a b. a.kind ≡ b.kind → a.kind ≡ Sign) tokens token cut.0 (λ d some same. over_text (get_or tokens
      (length tokens - 1) d).kind token.kind token.text.items rest one_kind.0 one_kind.1 (cut.1 d some) same),
  λ d some. rw (last_push tokens token d) over,
)
