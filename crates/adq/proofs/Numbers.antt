-- What `parse` reads, as a word spells it.
use Rattle.std.{
  proofs.{
    Common.{◌≡◌, ◌≢◌, ℕ, ℤ, pos, negsuc, neg_ℤ, ◌^◌, ◌<◌, ◌≤ℤ◌, ◌<ℤ◌, ◌==◌, List, drop, get_or},
    Common.{true, false, cond, Option, MatchOption, Result, Ok, Err, refl, subst, sym, arith},
    lemmas.{Int.ints, Str.Parse.{digit_at, without_leading_plus_none}},
  },
  specs.{
    Int.RustNames.FitsSigned,
    Result.result_ok,
    Str.Parse.{IsNumeral, digits_value, starts_with_minus, without_leading_plus},
    Str.Parse.{without_leading_sign, ParsesUnsigned, ParsesSigned},
  },
}
use mir.Syntax.{w64}
use Rattle.adq.specs.Line.{Token, Spells, index, value}

-- r is what the word spells under f, and nothing where it spells nothing
abbrev pub Reads : {X : Type 0} → (X → Token) → List ℕ → Option X → Type 0
Reads {X} f word o = MatchOption o ((x : X) → ¬ (Spells word (f x))) (λ x. Spells word (f x))

-- the numbers of 64 bits with a sign
bounded : (x : ℤ) → FitsSigned w64 x → (neg_ℤ (pos (2 ^ 63)) ≤ℤ x) × (x <ℤ pos (2 ^ 63))
bounded (pos n) f = let h : n < 2 ^ 63 = f.sfits in (omega (arith, ints), omega (arith, ints))
bounded (negsuc n) f = let h : n < 2 ^ 63 = f.sfits in (omega (arith, ints), omega (arith, ints))

pub fits : (x : ℤ) → neg_ℤ (pos (2 ^ 63)) ≤ℤ x → x <ℤ pos (2 ^ 63) → FitsSigned w64 x
fits (pos n) low high = record { sfits = omega (arith, ints) }
fits (negsuc n) low high = record { sfits = omega (arith, ints) }

-- a word without a plus is digits behind its minus
behind : (word : List ℕ) → get_or word 0 0 ≢ 43
    → without_leading_sign word ≡ drop (cond (starts_with_minus word) 1 0) word
behind word n =
    elim (starts_with_minus word) as (λ b. cond b (drop 1 word) (without_leading_plus word) ≡ drop (cond b 1 0) word) [
      | true ↦ refl
      | false ↦ without_leading_plus_none word n
    ]

pub index_read : {E : Type 0} (word : List ℕ) (r : Result ℕ E) → get_or word 0 0 ≢ 43 → ParsesUnsigned 64 10 word r
    → Reads index word (result_ok r)
index_read word (Ok i) n h =
    let p = subst (λ ds. (IsNumeral 10 ds × (digits_value 10 ds < 2 ^ 64)) × (i ≡ digits_value 10 ds))
    (without_leading_plus_none word n) h in
    (p.0.0, sym p.1, subst (λ m. m < 2 ^ 64) (sym p.1) p.0.1)
index_read word (Err e) n h = λ i s. h (subst (λ ds. IsNumeral 10 ds × (digits_value 10 ds < 2 ^ 64))
    (sym (without_leading_plus_none word n)) (s.0, subst (λ m. m < 2 ^ 64) (sym s.1) s.2))

pub value_read : {E : Type 0} (word : List ℕ) (r : Result ℤ E) → get_or word 0 0 ≢ 43 → ParsesSigned w64 10 word r
    → Reads value word (result_ok r)
value_read word (Ok x) n h =
    let p = bounded x (subst (FitsSigned w64) (sym h.1) h.0.1) in
    (subst (IsNumeral 10) (behind word n) h.0.0, sym h.1, p.0, p.1)
value_read word (Err e) n h =
    λ x s. h (subst (IsNumeral 10) (sym (behind word n)) s.0, subst (FitsSigned w64) (sym s.1) (fits x s.2 s.3))

-- one with a plus spells no number
plus_bad : (word : List ℕ) → get_or word 0 0 ≡ 43 → ¬ (IsNumeral 10 word)
plus_bad word e h = let digit = digit_at word 0 h.1 h.0 in absurd (omega (arith, digit.0, digit.1))

pub plus_no_index : (word : List ℕ) → get_or word 0 0 ≡ 43 → (i : ℕ) → ¬ (Spells word (index i))
plus_no_index word e i s = plus_bad word e s.0

pub plus_no_value : (word : List ℕ) → get_or word 0 0 ≡ 43 → (x : ℤ) → ¬ (Spells word (value x))
plus_no_value word e x s = plus_bad word e (subst (λ c. IsNumeral 10 (drop (cond (c == 45) 1 0) word)) e s.0)
