-- The words of a text: what taking the first one off it leaves.
use Rattle.std.{
  proofs.{
    Common.{◌≡◌, ◌≢◌, ℕ, ◌<◌, List, [], ◌∷◌, length, get_or, filter, nat_lt, eqb, Option, Some},
    Common.{None, unwrap_or, Bor, ap, sym, ◌∙◌, lit<, arith},
    lemmas.{
      Bool.Decides.nat_tests,
      Grind.common_steps,
      List.{nil_from_length, Splits.{slice_split_first, slice_split_none}, Sums.fails_before_first},
      Str.Pattern.{drop_at_char, split_once_first, IsSplitOnceResult},
    },
  },
  specs.{
    List.{position_or_len, before_first, after_first},
    Str.Pattern.{FindsCharPrefix, CutsPrefixes, IsFullyTrimmed},
  },
}
use lib.Utf8.{encode}
use Rattle.adq.specs.Line.{words_of}

-- cutting spaces off the front of a text changes none of its words
pub words_of-cut : (s : List ℕ) (ns : List ℕ) (r : List ℕ) → CutsPrefixes (FindsCharPrefix 32) s ns r
    → words_of s ≡ words_of r
words_of-cut s [] r e = ap words_of (sym e)
words_of-cut s (n ∷ ns) r w = words_of-cut s ns w.0 w.1 ∙ ap words_of (drop_at_char 32 w.0 0 n w.2 (lit< tt))
    ∙ ap words_of (sym w.3)

-- what is fully trimmed begins with no space
pub trimmed : (r : List ℕ) → IsFullyTrimmed (FindsCharPrefix 32) r → get_or r 0 0 ≢ 32
unfolding encode
trimmed [] w = λ e. absurd (omega arith)
trimmed (x ∷ xs) (None, f, t) = λ e. f xs (ap (λ y. y ∷ xs) e)
trimmed (x ∷ xs) (Some n, h, z) = λ e. absurd (omega (arith, h.ends, z))

-- where it begins with none, something stands before the first space
some_before : (text : List ℕ) → 0 < length text → get_or text 0 0 ≢ 32 → 0 < position_or_len (λ b. eqb b 32) text
some_before [] h first = absurd (omega arith)
some_before (x ∷ xs) h first = grind (arith, nat_tests)

-- a text that doesn't begin with a space has its first word up to the next one
words_of-first : (text : List ℕ) → position_or_len (λ b. eqb b 32) text < length text → get_or text 0 0 ≢ 32
    → words_of text ≡ before_first (λ b. eqb b 32) text ∷ words_of (after_first (λ b. eqb b 32) text)
words_of-first text h first =
    ap (filter (λ word. nat_lt 0 (length word))) (slice_split_first (λ b. eqb b 32) text 0 h) ∙
    (let k = some_before text (omega arith) first in grind (arith, nat_tests, common_steps))

-- and is one word where there is none
words_of-last : (text : List ℕ) → position_or_len (λ b. eqb b 32) text ≡ length text → 0 < length text
    → words_of text ≡ text ∷ []
words_of-last text h some = ap (filter (λ word. nat_lt 0 (length word))) (slice_split_none (λ b. eqb b 32) text
    (λ k d l. fails_before_first (λ b. eqb b 32) text k d (omega arith))) ∙ grind (arith, nat_tests)

-- the first word of a text that doesn't begin with a space, and what is left
pub first_word : (text : List ℕ) (o : Option (Bor (List ℕ) × Bor (List ℕ))) (p d : Bor (List ℕ) × Bor (List ℕ))
    → p ≡ unwrap_or o d → d.0.now ≡ text → d.1.now ≡ [] → get_or text 0 0 ≢ 32 → IsSplitOnceResult 32 text o →
    (length p.0.now ≡ 0 → words_of text ≡ []) × (0 < length p.0.now → words_of text ≡ p.0.now ∷ words_of p.1.now)
first_word text None p d e same empty first split =
    let h = split_once_first 32 text None split (lit< tt) in
    let a : p.0.now ≡ text = ap (λ q. q.0.now) e ∙ same in
    let b : p.1.now ≡ [] = ap (λ q. q.1.now) e ∙ empty in (
      λ z. ap words_of (nil_from_length text (sym (ap length a) ∙ z)),
      λ some. words_of-last text h (omega (arith, ap length a)) ∙ ap (λ x. x ∷ []) (sym a)
          ∙ ap (λ x. p.0.now ∷ words_of x) (sym b),
    )
first_word text (Some x) p d e same empty first split =
    let h = split_once_first 32 text (Some x) split (lit< tt) in
    let a : p.0.now ≡ before_first (λ b. eqb b 32) text = ap (λ q. q.0.now) e ∙ h.1 in
    let b : p.1.now ≡ after_first (λ b. eqb b 32) text = ap (λ q. q.1.now) e ∙ h.2 in (
      λ z. let k = some_before text (omega arith) first in absurd (grind (arith, common_steps)),
      λ some. words_of-first text h.0 first ∙ ap (λ x. x ∷ words_of (after_first (λ b. eqb b 32) text)) (sym a)
          ∙ ap (λ x. p.0.now ∷ words_of x) (sym b),
    )
