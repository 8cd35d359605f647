-- Words that spell a call spell no other.
use Rattle.std.{
  proofs.Common.{◌≡◌, ℕ, ℤ, List, [], ◌∷◌, map, refl, ap, sym, ◌∙◌, rules},
  specs.List.AllZip,
}
use Rattle.arraydeque.specs.declared.run.Call.{Call}
use Rattle.adq.specs.Line.{Token, keyword, index, value, Spells, tokens_of}

-- tokens of the same kinds, as far as both lists go
abbrev IsAlike : Token → Token → Type 0
IsAlike (keyword name) (keyword other) = Unit {0}
IsAlike (index i) (index j) = Unit {0}
IsAlike (value x) (value y) = Unit {0}
IsAlike _ _ = ⊥

abbrev AreAlike : List Token → List Token → Type 0
AreAlike (t ∷ ts) (u ∷ us) = IsAlike t u × AreAlike ts us
AreAlike _ _ = Unit {0}

values_alike : (xs ys : List ℤ) → AreAlike (map value xs) (map value ys)
values_alike (x ∷ xs) (y ∷ ys) = (tt, values_alike xs ys)
values_alike [] ys = tt
values_alike (x ∷ xs) [] = tt

-- a word spells one token of a kind
one_token : (word : List ℕ) (t u : Token) → Spells word t → Spells word u → IsAlike t u → t ≡ u
one_token word (keyword name) (keyword other) a b alike = ap keyword (sym a ∙ b)
one_token word (index i) (index j) a b alike = ap index (sym a.1 ∙ b.1)
one_token word (value x) (value y) a b alike = ap value (sym a.1 ∙ b.1)
one_token word _ _ a b alike = absurd alike

same_tokens : (words : List (List ℕ)) (ts us : List Token) → AllZip Spells words ts → AllZip Spells words us
    → AreAlike ts us → ts ≡ us
same_tokens [] [] [] a b alike = refl
same_tokens (w ∷ words) (t ∷ ts) (u ∷ us) a b alike =
    ap (λ t. t ∷ ts) (one_token w t u a.0 b.0 alike.0) ∙ ap (λ ts. u ∷ ts) (same_tokens words ts us a.1 b.1 alike.1)
same_tokens [] (t ∷ ts) us a b alike = absurd a
same_tokens [] [] (u ∷ us) a b alike = absurd b
same_tokens (w ∷ words) [] us a b alike = absurd a
same_tokens (w ∷ words) (t ∷ ts) [] a b alike = absurd b

alike : (name : List ℕ) (words : List (List ℕ)) (call other : Call ℤ) → AllZip Spells (name ∷ words) (tokens_of call)
    → AllZip Spells (name ∷ words) (tokens_of other) → AreAlike (tokens_of call) (tokens_of other)
alike name words (Call.PushFront x) other a b = search rules
alike name words (Call.PushBack x) other a b = search rules
alike name words Call.PopFront other a b = search rules
alike name words Call.PopBack other a b = search rules
alike name words (Call.Insert i x) other a b = search rules
alike name words (Call.Remove i) other a b = search rules
alike name words (Call.SwapRemoveBack i) other a b = search rules
alike name words (Call.SwapRemoveFront i) other a b = search rules
alike name words (Call.Swap i j) other a b = search rules
alike name words (Call.Replace i x) other a b = search rules
alike name words Call.Clear other a b = search rules
alike name words Call.Linearize other a b = search rules
alike name words (Call.ExtendBack v) other a b = search (rules, values_alike)
alike name words (Call.ExtendFront v) other a b = search (rules, values_alike)
alike name words (Call.Extend v) other a b = search (rules, values_alike)
alike name words (Call.Drain i j) other a b = search rules
alike name words (Call.SplitOff i) other a b = search rules
alike name words Call.Len other a b = search rules
alike name words Call.Capacity other a b = search rules
alike name words Call.IsEmpty other a b = search rules
alike name words Call.IsFull other a b = search rules

pub spelled_once : (name : List ℕ) (words : List (List ℕ)) (call other : Call ℤ)
    → AllZip Spells (name ∷ words) (tokens_of call) → AllZip Spells (name ∷ words) (tokens_of other)
    → tokens_of call ≡ tokens_of other
spelled_once name words call other a b =
    same_tokens (name ∷ words) (tokens_of call) (tokens_of other) a b (alike name words call other a b)
