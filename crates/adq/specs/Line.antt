-- What a line of text means: the call that its words spell.
use Rattle.std.specs.{
  List.{slice_split, AllZip},
  Option.option_map_or,
  Prelude.{◌≡◌, ℕ, ℤ, pos, neg_ℤ, ◌^◌, ◌<◌, ◌≤ℤ◌, ◌<ℤ◌, List, [], ◌∷◌, map, length, take, drop},
  Prelude.{filter, filter_map, HoldsAt, ◌⊎◌, Option, Result, Ok, Err, nat_lt, ◌==◌, if◌then◌else◌},
  Prelude.{codes, IsUtf8},
  Str.{
    Lines.strip_carriage_return,
    Parse.{IsNumeral, digits_value, signed_digits_value, starts_with_minus},
  },
}
use Rattle.arraydeque.specs.declared.run.Call.{Call}
use Rattle.adq.specs.declared.fault.Fault.{Fault}

-- the lines of a text, which end at a line feed, without the carriage return before that end
abbrev pub lines_of : List ℕ → List (List ℕ)
lines_of text = map strip_carriage_return (slice_split (λ b. b == 10) text)

-- the words of a line, which are parted by spaces
abbrev pub words_of : List ℕ → List (List ℕ)
words_of line = filter (λ word. nat_lt 0 (length word)) (slice_split (λ b. b == 32) line)

-- what a word can spell: the keyword of a call, or an operand
pub data Token : Type 0 where
  keyword : List ℕ → Token
  index : ℕ → Token
  value : ℤ → Token

-- the word spells the token; a number in decimal digits, before which a value may have a minus
abbrev pub Spells : List ℕ → Token → Type 0
Spells word (keyword name) = word ≡ name
Spells word (index i) = IsNumeral 10 word × (digits_value 10 word ≡ i) × (i < 2 ^ 64)
Spells word (value x) = IsNumeral 10 (drop (if starts_with_minus word then 1 else 0) word)
    × (signed_digits_value 10 word ≡ x) × (neg_ℤ (pos (2 ^ 63)) ≤ℤ x) × (x <ℤ pos (2 ^ 63))

-- the tokens of each call
abbrev pub tokens_of : Call ℤ → List Token
tokens_of (Call.PushFront x) = keyword (codes "push_front") ∷ value x ∷ []
tokens_of (Call.PushBack x) = keyword (codes "push_back") ∷ value x ∷ []
tokens_of Call.PopFront = keyword (codes "pop_front") ∷ []
tokens_of Call.PopBack = keyword (codes "pop_back") ∷ []
tokens_of (Call.Insert i x) = keyword (codes "insert") ∷ index i ∷ value x ∷ []
tokens_of (Call.Remove i) = keyword (codes "remove") ∷ index i ∷ []
tokens_of (Call.SwapRemoveBack i) = keyword (codes "swap_remove_back") ∷ index i ∷ []
tokens_of (Call.SwapRemoveFront i) = keyword (codes "swap_remove_front") ∷ index i ∷ []
tokens_of (Call.Swap i j) = keyword (codes "swap") ∷ index i ∷ index j ∷ []
tokens_of (Call.Replace i x) = keyword (codes "replace") ∷ index i ∷ value x ∷ []
tokens_of Call.Clear = keyword (codes "clear") ∷ []
tokens_of Call.Linearize = keyword (codes "linearize") ∷ []
tokens_of (Call.ExtendBack v) = keyword (codes "extend_back") ∷ map value v.items
tokens_of (Call.ExtendFront v) = keyword (codes "extend_front") ∷ map value v.items
tokens_of (Call.Extend v) = keyword (codes "extend") ∷ map value v.items
tokens_of (Call.Drain from to) = keyword (codes "drain") ∷ index from ∷ index to ∷ []
tokens_of (Call.SplitOff at) = keyword (codes "split_off") ∷ index at ∷ []
tokens_of Call.Len = keyword (codes "len") ∷ []
tokens_of Call.Capacity = keyword (codes "capacity") ∷ []
tokens_of Call.IsEmpty = keyword (codes "is_empty") ∷ []
tokens_of Call.IsFull = keyword (codes "is_full") ∷ []

-- the words of the line spell the call, or it has no words and names no call
abbrev pub LineNames : List ℕ → Option (Call ℤ) → Type 0
LineNames line o = IsUtf8 line × AllZip Spells (words_of line) (option_map_or tokens_of o [])

-- the lines name the calls, in order
abbrev pub LinesName : List (List ℕ) → List (Call ℤ) → Type 0
LinesName lines calls = (named : List (Option (Call ℤ))) × AllZip LineNames lines named
    × (calls ≡ filter_map (λ o. o) named)

-- the line at k is bad: `LineNames` holds for no o; none before it is bad
abbrev pub IsFirstBad : List (List ℕ) → ℕ → Type 0
IsFirstBad lines k = (k < length lines)
    × HoldsAt (λ line. (o : Option (Call ℤ)) → ¬ (LineNames line o)) lines k
    × ((calls : List (Call ℤ)) × LinesName (take k lines) calls)

-- P holds of what was read; or of nothing, and this line is blamed; or memory was refused
abbrev pub Tells : {X : Type 0} → ℕ → (X → Type 0) → Result X Fault → Type 0
Tells number P (Ok x) = P x
Tells {X} number P (Err fault) =
    (fault ≡ Fault.Memory) ⊎ ((fault ≡ Fault.Line number) × ((x : X) → ¬ (P x)))
