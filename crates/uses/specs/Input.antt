-- What a contract sees of a buffered input, and what its calls read.
use Rattle.std.specs.{
  Iterator.{Count, IsFinite, Yields, Drains, size},
  Prelude.{◌≡◌, ◌≢◌, ℕ, ◌+◌, ◌-◌, ◌<◌, ◌≤◌, ◌==◌, ◌||◌, Bool, false, List, [], ◌∷◌, ◌++◌, length},
  Prelude.{max, replicate, All, Option, Some, None, unwrap_or, if◌then◌else◌},
}

-- a buffered input: its iterator, and the characters that were read ahead
pub record InputState (S : Type 0) : Type 0 where
  pub input : S
  pub buffer : List ℕ

-- whether a character ends a line or the input
abbrev pub is_breakz : ℕ → Bool
is_breakz c = c == 0 || (c == 10 || c == 13)

-- what came, unless it ends a line or the input
abbrev pub unless_breakz : Option ℕ → Option ℕ
unless_breakz None = None
unless_breakz (Some c) = if is_breakz c then None else Some c

-- what came, if it is a character that ends a line or the input
abbrev pub if_breakz : Option ℕ → List ℕ
if_breakz None = []
if_breakz (Some c) = if is_breakz c then c ∷ [] else []

module _ {S : Type 0} (remaining : S → Count) where
  -- how many characters iterator and buffer have together at most
  abbrev pub chars_left : InputState S → ℕ
  chars_left s = size (remaining s.input) + length s.buffer

  -- of an iterator that ends, a character other than 0 leaves one that ends, and n fewer characters
  abbrev pub LeavesFewer : InputState S → ℕ → ℕ → InputState S → Type 0
  LeavesFewer old c n new = IsFinite (remaining old.input) → c ≢ 0
      → IsFinite (remaining new.input) × (chars_left new + n ≤ chars_left old)

module _ {S : Type 0} (gives : S → Option ℕ → S → Type 0) where
  -- calls of `next` led from s to t and gave cs, where each None stands as the character 0
  abbrev pub ReadsRaw : S → List ℕ → S → Type 0
  ReadsRaw s [] t = s ≡ t
  ReadsRaw s (c ∷ cs) t =
      (came : Option ℕ) × (u : S) × gives s came u × (c ≡ unwrap_or came 0) × ReadsRaw u cs t

  -- the old buffer, followed by what was read, is cs followed by the new buffer
  abbrev pub HandsOut : InputState S → List ℕ → InputState S → Type 0
  HandsOut old cs new =
      (xs : List ℕ) × ReadsRaw old.input xs new.input × (old.buffer ++ xs ≡ cs ++ new.buffer)

  -- after its first None the iterator gives no character
  abbrev pub IsFused : Type 0
  IsFused = (s t u : S) (c : ℕ) → gives s None t → ¬ (gives t (Some c) u)

  -- cs are characters of the input in order, and then zeros, which come only if it has ended
  pub record IsPadded (s : S) (cs : List ℕ) (t : S) : Type 0 where
    pub chars : List ℕ
    pub zeros : ℕ
    pub is : cs ≡ chars ++ replicate zeros 0
    pub all_there : zeros ≡ 0 → Yields gives s chars t
    pub ended : 0 < zeros → Drains gives s chars

  -- what was read went behind the buffer: characters of the input, and zeros behind its end
  abbrev pub Pads : InputState S → InputState S → Type 0
  Pads old new =
      (cs : List ℕ) × IsPadded old.input cs new.input × (new.buffer ≡ old.buffer ++ cs)

  -- past the buffer c was read; what ends a line or the input isn't handed out, but kept
  pub record ReadsNonBreakz (old : InputState S) (c : Option ℕ) (new : InputState S) : Type 0 where
    pub came : Option ℕ
    pub given : gives old.input came new.input
    pub handed_out : c ≡ unless_breakz came
    pub kept : new.buffer ≡ old.buffer ++ if_breakz came

  -- characters within a line went, and no more was read than shows that one comes that isn't
  pub record SkipsLine (old new : InputState S) : Type 0 where
    pub chars : List ℕ
    pub plain : All (λ c. is_breakz c ≡ false) chars
    pub hands_out : HandsOut old chars new
    pub within : length new.buffer ≡ max 1 (length old.buffer - length chars)
