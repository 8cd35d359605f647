-- What a contract sees of a scanner, what its calls read and hand out, and what it has left.
use Rattle.std.specs.{
  Iterator.{Count, IsFinite, UpTo, size, count_map, count_unless, Yields, YieldsThen},
  Option.option_to_list,
  Prelude.{◌≡◌, ℕ, ◌+◌, ◌<◌, ◌≤◌, max, List, [], ◌∷◌, ◌++◌, length, take, drop, slice_get},
  Prelude.{Option, None, IfNone, IfSome, OnSome, MatchOption, Bool, true, false},
}

-- a scanner: its iterator, the items read ahead, whether the iterator has given its first None, and
-- how many items are left at most
pub record ScannerState (S A : Type 0) : Type 0 where
  pub iter : S
  pub buffer : List A
  pub ended : Bool
  pub left : Count

module _ {S A : Type 0} (remaining : S → Count) where
  -- how many items an iterator and a buffer have together at most
  unfoldable pub left_of : S → List A → Bool → Count
  left_of iter buffer ended =
      count_map (λ n. n + length buffer) (count_unless ended (remaining iter))

  -- a scanner that has not asked its iterator yet
  abbrev pub fresh_scanner : S → ScannerState S A
  fresh_scanner iter = record { iter = iter; buffer = []; ended = false; left = remaining iter }

  -- `left` counts what the iterator and the buffer have
  abbrev pub CountsLeft : ScannerState S A → Type 0
  CountsLeft s = s.left ≡ left_of s.iter s.buffer s.ended

  -- of an iterator that ends, an item that was given lowers the count, and None doesn't raise it
  abbrev pub Lowers : ScannerState S A → Option A → ScannerState S A → Type 0
  Lowers old item new = IsFinite (remaining old.iter) → IsFinite (remaining new.iter)
      × MatchOption item (size new.left ≤ size old.left) (λ _. size new.left < size old.left)

module _ {S A : Type 0} (gives : S → Option A → S → Type 0) where
  -- the iterator gave xs, and then None exactly if it ended; one that had ended wasn't asked
  abbrev pub Reads : Bool → S → List A → Bool → S → Type 0
  Reads true s xs ended t = (xs ≡ []) × (t ≡ s) × (ended ≡ true)
  Reads false s xs true t = YieldsThen gives s xs None t
  Reads false s xs false t = Yields gives s xs t

  -- the old buffer, followed by what was read, is ys followed by the new buffer
  abbrev pub HandsOut : ScannerState S A → List A → ScannerState S A → Type 0
  HandsOut old ys new =
      (xs : List A) × Reads old.ended old.iter xs new.ended new.iter
      × (old.buffer ++ xs ≡ ys ++ new.buffer)

  -- rest is the buffer, followed by what the iterator gives before its first None
  unfoldable pub HasRest : ScannerState S A → List A → Type 0
  HasRest s rest =
      (xs : List A) × ((t : S) × Reads s.ended s.iter xs true t) × (rest ≡ s.buffer ++ xs)

  -- P holds of the item that comes next, if one does
  abbrev pub NextIs : (A → Type 0) → ScannerState S A → Type 0
  NextIs P s = (rest : List A) → HasRest s rest → IfSome (slice_get rest 0) P

  -- the old rest is ys followed by the new one
  abbrev pub TakesOff : ScannerState S A → List A → ScannerState S A → Type 0
  TakesOff old ys new = (rest : List A) → HasRest new rest → HasRest old (ys ++ rest)

  -- the new rest is x followed by the old one
  abbrev pub PutsOn : ScannerState S A → A → ScannerState S A → Type 0
  PutsOn old x new =
      (rest : List A) → HasRest new rest → (rest ≡ x ∷ drop 1 rest) × HasRest old (drop 1 rest)

  -- a call of `next` handed out an item, or none at the end
  pub record Gives (old : ScannerState S A) (item : Option A) (new : ScannerState S A)
      : Type 0 where
    pub hands_out : HandsOut old (option_to_list item) new
    pub rest : TakesOff old (option_to_list item) new
    pub none : IfNone item (new.ended ≡ true)
    pub over : IfNone item (HasRest old [])

  -- what was read went behind the buffer, up to n items there, and no item went out
  pub record ReadsOn (remaining : S → Count) (old : ScannerState S A) (n : ℕ)
      (new : ScannerState S A) : Type 0 where
    pub hands_out : HandsOut old [] new
    pub rest : TakesOff old [] new
    pub keeps : take (length old.buffer) new.buffer ≡ old.buffer
    pub within : length new.buffer ≤ max (length old.buffer) n
    pub unchanged : n ≤ length old.buffer → new ≡ old
    pub left : IsFinite old.left → UpTo new.left (size old.left)
    pub lowers : Lowers remaining old None new
    pub counts : CountsLeft remaining new

  -- a look at item k of the rest saw `seen`, and left new
  pub record Peeks (remaining : S → Count) (old : ScannerState S A) (k : ℕ) (seen : Option A)
      (new : ScannerState S A) : Type 0 where
    pub sees : seen ≡ slice_get new.buffer k
    pub none : IfNone seen (new.ended ≡ true)
    pub some : OnSome seen (new.ended ≡ old.ended)
    pub reads_on : ReadsOn remaining old (k + 1) new

  -- n items went off the rest, and left new
  pub record Advances (remaining : S → Count) (old : ScannerState S A) (n : ℕ)
      (new : ScannerState S A) : Type 0 where
    pub items : List A
    pub as_many : length items ≡ n
    pub hands_out : HandsOut old items new
    pub rest : TakesOff old items new
    pub buffer : new.buffer ≡ drop n old.buffer
    pub buffered : n ≤ length old.buffer → items ≡ take n old.buffer
    pub left : IsFinite old.left → IsFinite new.left × (size new.left + n ≤ size old.left)
    pub lowers : IsFinite (remaining old.iter) → IsFinite (remaining new.iter)
        × (size new.left + n ≤ size old.left)
    pub counts : CountsLeft remaining new
