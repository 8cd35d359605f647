-- One run of a scanner's calls after another.
use Rattle.std.{
  proofs.{
    Common.{◌≡◌, ℕ, ◌+◌, ◌<◌, arith, Bool, true, false, true≢false, List, [], ◌∷◌, ◌++◌, Option, Some},
    Common.{None, IfSome, IfNone, slice_get, length, take, refl, sym, ap, ◌∙◌, subst, append-nil},
    Common.append_assoc,
    iter.runs.{Lists.Yields-both, Made.{run, to_end}},
    lemmas.List.{drop-drop, length-append, length-drop},
    Math.Seq.take-add,
  },
  specs.{Iterator.{Count, Runs.WholeRun}, Option.option_to_list},
}
use Rattle.arraydeque.specs.{
  Lookahead.{ScannerState, left_of, fresh_scanner, CountsLeft, Reads, HandsOut, HasRest, TakesOff},
  Lookahead.{NextIs, Advances},
}

-- a scanner that is made over an empty buffer is fresh
pub fresh_made : {S A : Type 0} (remaining : S → Count) (iter : S) (buffer : List A) → buffer ≡ []
    → fresh_scanner {S = S} {A = A} remaining iter ≡ record {
      iter = iter;
      buffer = buffer;
      ended = false;
      left = left_of remaining iter buffer false;
    }
unfolding left_of
fresh_made remaining iter [] empty = grind arith
fresh_made remaining iter (x ∷ buffer) empty = cc

-- the first item, or none, is what was taken of a list
pub first_taken : {A : Type 0} (xs : List A) (x : A) → Some x ≡ slice_get xs 0 → x ∷ [] ≡ take 1 xs
first_taken [] x first = cc
first_taken (y ∷ ys) x first = grind (arith, first)

pub none_taken : {A : Type 0} (xs : List A) → (0 < length xs → None ≡ slice_get xs 0) → xs ≡ []
none_taken [] none = refl
none_taken (x ∷ xs) none = let first = none (omega arith) in cc

module _ {S A : Type 0} (gives : S → Option A → S → Type 0) where
  -- what is read in two runs is read in one
  Reads-append : (a b c : Bool) (s t u : S) (xs ys : List A) → Reads gives a s xs b t → Reads gives b t ys c u
      → Reads gives a s (xs ++ ys) c u
  Reads-append true true c s t u xs ys first second = ((λ i. first.0 i ++ second.0 i), second.1 ∙ first.1, second.2)
  Reads-append true false c s t u xs ys first second = absurd (true≢false (sym first.2))
  Reads-append false true true s t u xs ys first second = rw (second.0, append-nil, second.1) first
  Reads-append false true false s t u xs ys first second = absurd (true≢false (sym second.2))
  Reads-append false false true s t u xs ys first second =
      (second.0, Yields-both gives xs ys s t second.0 first second.1, second.2)
  Reads-append false false false s t u xs ys first second = Yields-both gives xs ys s t u first second

  module _ (old mid new : ScannerState S A) (xs ys : List A) where
    -- what is handed out in two runs is handed out in one
    pub HandsOut-append : HandsOut gives old xs mid → HandsOut gives mid ys new → HandsOut gives old (xs ++ ys) new
    HandsOut-append first second = grind (arith, Reads-append, append_assoc)

  -- what is handed out goes off the rest
  pub TakesOff-from_out : (old new : ScannerState S A) (ys : List A) → HandsOut gives old ys new
      → TakesOff gives old ys new
  unfolding HasRest
  TakesOff-from_out old new ys given rest after = grind (arith, Reads-append, append_assoc)

  module _ (old mid new : ScannerState S A) (xs ys : List A) where
    -- what is taken off in two runs is taken off in one
    pub TakesOff-append : TakesOff gives old xs mid → TakesOff gives mid ys new → TakesOff gives old (xs ++ ys) new
    TakesOff-append first second rest has = rw append_assoc (first (ys ++ rest) (second rest has))

  module _ (remaining : S → Count) where
    -- nothing went where nothing was done
    pub Advances-nothing : (s : ScannerState S A) → CountsLeft remaining s → Advances gives remaining s 0 s
    Advances-nothing s counts = grind (arith, append-nil)

    -- what goes in two runs goes in one
    pub Advances-append : (old mid new : ScannerState S A) (n m : ℕ) → Advances gives remaining old n mid
        → Advances gives remaining mid m new → Advances gives remaining old (n + m) new
    Advances-append old mid new n m first second =
        let all = HandsOut-append old mid new first.items second.items first.hands_out second.hands_out in
        let left = length-drop n old.buffer in
        record {
          items = first.items ++ second.items;
          as_many = grind (arith, length-append first.items second.items, first.as_many, second.as_many);
          hands_out = all;
          rest = TakesOff-from_out old new (first.items ++ second.items) all;
          buffer = grind (arith, drop-drop m n old.buffer, first.buffer, second.buffer);
          buffered = λ within. grind (
            arith,
            take-add n m old.buffer,
            first.buffer,
            first.buffered (omega arith),
            second.buffered (omega (arith, ap length first.buffer)),
          );
          left = λ ends. let one = first.left ends in let two = second.left one.0 in (two.0, omega arith);
          lowers = λ ends. let one = first.lowers ends in let two = second.lowers one.0 in (two.0, omega arith);
          counts = second.counts;
        }

  -- the rest of a fresh scanner is what a whole run of its iterator gives
  pub WholeRun-fresh : (remaining : S → Count) (s : ScannerState S A) (iter : S) → s ≡ fresh_scanner remaining iter
      → (rest : List A) → HasRest gives s rest → WholeRun gives iter (λ p. p.items ≡ rest)
  unfolding HasRest
  WholeRun-fresh remaining s iter fresh rest has =
      let read = subst (λ t. HasRest gives t rest) fresh has in
      (run gives iter read.0 true (to_end gives iter read.0 read.1), refl, refl, sym read.2)

  -- of an iterator that has ended the buffer is left
  pub HasRest-ended : (s : ScannerState S A) → s.ended ≡ true → HasRest gives s s.buffer
  unfolding HasRest
  HasRest-ended s ended =
      let nothing = subst (λ e. Reads gives e s.iter [] true s.iter) (sym ended) (refl, refl, refl) in
      ([], (s.iter, nothing), sym (append-nil s.buffer))

  -- where no item is handed out and the scanner is spent, it had nothing left
  pub HasRest-nothing : (old new : ScannerState S A) (item : Option A) → HandsOut gives old (option_to_list item) new
      → new.buffer ≡ [] → IfNone item (new.ended ≡ true) → IfNone item (HasRest gives old [])
  unfolding HasRest
  HasRest-nothing old new None given empty ended = (
    given.0,
    (new.iter, subst (λ e. Reads gives old.ended old.iter given.0 e new.iter) ended given.1),
    sym (given.2 ∙ empty),
  )
  HasRest-nothing old new (Some item) given empty ended = tt

  next_is : (P : A → Type 0) (buffer xs rest : List A) → IfSome (slice_get buffer 0) P → (buffer ≡ [] → xs ≡ [])
      → rest ≡ buffer ++ xs → IfSome (slice_get rest 0) P
  next_is P [] xs rest holds none same = rw (same, none refl) tt
  next_is P (x ∷ buffer) xs rest holds none same = rw same holds

  -- what comes next is the first item of the buffer, or nothing where the iterator has ended
  pub NextIs-buffer : (P : A → Type 0) (s : ScannerState S A) → IfSome (slice_get s.buffer 0) P
      → IfNone (slice_get s.buffer 0) (s.ended ≡ true) → NextIs gives P s
  unfolding HasRest
  NextIs-buffer P s holds ended rest has = grind (arith, next_is)
