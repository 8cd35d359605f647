-- Items in two parts, with a gap of empty places between them: how it comes about, is filled and ends.
use Rattle.std.proofs.{
  Common.{◌≡◌, ℕ, zero, suc, ◌+◌, ◌-◌, ◌<◌, ◌≤◌, List, [], ◌∷◌, ◌++◌, length, take, drop, set},
  Common.{slice_get, nat_lt, if◌then◌else◌, Option, Some, None, ◌∙◌, arith},
  lemmas.List.{length-append, length-take-le, length-drop},
}
use Rattle.arraydeque_ring.{
  proofs.places.{
    Emptied.{length-run_emptied, get_or-run_emptied},
    Holds.{Holds, Holds-of_rotated, Holds-rotated, Holds-same, Holds-from, Holds-set},
    Items.items,
    LaidOut.{LaidOut, LaidOut-by, holds},
    Rotated.{place_of_cases, place_of-zero, length-rotated},
  },
  specs.{Places.{held_at, IsEmpty}, Ring.{place_of, rotated}, Runs.run_emptied},
}

-- what is read at an index: one of the items xs, nothing in the gap, and one of the items ys behind it
abbrev pub gapped : {X : Type 0} → List X → ℕ → List X → ℕ → Option X
gapped xs gap ys k = if nat_lt k (length xs) then slice_get xs k
    else (if nat_lt k (length xs + gap) then None else slice_get ys (k - (length xs + gap)))

-- from the place t on,
-- round the end, the n places hold the items xs, then nothing at `gap` places, then the items ys, and nothing else
pub record Gapped {X : Type 0} (n t : ℕ) (xs : List X) (gap : ℕ) (ys : List X) (ps : List (Option X)) : Type 0 where
  pub within : length xs + gap + length ys ≤ n
  pub reads : Holds n t (gapped xs gap ys) ps

module _ {X : Type 0} {n t : ℕ} {xs : List X} {ps : List (Option X)} (l : LaidOut n t xs ps) where
  -- no gap, behind any k of the items
  pub Gapped-none : (k : ℕ) → k ≤ length xs → Gapped n t (take k xs) 0 (drop k xs) ps
  Gapped-none k le = let front = length-take-le k xs le in record {
    within = omega (arith, l.within, length-drop k xs);
    reads = Holds-same (holds l) (λ j lt. grind (arith, items));
  }

  -- a gap where items are taken out
  pub Gapped-taken : (from gap : ℕ) (qs : List (Option X)) → from + gap ≤ length xs
      → rotated t qs ≡ run_emptied from gap (rotated t ps) → Gapped n t (take from xs) gap (drop (from + gap) xs) qs
  Gapped-taken from gap qs le out =
      let long = length-rotated t ps ∙ l.length_is in
      let front = length-take-le from xs (omega arith) in
      record {
        within = omega (arith, length-drop (from + gap) xs);
        reads = Holds-of_rotated out (length-run_emptied from gap (rotated t ps) (omega arith) ∙ long) l.in_region
            (λ k lt. get_or-run_emptied from gap (rotated t ps) k (omega arith)
            ∙ grind (arith, items, Holds-rotated (holds l) k lt));
      }

  -- where one item is
  pub Gapped-taken_one : (i : ℕ) → i < length xs
      → Gapped n t (take i xs) 1 (drop (suc i) xs) (set ps (place_of t i n) None)
  Gapped-taken_one i lt =
      let front = length-take-le i xs (omega arith) in
      record {
        within = omega (arith, length-drop (suc i) xs);
        reads = Holds-set (holds l) i None (omega arith) (grind arith)
            (λ k k_in other. grind (arith, items));
      }

module _ {X : Type 0} {n t : ℕ} {xs : List X} {ps : List (Option X)} where
  -- a gap behind all items is none
  pub LaidOut-gap_last : {gap : ℕ} → Gapped n t xs gap [] ps → LaidOut n t xs ps
  LaidOut-gap_last p = LaidOut-by (omega arith) (Holds-same p.reads (λ k lt. grind (arith, items)))

  -- one before all items moves the start up by as many places
  pub LaidOut-gap_first : (gap : ℕ) → Gapped n t [] gap xs ps → LaidOut n (place_of t gap n) xs ps
  LaidOut-gap_first zero p = rw (place_of-zero t n p.reads.in_region)
      (LaidOut-by (omega arith) (Holds-same p.reads (λ k lt. grind arith)))
  LaidOut-gap_first (suc g) p =
      LaidOut-by (omega arith) (Holds-from p.reads (suc g) (omega arith) (omega arith)
      (λ k lt. grind (arith, items, place_of_cases (suc g) k n)))

module _ {X : Type 0} {n t : ℕ} {xs ys : List X} {ps : List (Option X)} where
  -- the first place of a gap is empty
  pub IsEmpty-gap : (gap i : ℕ) → Gapped n t xs gap ys ps → length xs ≡ i → 0 < gap → IsEmpty ps (place_of t i n)
  IsEmpty-gap gap i p front some = grind arith

  -- an item put there
  pub Gapped-put : {gap : ℕ} (i : ℕ) (x : X) → Gapped n t xs (suc gap) ys ps → length xs ≡ i
      → Gapped n t (xs ++ x ∷ []) gap ys (set ps (place_of t i n) (Some x))
  Gapped-put i x p front =
      let long = length-append xs (x ∷ []) in
      record {
        within = omega arith;
        reads = Holds-set p.reads i (Some x) (omega arith) (grind (arith, items))
            (λ k lt other. grind (arith, items));
      }

  -- which joins the parts where the gap is of one place
  pub LaidOut-put : (i : ℕ) (x : X) → Gapped n t xs 1 ys ps → length xs ≡ i
      → LaidOut n t (xs ++ x ∷ ys) (set ps (place_of t i n) (Some x))
  LaidOut-put i x p front = LaidOut-by (omega (arith, length-append xs (x ∷ ys))) (Holds-set p.reads i (Some x)
      (omega arith) (grind (arith, items)) (λ k lt other. grind (arith, items)))

module _ {X : Type 0} {n t : ℕ} {xs : List X} {gap : ℕ} {ps : List (Option X)} (ys : List X) (j i : ℕ)
    (p : Gapped n t xs gap (drop j ys) ps) (here : length xs + gap ≡ i) (some : j < length ys) where
  -- the first item behind the gap, in its place
  pub held_behind : held_at ps (place_of t i n) ≡ slice_get ys j
  held_behind = p.reads.at i (omega (arith, length-drop j ys)) ∙ grind (arith, items)

  -- taken out of it
  pub Gapped-take : Gapped n t xs (suc gap) (drop (j + 1) ys) (set ps (place_of t i n) None)
  Gapped-take = let long = length-drop j ys in record {
    within = omega (arith, length-drop (j + 1) ys);
    reads = Holds-set p.reads i None (omega arith) (grind arith)
        (λ k lt other. grind (arith, items));
  }
