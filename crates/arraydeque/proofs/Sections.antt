-- Comparisons of lists that are cut into parts.
use Rattle.std.{
  proofs.{
    Common.{◌≡◌, ℕ, ◌&&◌, Bool, List, [], ◌∷◌, ◌++◌, length, take, drop, Option, refl},
    Common.{sym, ap, ap₂, ◌∙◌, arith, true},
    lemmas.{Grind.common_steps, List.{append_assoc, take-append-drop}},
  },
  specs.{
    Cmp.{Equal-is, IsPartialOrder},
    Cmp.Lexicographic.{pointwise, as_long, slice_cmp, slice_partial_cmp, lists_po, lists_ties},
    declared.cmp.Ordering.Ordering,
    Ordering.{is_eq, ordering_then, partial_ordering_then},
  },
}
use Rattle.arraydeque.specs.Compared.{AreCutAlike, AreBehindEqual}

-- a comparison of lists by their pairs, whose answers are joined; where one list ends first, nothing behind has a say
record Pairwise {X O : Type 0} (join : O → O → O) (pair : X → X → O) (lists : List X → List X → O) : Type 0 where
  assoc : (p q r : O) → join (join p q) r ≡ join p (join q r)
  none : (o : O) → join (lists [] []) o ≡ o
  more : (x y : X) (xs ys : List X) → lists (x ∷ xs) (y ∷ ys) ≡ join (pair x y) (lists xs ys)
  shorter : (y : X) (ys zs : List X) (o : O) → lists [] (y ∷ zs) ≡ join (lists [] (y ∷ ys)) o
  longer : (x : X) (xs zs : List X) (o : O) → lists (x ∷ zs) [] ≡ join (lists (x ∷ xs) []) o

module _ {X : Type 0} where
  -- cut at one index
  even : (xs xs' ys ys' : List X) → length xs ≡ length ys → AreCutAlike xs xs' ys ys'
  even xs xs' ys ys' long = record { first_ends = grind arith; second_ends = grind arith }

  module _ {O : Type 0} {join : O → O → O} {pair : X → X → O} {lists : List X → List X → O}
      (p : Pairwise join pair lists) where
    both : (xs xs' ys ys' : List X) → AreCutAlike xs xs' ys ys'
        → lists (xs ++ xs') (ys ++ ys') ≡ join (lists xs ys) (lists xs' ys')
    both [] xs' [] ys' cut = sym (p.none _)
    both [] xs' (y ∷ ys) ys' cut = rw (cut.first_ends (omega arith)) (p.shorter y ys (ys ++ ys') _)
    both (x ∷ xs) xs' [] ys' cut = rw (cut.second_ends (omega arith)) (p.longer x xs (xs ++ xs') _)
    both (x ∷ xs) xs' (y ∷ ys) ys' cut =
        let next : AreCutAlike xs xs' ys ys' = record {
          first_ends = λ less. cut.first_ends (omega arith);
          second_ends = λ less. cut.second_ends (omega arith);
        } in
        p.more x y (xs ++ xs') (ys ++ ys') ∙ ap (join (pair x y)) (both xs xs' ys ys' next)
        ∙ sym (p.assoc (pair x y) (lists xs ys) _) ∙ ap (λ o. join o (lists xs' ys')) (sym (p.more x y xs ys))

    -- by pairs of three parts
    in_three : (a b c d e f : List X) → length a ≡ length b → AreCutAlike c e d f
        → lists (a ++ (c ++ e)) (b ++ (d ++ f)) ≡ join (lists a b) (join (lists c d) (lists e f))
    in_three a b c d e f long cut = grind (arith, both)

    -- behind lists that are as long, and that have no say
    behind : {xs ys us vs xs' ys' : List X} → xs ≡ us ++ xs' → ys ≡ vs ++ ys' → length us ≡ length vs
        → lists us vs ≡ lists [] [] → lists xs' ys' ≡ lists xs ys
    behind first second long equal = grind (arith, both)

  pointwise_pairs : (E : X → X → Bool) → Pairwise (λ a b. a && b) E (pointwise E)
  pointwise_pairs E = grind arith

  order_pairs : (R : X → X → Ordering) → Pairwise ordering_then R (slice_cmp R)
  order_pairs R = grind arith

  partial_pairs : (C : X → X → Option Ordering) → Pairwise partial_ordering_then C (slice_partial_cmp C)
  partial_pairs C = grind arith

  -- of lists in three parts each
  module _ (a b c d e f : List X) (long : length a ≡ length b) (cut : AreCutAlike c e d f) where
    pub pointwise_in_three : (E : X → X → Bool) → pointwise E (a ++ (c ++ e)) (b ++ (d ++ f))
        ≡ (pointwise E a b && (pointwise E c d && pointwise E e f))
    pointwise_in_three E = in_three (pointwise_pairs E) a b c d e f long cut

    pub order_in_three : (R : X → X → Ordering) → slice_cmp R (a ++ (c ++ e)) (b ++ (d ++ f))
        ≡ ordering_then (slice_cmp R a b) (ordering_then (slice_cmp R c d) (slice_cmp R e f))
    order_in_three R = in_three (order_pairs R) a b c d e f long cut

    pub partial_in_three : (C : X → X → Option Ordering) → slice_partial_cmp C (a ++ (c ++ e)) (b ++ (d ++ f))
        ≡ partial_ordering_then (slice_partial_cmp C a b)
        (partial_ordering_then (slice_partial_cmp C c d) (slice_partial_cmp C e f))
    partial_in_three C = in_three (partial_pairs C) a b c d e f long cut

  -- two parts each, of which the first are as long
  pub pointwise-both : (E : X → X → Bool) (xs xs' ys ys' : List X) → length xs ≡ length ys
      → pointwise E (xs ++ xs') (ys ++ ys') ≡ (pointwise E xs ys && pointwise E xs' ys')
  pointwise-both E xs xs' ys ys' long = both (pointwise_pairs E) xs xs' ys ys' (even xs xs' ys ys' long)

  -- one pair more
  pub pointwise_push : (E : X → X → Bool) (xs ys : List X) (x y : X) → length xs ≡ length ys
      → pointwise E (xs ++ x ∷ []) (ys ++ y ∷ []) ≡ (pointwise E xs ys && E x y)
  pointwise_push E xs ys x y long = grind (arith, pointwise-both)

  -- the parts that a split at n makes
  pub split-whole : {xs us xs' : List X} (n : ℕ) → us ≡ take n xs → xs' ≡ drop n xs → xs ≡ us ++ xs'
  split-whole {xs} n front back = sym (ap₂ (λ ys zs. ys ++ zs) front back ∙ take-append-drop n xs)

  module _ {E : X → X → Bool} where
    pub behind-nothing : (xs ys : List X) → AreBehindEqual E xs ys xs ys
    behind-nothing xs ys = record { xs-front = []; ys-front = []; first = refl; second = refl; equal = refl }

    module _ {xs ys xs' ys' : List X} (b : AreBehindEqual E xs ys xs' ys') where
      long : length b.xs-front ≡ length b.ys-front
      long = as_long E b.xs-front b.ys-front b.equal

      -- behind more pairs
      pub behind-pairs : (us vs : List X) {xs'' ys'' : List X} → xs' ≡ us ++ xs'' → ys' ≡ vs ++ ys''
          → true ≡ pointwise E us vs → AreBehindEqual E xs ys xs'' ys''
      behind-pairs us vs {xs''} {ys''} first second equal = record {
        xs-front = b.xs-front ++ us;
        ys-front = b.ys-front ++ vs;
        first = grind (arith, b.first, append_assoc b.xs-front us xs'');
        second = grind (arith, b.second, append_assoc b.ys-front vs ys'');
        equal = grind (arith, b.equal, pointwise-both E b.xs-front us b.ys-front vs long);
      }

      pub pointwise_behind : pointwise E xs' ys' ≡ pointwise E xs ys
      pointwise_behind = behind (pointwise_pairs E) b.first b.second long b.equal

      -- where what is equal compares as equal
      pub slice_cmp_behind : (R : X → X → Ordering) → ((x y : X) → E x y ≡ is_eq (R x y))
          → slice_cmp R xs' ys' ≡ slice_cmp R xs ys
      slice_cmp_behind R ties = behind (order_pairs R) b.first b.second long
          ((Equal-is _).0 (sym (lists_ties R ties b.xs-front b.ys-front) ∙ b.equal))

    -- and in a partial order; its laws stand first, so that the check finds this by its name
    pub slice_partial_cmp_behind : (C : X → X → Option Ordering) → IsPartialOrder E C → {xs ys xs' ys' : List X}
        → AreBehindEqual E xs ys xs' ys' → slice_partial_cmp C xs' ys' ≡ slice_partial_cmp C xs ys
    slice_partial_cmp_behind C laws b = behind (partial_pairs C) b.first b.second (long b)
        (((lists_po laws).matches_eq b.xs-front b.ys-front).0 b.equal)

-- for a loop over pairs
pub ruleset pair_rules = (common_steps, pointwise_push)
