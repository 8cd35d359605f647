-- How marks compare. A mark is a number, or `None`, which is equal to nothing and in no order with
-- anything.
use Rattle.std.specs.{
  Prelude.{◌≡◌, ℤ, Bool, true, false, Option, Some, None, refl},
  Bool.Decides,
  Cmp.{IsPartialEquivalence, IsPartialOrder, partial_equiv_from_equiv, int_eq_equiv, signed_po},
  Option.option_map,
  Ordering.{int_cmp, int_eq, ordering_reverse},
  declared.cmp.Ordering.{Ordering, TheVariants.{Less, Equal}},
}

-- equal are two numbers that are the same
abbrev pub marks_eq : Option ℤ → Option ℤ → Bool
marks_eq (Some m) (Some n) = int_eq m n
marks_eq (Some m) None = false
marks_eq None y = false

-- two numbers are in the order of numbers
abbrev pub marks_partial_cmp : Option ℤ → Option ℤ → Option Ordering
marks_partial_cmp (Some m) (Some n) = Some (int_cmp m n)
marks_partial_cmp (Some m) None = None
marks_partial_cmp None y = None

-- the laws of both, case by case, are those of numbers
numbers : IsPartialEquivalence int_eq
numbers = partial_equiv_from_equiv int_eq_equiv

symm : (x y : Option ℤ) → marks_eq x y ≡ marks_eq y x
symm (Some m) (Some n) = numbers.symm m n
symm (Some m) None = refl
symm None (Some n) = refl
symm None None = refl

trans : (x y z : Option ℤ) → marks_eq x y ≡ true → marks_eq y z ≡ true → marks_eq x z ≡ true
trans (Some m) (Some n) (Some o) p q = numbers.trans m n o p q
trans (Some m) (Some n) None p q = q
trans (Some m) None z p q = cc
trans None y z p q = p

pub marks_per : IsPartialEquivalence marks_eq
marks_per = record { symm = symm; trans = trans }

antisymm : (x y : Option ℤ)
    → marks_partial_cmp x y ≡ option_map ordering_reverse (marks_partial_cmp y x)
antisymm (Some m) (Some n) = signed_po.antisymm m n
antisymm (Some m) None = refl
antisymm None (Some n) = refl
antisymm None None = refl

less_trans : (x y z : Option ℤ)
    → marks_partial_cmp x y ≡ Some Less
    → marks_partial_cmp y z ≡ Some Less
    → marks_partial_cmp x z ≡ Some Less
less_trans (Some m) (Some n) (Some o) p q = signed_po.trans m n o p q
less_trans (Some m) (Some n) None p q = q
less_trans (Some m) None z p q = cc
less_trans None y z p q = p

matches_eq : (x y : Option ℤ) → Decides (marks_eq x y) (marks_partial_cmp x y ≡ Some Equal)
matches_eq (Some m) (Some n) = signed_po.matches_eq m n
matches_eq (Some m) None = (λ e. cc, λ e. cc)
matches_eq None y = (λ e. cc, λ e. cc)

congr : (x y z : Option ℤ) → marks_eq x y ≡ true → marks_partial_cmp x z ≡ marks_partial_cmp y z
congr (Some m) (Some n) (Some o) e = signed_po.congr m n o e
congr (Some m) (Some n) None e = refl
congr (Some m) None z e = cc
congr None y z e = cc

pub marks_po : IsPartialOrder marks_eq marks_partial_cmp
marks_po = record {
  antisymm = antisymm;
  trans = less_trans;
  matches_eq = matches_eq;
  congr = congr;
}
