-- The text of a list, item by item.
use Rattle.std.{
  proofs.Common.{ℤ, ℕ, Bool, true, false, List, ◌++◌, codes, flat_map},
  specs.{Fmt.signed_decimal, List.join_by},
}

-- what is yet to be printed of a list, at its first item or later
abbrev pub text_left : Bool → List ℤ → List ℕ
text_left true items = join_by signed_decimal (codes ", ") items
text_left false items = flat_map (λ x. codes ", " ++ signed_decimal x) items
