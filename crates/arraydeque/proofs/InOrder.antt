-- An iterator whose state is the list that is left gives that list, whatever run it makes: in order at the front, in
-- reverse at the back.
use Rattle.std.{
  proofs.{Common.{length, ap}, iter.runs.Sources.{from_front, from_back, as_is, as_is_back}},
  specs.Map.Iter.{TakesFirst, TakesLast, GivesInOrder, GivesInReverse},
}

module _ {X : Type 0} where
  pub gives_in_order : GivesInOrder X
  gives_in_order p seen = as_is p p.from
      (from_front (TakesFirst (λ x. x)) (λ x. x) (λ s. s) (λ s t none. ap length none.0) (λ s x t some. some) p seen)

  pub gives_in_reverse : GivesInReverse X
  gives_in_reverse p seen = as_is_back p p.from
      (from_back (TakesLast (λ x. x)) (λ x. x) (λ s. s) (λ s t none. ap length none.0) (λ s x t some. some) p seen)
