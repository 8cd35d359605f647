-- Two lists in three parts each, which face each other in pairs, and lists behind equal pairs.
use Rattle.std.specs.{
  Cmp.Lexicographic.pointwise,
  Prelude.{◌≡◌, ◌<◌, Bool, true, List, [], ◌++◌, length},
}
use Rattle.arraydeque.specs.declared.deque.compare.Sections.{Sections}

module _ {X : Type 0} where
  -- two lists, cut behind xs and behind ys: both at one index, or the one that is cut earlier ends
  -- there
  pub record AreCutAlike (xs xs-left ys ys-left : List X) : Type 0 where
    pub first_ends : length xs < length ys → xs-left ≡ []
    pub second_ends : length ys < length xs → ys-left ≡ []

  -- the parts are those of xs and of ys, cut at the same two indexes as far as both lists go
  pub record AreSectionsOf (xs ys : List X) (cut : Sections X) : Type 0 where
    pub first : xs ≡ cut.front.0.now ++ (cut.middle.0.now ++ cut.back.0.now)
    pub second : ys ≡ cut.front.1.now ++ (cut.middle.1.now ++ cut.back.1.now)
    pub front : length cut.front.0.now ≡ length cut.front.1.now
    pub middle : AreCutAlike cut.middle.0.now cut.back.0.now cut.middle.1.now cut.back.1.now

  -- the backs are those of xs and of ys behind pairs that are all equal
  pub record AreBehindEqual (E : X → X → Bool) (xs ys xs-back ys-back : List X) : Type 0 where
    pub xs-front : List X
    pub ys-front : List X
    pub first : xs ≡ xs-front ++ xs-back
    pub second : ys ≡ ys-front ++ ys-back
    pub equal : pointwise E xs-front ys-front ≡ true
