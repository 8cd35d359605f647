-- What a closure leaves that was called at each item in turn.
use Rattle.std.{
  proofs.{
    Common.{◌≡◌, ℕ, List, [], ◌∷◌, inl, inr, length, map, All, refl, sym, ap, ◌∙◌, subst, arith},
    lemmas.{List.Elements.All-cons, Option.{slice_get_within, get_or_from_slice_get}},
  },
  specs.{Borrow.MutBor, Fn.{AlwaysReturns, CalledAtMut, Mut}, List.splice, Prelude.slice_range},
}
use Rattle.arraydeque_ring.specs.{
  Computed.Changes,
  Written.{WritesInTurn, WritesAt, WrittenInTurn, WrittenPart, MayWriteEach},
}
use Rattle.arraydeque.proofs.Searched.{answers_first}

-- R leaves each item as `change` does in each state of which I holds, and is then in one of which it does
module _ {F X : Type 0} (R : F → X → F → X → Type 0) (I : F → Type 0) (change : X → X)
    (says : (f : F) (x : X) (g : F) (y : X) → I f → R f x g y → (y ≡ change x) × I g) where
  changed_each : (xs ys : List X) (f g : F) → I f → WritesInTurn R f xs ys g → ys ≡ map change xs
  changed_each [] [] f g now told = refl
  changed_each [] (y ∷ ys) f g now told = absurd told
  changed_each (x ∷ xs) [] f g now told = absurd told
  changed_each (x ∷ xs) (y ∷ ys) f g now told =
      let said = says f x told.0 y now told.1 in
      let rest = changed_each xs ys told.0 g said.1 told.2 in
      λ i. said.0 i ∷ rest i

-- the closure leaves each item as `change` does
module _ {F X : Type 0} (t : Mut F (MutBor X × Unit {0}) (Unit {0} × (MutBor X × Unit {0}))) (change : X → X) (f : F)
    (says : Changes t change f) where
  pub changed_all : (xs ys : List X) → WrittenInTurn (WritesAt t) f xs ys → ys ≡ map change xs
  changed_all xs ys told = elim says [
    | inl same ↦ changed_each (WritesAt t) (λ q. q ≡ f) change
        (λ q x h y is called. let said = same x tt h y (subst (λ p. WritesAt t p x h y) is called) in (said.1, said.2))
        xs ys f told.0 refl told.1
    | inr always ↦ changed_each (WritesAt t)
        (AlwaysReturns t (λ a r. (r.0 ≡ tt) × (r.1.0.now ≡ change a.0.now))) change
        (λ q x h y computes called. let next = answers_first t computes called.called in
        (sym called.leaves ∙ next.0.1 ∙ ap change called.shows, next.1))
        xs ys f told.0 always told.1
  ]

  pub changed_part : (from to : ℕ) (xs ys : List X) → WrittenPart (WritesAt t) f from to xs ys
      → ys ≡ splice xs from to (map change (slice_range xs from to))
  changed_part from to xs ys part =
      part.2 ∙ ap (splice xs from to) (changed_all (slice_range xs from to) part.0 part.1)

-- a closure that changes nothing that it captures
module _ {F X : Type 0} (t : Mut F (MutBor X × Unit {0}) (Unit {0} × (MutBor X × Unit {0}))) (f : F)
    (stays : (x : X) (h : F) (y : X) → CalledAtMut t f x tt h y → h ≡ f) where
  same_state : (xs ys : List X) (g : F) → WritesInTurn (WritesAt t) f xs ys g → g ≡ f
  same_state [] [] g told = sym told
  same_state [] (y ∷ ys) g told = absurd told
  same_state (x ∷ xs) [] g told = absurd told
  same_state (x ∷ xs) (y ∷ ys) g told =
      same_state xs ys g (subst (λ h. WritesInTurn (WritesAt t) h xs ys g) (stays x told.0 y told.1) told.2)

  -- may be called at each item if it may at any that is as P says: so it is what `for_each_mut` requires
  pub may_write : (xs : List X) (P : X → Type 0) → All P xs → ((x : MutBor X) → P x.now → t.pre f (x, tt))
      → MayWriteEach t f xs
  may_write xs P all may = record {
    asks = λ ys state x here told.
        let k = length ys in
        let is = all k x.now (slice_get_within xs k x.now here) in
        subst (λ g. t.pre g (x, tt)) (sym (same_state _ ys state told))
        (may x (subst P (get_or_from_slice_get xs k x.now x.now here) is));
  }

-- the closure, in a state as Q says, leaves each item as P says, and stays in such a state
module _ {F X : Type 0} (R : F → X → F → X → Type 0) (Q : F → Type 0) (P : X → Type 0)
    (says : (f : F) (x : X) (g : F) (y : X) → Q f → R f x g y → P y × Q g) where
  left_each : (xs ys : List X) (f g : F) → Q f → WritesInTurn R f xs ys g → All P ys
  left_each [] [] f g now told = λ k d lt. absurd (omega arith)
  left_each [] (y ∷ ys) f g now told = absurd told
  left_each (x ∷ xs) [] f g now told = absurd told
  left_each (x ∷ xs) (y ∷ ys) f g now told =
      let said = says f x told.0 y now told.1 in
      All-cons P y ys said.0 (left_each xs ys told.0 g said.1 told.2)

-- for callers of `for_each_mut` whose clause speaks of each item: by its clause `in_turn`
pub all_left : {F X : Type 0} (t : Mut F (MutBor X × Unit {0}) (Unit {0} × (MutBor X × Unit {0}))) (f : F)
    (xs ys : List X) (Q : F → Type 0) (P : X → Type 0) → WrittenInTurn (WritesAt t) f xs ys → Q f
    → ((g : F) (x : X) (h : F) (y : X) → Q g → CalledAtMut t g x tt h y → P y × Q h) → All P ys
all_left t f xs ys Q P told now says = left_each (WritesAt t) Q P says xs ys f told.0 now told.1
