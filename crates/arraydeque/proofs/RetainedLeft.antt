-- What a retain leaves whose closure tests, or tests and writes, as functions say.
use Rattle.std.{
  proofs.Common.{
    ◌≡◌,
    List,
    [],
    ◌∷◌,
    length,
    map,
    Bool,
    true,
    false,
    cond,
    inl,
    inr,
    refl,
    sym,
    ◌∙◌,
    ap,
    subst,
    arith,
  },
  specs.{
    Borrow.{Bor, MutBor},
    Fn.{AlwaysReturns, CalledAt, CalledAtMut, ComputesKey, Mut},
    List.{filter, items_where_true, Retain.{IsFiltered, ReturnsInTurn, RetainsInTurn}},
  },
}
use Rattle.arraydeque_ring.specs.Computed.{ComputesAt, ComputesAtMut}
use Rattle.arraydeque.proofs.Searched.{answers_first}

-- R answers as `test` says in each state of which I holds, and leaves one of which it does
module _ {F X : Type 0} (R : F → X → Bool → F → Type 0) (I : F → Type 0) (test : X → Bool)
    (says : (f : F) (x : X) (b : Bool) (g : F) → I f → R f x b g → (b ≡ test x) × I g) where
  first_told : (x : X) (xs : List X) (bs : List Bool) (b : Bool) → b ≡ test x
      → items_where_true bs xs ≡ filter test xs → items_where_true (b ∷ bs) (x ∷ xs) ≡ filter test (x ∷ xs)
  first_told x xs bs true is rest = ap (λ l. x ∷ l) rest ∙ ap (λ a. cond a (x ∷ filter test xs) (filter test xs)) is
  first_told x xs bs false is rest = rest ∙ ap (λ a. cond a (x ∷ filter test xs) (filter test xs)) is

  told_where : (bs : List Bool) (xs : List X) (f g : F) → I f → length bs ≡ length xs → ReturnsInTurn R f bs xs g
      → items_where_true bs xs ≡ filter test xs
  told_where [] [] f g now many told = refl
  told_where [] (x ∷ xs) f g now many told = absurd (omega arith)
  told_where (b ∷ bs) [] f g now many told = absurd told
  told_where (b ∷ bs) (x ∷ xs) f g now many told =
      let said = says f x b told.0 now told.1 in
      first_told x xs bs b said.0 (told_where bs xs told.0 g said.1 (omega arith) told.2)

  told_kept : (f : F) (xs ys : List X) → I f → IsFiltered R f xs ys → ys ≡ filter test xs
  told_kept f xs ys now kept = kept.4 ∙ told_where kept.0 xs f kept.1 now kept.2 kept.3

-- the same of R that writes, as `change` says
module _ {F X : Type 0} (R : F → X → Bool → F → X → Type 0) (I : F → Type 0) (test : X → Bool) (change : X → X)
    (says : (f : F) (x : X) (b : Bool) (g : F) (y : X) → I f → R f x b g y → (b ≡ test x) × (y ≡ change x) × I g) where
  map-cond : (b : Bool) (x : X) (xs : List X) → map change (cond b (x ∷ xs) xs)
      ≡ cond b (change x ∷ map change xs) (map change xs)
  map-cond true x xs = refl
  map-cond false x xs = refl

  told_left : (f : F) (xs ys : List X) → I f → RetainsInTurn R f xs ys → ys ≡ map change (filter test xs)
  told_left f [] ys now told = told
  told_left f (x ∷ xs) ys now told =
      let said = says f x told.0 told.1 told.2 now told.3 in
      let rest = told_left told.1 xs told.4 said.2 told.5 in
      told.6 ∙ (λ i. cond (said.0 i) (said.1 i ∷ rest i) (rest i)) ∙ sym (map-cond (test x) x (filter test xs))

pub kept_where : {F X : Type 0} (g : Mut F (Bor X × Unit {0}) Bool) (test : X → Bool) (f : F) → ComputesAt g test f
    → (xs ys : List X) → IsFiltered (CalledAt g) f xs ys → ys ≡ filter test xs
kept_where g test f says xs ys kept = elim says [
  | inl same ↦ told_kept (CalledAt g) (λ q. q ≡ f) test
      (λ q x b h is called. same x b h (subst (λ p. CalledAt g p x b h) is called)) f xs ys refl kept
  | inr always ↦ told_kept (CalledAt g) (ComputesKey g test) test
      (λ q x b h computes called. let next = answers_first g computes called.called in
      (next.0 ∙ ap test called.shows, next.1))
      f xs ys always kept
]

pub left_where : {F X : Type 0} (g : Mut F (MutBor X × Unit {0}) (Bool × (MutBor X × Unit {0}))) (test : X → Bool)
    (change : X → X) (f : F) → ComputesAtMut g test change f
    → (xs ys : List X) → RetainsInTurn (CalledAtMut g) f xs ys → ys ≡ map change (filter test xs)
left_where g test change f says xs ys kept = elim says [
  | inl same ↦ told_left (CalledAtMut g) (λ q. q ≡ f) test change
      (λ q x b h y is called. same x b h y (subst (λ p. CalledAtMut g p x b h y) is called)) f xs ys refl kept
  | inr always ↦ told_left (CalledAtMut g)
      (AlwaysReturns g (λ a r. (r.0 ≡ test a.0.now) × (r.1.0.now ≡ change a.0.now))) test change
      (λ q x b h y computes called. let next = answers_first g computes called.called in
      (next.0.0 ∙ ap test called.shows, sym called.leaves ∙ next.0.1 ∙ ap change called.shows, next.1))
      f xs ys always kept
]
