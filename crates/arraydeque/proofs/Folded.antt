-- A fold that goes over a list slice by slice: how far it has come.
use Rattle.std.{
  proofs.{
    Common.{◌≡◌, ℕ, ◌+◌, ◌<◌, ◌≤◌, List, [], ◌∷◌, ◌++◌, length, drop, get_or, refl, subst},
    Common.{append-nil, arith},
    iter.Next.{Yields-more, served, Serves-on},
    lemmas.List.{drop_more, drop_all},
    SliceLists.chained_more,
  },
  specs.{
    Borrow.Bor,
    Fn.{Called, Takes, Mut},
    Iterator.{YieldsFirstRef, Yields, FoldTurn, CallableInFold, FoldsItems},
    List.FoldsTo,
  },
}

-- a fold of `whole` from f and `init` on has called at the items before `rest`, which led to g and `total`, and may
-- go on
pub record Folded {X A F : Type 0} (call : Mut F (A × (Bor X × Unit {0})) A) (whole : List X) (f : F) (init : A)
    (rest : List X) (g : F) (total : A) : Type 0 where
  pub items : List (Bor X)
  pub gave : Yields (YieldsFirstRef (λ xs. xs)) whole items rest
  pub led : FoldsTo {P = F × A} (FoldTurn call) (f, init) items (g, total)
  pub callable : CallableInFold (YieldsFirstRef (λ xs. xs)) call rest g total

-- at the item i of a slice, before `others`; that g may be called there stands apart, for `search`
abbrev pub FoldedTo : {X A F : Type 0} → Mut F (A × (Bor X × Unit {0})) A → List X → F → A → List X → List X → ℕ → F
    → A → Type 0
FoldedTo {X} call whole f init slice others i g total = Folded call whole f init (drop i slice ++ others) g total
    × ((x : Bor X) → i < length slice → x.now ≡ get_or slice i x.now → Takes call g (total, (x, tt)))

module _ {X A F : Type 0} {call : Mut F (A × (Bor X × Unit {0})) A} {whole : List X} {f : F} {init : A} where
  pub nothing_folded : CallableInFold (YieldsFirstRef (λ xs. xs)) call whole f init
      → Folded call whole f init whole f init
  nothing_folded callable = record { items = []; gave = refl; led = refl; callable = callable }

  pub all_folded : {g : F} {total : A} → Folded call whole f init [] g total
      → FoldsItems (YieldsFirstRef (λ xs. xs)) call whole f init total
  all_folded {g = g} s = (s.items, g, ([], ([], s.gave, (refl, refl))), s.led)

  module _ (slice others : List X) (i : ℕ) {g : F} {total : A}
      (s : Folded call whole f init (drop i slice ++ others) g total) where
    pub slice_folded : length slice ≤ i → Folded call whole f init (others ++ []) g total
    slice_folded past = subst (λ rest. Folded call whole f init rest g total)
        (grind (arith, drop_all i slice, append-nil others)) s

    opens : (x : Bor X) → i < length slice → x.now ≡ get_or slice i x.now
        → drop i slice ++ others ≡ x.now ∷ (drop (i + 1) slice ++ others)
    opens x within here = grind (arith, drop_more slice i x.now)

    pub going : FoldedTo call whole f init slice others i g total
    going = (s, λ x within here. served s.callable x _ (opens x within here))

    pub next_folded : (x : Bor X) → i < length slice → x.now ≡ get_or slice i x.now → {h : F} {sum : A}
        → Called call g (total, (x, tt)) sum h
        → Folded call whole f init (drop (i + 1) slice ++ others) h sum
    next_folded x within here called =
        let opened = opens x within here in
        record {
          items = s.items ++ x ∷ [];
          gave = Yields-more (YieldsFirstRef (λ xs. xs)) whole s.items _ x _ s.gave opened;
          led = chained_more (FoldTurn call) _ s.items _ x _ s.led called;
          callable = Serves-on s.callable x _ opened _ called;
        }
