-- How a walk begins and ends, by its function's parameters, told one by one: `mutable` for a `&mut`, `seen` for a `&`,
-- `item`, `whole_slots`, `handle`, `word` or else `told` for one by value, and at the end `words n`. Assumes `Logic`.
use Rattle.arraydeque_ring.proofs.memory.{
  Kit.{stay_ref, Goes-ref, MutBor, List, [], ◌∷◌, ℕ, zero, refl, suc, Ura, SProp, ent, id⊢, Logic},
  Kit.{Fn, Val, ◌≡◌, Bool, named, w64, sem, sep, ‵, raw, ◌⊛◌, at_ret, ◌$◌, ◌∵◌, !, qed, move},
  Kit.{split, fsplit, fsplit3, true, false, fjoin, fjoin3, feq_i, suffices, done, enter, flft},
  Kit.{fobs, fbor, Borrowed, mem, RattleType, owns, types_at, plain, usize, uint_vals, mut_vals},
  Kit.{mut_Tells, yes, no, nothing, Stays, stay_dropped, Goes-dropped, Goes-spent_ref, heap_Tells},
  Kit.{El, R, elτ, one, lawful, shr_Tells, tables, ftrue, fsep, vint, proved_at, walk_of, use1},
  Kit.{Item, WpFn, subst, sym, via, drop, Fml, frame, by, Good, layout, Is, number, ty_array},
  Kit.length,
  Regions.Sr,
}
use base.Logic.{emp∗}
use prog.{Model.Model, Wp.Closed}
use mir.Syntax.{Callee}
use contract.{Lifetimes.{Lfts, Shares, AllOutlive, Outlives, toks}, Running.Running}
use types.Kit.{Sq, prop, runs, allocs, params', ⋆, push}
use denote.{
  Exit.{Kept, Last, Entries, all_last, rest},
  Laws.{Ises, Are, Tells},
  Param.{ArrayAt, param, Laws.{number_array_laws, param_laws}},
  RattleType.{Denots, Valss, flat},
  Signature.{Slot, AllWithin, type_at, mut_ref_to, shr_ref_to, meet_at},
  Triple.{
    Clauses.{Ended, Clauses, closing, at_exit},
    End.{Kepts, Fins},
    Entry.Res,
    Spec.Meets,
    Walked.{Stay, Goes, AllGo, Silent, fits_of, has_of},
  },
}
use Rattle.std.proofs.raw_atomic.Walks.{leaves}
use Rattle.std.specs.contracts.alloc.Global as heap

module _ {M : Type 1} {𝓤 : Ura M} (𝓛 : Logic 𝓤) (m : ℕ) where
  -- of parameters passed as a: how the machine stores them, what a walk has of them, and what it owes at its end
  pub record Passed (ss : List (Slot m)) (ks : Kepts ss) (hs : Stays ss ks) (κs : Lfts m) (a : Denots (types_at ss κs))
      : Type 2 where
    pub Stored : Type 0
    pub vals : Stored → Valss (types_at ss κs)
    pub told : (vss : Valss (types_at ss κs)) → Are (types_at ss κs) (Ises (types_at ss κs)) a vss
        → (s : Stored) × (vss ≡ vals s)
    pub Had : Stored → List (Item 𝓤) → List (Item 𝓤)
    pub has : (s : Stored) (Γ : List (Item 𝓤)) → Sq 𝓛 (‵ (owns (types_at ss κs) a (vals s)) ∷ Γ) (prop (⋆ 𝓛 (Had s Γ)))
    pub Lasts : Type 0
    pub lasts : Lasts → (ws : Fins κs ss ks a) × fits_of κs ss ks hs a ws
    pub Owed : Lasts → SProp 𝓤 → SProp 𝓤
    pub owes : (s : Stored) (w : Lasts) (P : SProp 𝓤)
        → ent 𝓤 (Owed w P) (sep 𝓤 (sem 𝓛 (has_of κs ss ks hs a (lasts w).0 (vals s))) P)

  pub record Params : Type 2 where
    pub slots : List (Slot m)
    pub kept : Kepts slots
    pub stays : Stays slots kept
    pub go : AllGo 𝓛 m slots kept stays
    pub passed : (κs : Lfts m) (a : Denots (types_at slots κs)) → Passed slots kept stays κs a

  -- what becomes of a `&mut` at the lifetime j
  module _ (j : ℕ) (ok : AllWithin m (j ∷ [])) (S : RattleType) where
    abbrev Self : Slot m
    Self = mut_ref_to (j ∷ []) ok (plain (λ _. S))

    abbrev obs : MutBor S.Denot → S.Denot → Fml
    obs x w = fobs x.ghost_name (S.coded.code w)

    abbrev bor : Lfts m → MutBor S.Denot → Fml
    bor κs x = fbor (meet_at m (j ∷ []) ok κs) (Borrowed (mem S) x.ref_ptr.0 x.ref_ptr.1 x.ghost_name)

    pub record Fate : Type 2 where
      pub kept : Kept
      pub stay : Stay Self kept
      pub goes : Goes 𝓛 m Self kept stay
      pub And : Type 0 → Type 0
      pub last : (κs : Lfts m) (x : MutBor S.Denot) {X : Type 0} → And X
          → ((w : Last ((Self.row κs).exit kept) x) × stay.fit κs x w) × X
      pub Owed : (κs : Lfts m) (x : MutBor S.Denot) → Last ((Self.row κs).exit kept) x → SProp 𝓤 → SProp 𝓤
      pub owes : (κs : Lfts m) (x : MutBor S.Denot) (w : Last ((Self.row κs).exit kept) x) (P : SProp 𝓤)
          → ent 𝓤 (Owed κs x w P) (sep 𝓤 (sem 𝓛 (stay.has κs x w (mut_vals x))) P)

    -- it comes back at its last value
    abbrev pub back : Fate
    back = record {
      kept = yes;
      stay = stay_ref (j ∷ []) ok (plain (λ _. S));
      goes = Goes-ref 𝓛 m j ok (plain (λ _. S));
      And = λ X. S.Denot × X;
      last = λ κs x w. ((w.0, tt), w.1);
      Owed = λ κs x w P. sep 𝓤 (sem 𝓛 (obs x w)) (sep 𝓤 (sem 𝓛 (bor κs x)) P);
      owes = λ κs x w P. qed 𝓛 (‵ (obs x w) ∷ ‵ (bor κs x) ∷ raw P ∷ []) ∵
          feq_i ! _ (mut_vals x) _ refl $ fjoin3 ! $ done !;
    }

abbrev shown : {M : Type 1} {𝓤 : Ura M} → Bool → Fml → List (Item 𝓤) → List (Item 𝓤)
shown true F Γ = ‵ F ∷ Γ
shown false F Γ = Γ

-- at the end nothing is said of items that went by value
pub none_told : {M : Type 1} {𝓤 : Ura M} (𝓛 : Logic 𝓤) {X : Type 0} (xs : List X) (fs : Entries (λ _. Unit {0}) xs)
    → ent 𝓤 (sem 𝓛 ftrue) (sem 𝓛 (all_last (λ _. Unit {0}) (λ _ _. ftrue) xs fs))
none_told {𝓤 = 𝓤} 𝓛 [] fs = id⊢ 𝓤 _
none_told 𝓛 (x ∷ xs) fs = qed 𝓛 (‵ ftrue ∷ []) ∵
    use1 𝓛 (‵ (all_last (λ _. Unit {0}) (λ _ _. ftrue) xs fs.1)) (none_told 𝓛 xs fs.1) $ nothing ! $ fjoin ! $ done !

module _ {M : Type 1} {𝓤 : Ura M} {𝓛 : Logic 𝓤} where
  pub beside : {F G : Fml} {Γ : List (Item 𝓤)} (Δ : List (Item 𝓤)) {P : SProp 𝓤} → Sq 𝓛 (‵ F ∷ Δ) (prop P)
      → Sq 𝓛 (‵ G ∷ Γ) (prop (⋆ 𝓛 Δ)) → Sq 𝓛 (‵ (fsep F G) ∷ Γ) (prop P)
  beside {F} Δ first others = suffices ! (sep 𝓤 (sem 𝓛 F) (⋆ 𝓛 Δ)) (via 𝓤 (⋆ 𝓛 (‵ F ∷ Δ)) (push 𝓛 (‵ F) Δ) first.prf) $
      fsplit ! $ frame ! $ others

  pub is_shown : (b : Bool) (F : Fml) (Γ : List (Item 𝓤)) → Sq 𝓛 (‵ F ∷ Γ) (prop (⋆ 𝓛 (shown b F Γ)))
  is_shown true F Γ = done !
  is_shown false F Γ = drop ! $ done !

  module _ {m : ℕ} where
    -- one that ends in the call, shown at entry or not
    abbrev pub ended : (s : Slot m) (k : Kept) → Goes 𝓛 m s k (stay_dropped s k) → Bool
        → (Store : (κs : Lfts m) → (s.row κs).Denot → Type 0)
        (spell : (κs : Lfts m) (x : (s.row κs).Denot) → Store κs x → List Val)
        → ((κs : Lfts m) (x : (s.row κs).Denot) (vs : List Val) → Is (s.row κs) x vs
        → (t : Store κs x) × (vs ≡ spell κs x t)) → Params 𝓛 m → Params 𝓛 m
    ended s k goes visible Store spell told ps = record {
      slots = s ∷ ps.slots;
      kept = (k, ps.kept);
      stays = (stay_dropped s k, ps.stays);
      go = (goes, ps.go);
      passed = λ κs a. let r = ps.passed κs a.1 in record {
        Stored = Store κs a.0 × r.Stored;
        vals = λ t. (spell κs a.0 t.0, r.vals t.1);
        told = λ vss are. let t = told κs a.0 vss.0 are.0 in let u = r.told vss.1 are.1 in
            ((t.0, u.0), λ i. (t.1 i, u.1 i));
        Had = λ t Γ. shown visible ((s.row κs).own_val a.0 (spell κs a.0 t.0)) (r.Had t.1 Γ);
        has = λ t Γ. beside (r.Had t.1 Γ) (is_shown visible _ _) (r.has t.1 Γ);
        Lasts = r.Lasts;
        lasts = λ w. let ws = r.lasts w in ((rest ((s.row κs).exit k) a.0, ws.0), (tt, ws.1));
        Owed = r.Owed;
        owes = λ t w P. via 𝓤 _ (r.owes t.1 w P)
            (qed 𝓛 (‵ (has_of κs ps.slots ps.kept ps.stays a.1 (r.lasts w).0 (r.vals t.1)) ∷ raw P ∷ []) ∵
            nothing ! $ fjoin ! $ done !);
      };
    }

    -- and of which nothing is told then
    abbrev pub gone : (s : Slot m) (k : Kept) → Silent 𝓛 m s k → Bool
        → (Store : (κs : Lfts m) → (s.row κs).Denot → Type 0)
        (spell : (κs : Lfts m) (x : (s.row κs).Denot) → Store κs x → List Val)
        → ((κs : Lfts m) (x : (s.row κs).Denot) (vs : List Val) → Is (s.row κs) x vs
        → (t : Store κs x) × (vs ≡ spell κs x t)) → Params 𝓛 m → Params 𝓛 m
    gone s k silent = ended s k (Goes-dropped 𝓛 m s k silent)

    -- one whose value tells how the machine stores it
    abbrev pub told : (s : Slot m) → Silent 𝓛 m s yes → Bool → {spell : (κs : Lfts m) → (s.row κs).Denot → List Val}
        → ((κs : Lfts m) → Tells (s.row κs) (Is (s.row κs)) (spell κs)) → Params 𝓛 m → Params 𝓛 m
    told s silent visible {spell} tells = gone s yes silent visible (λ κs x. Is (s.row κs) x (spell κs x))
        (λ κs x _. spell κs x)
        (λ κs x vs is. let same = tells κs x vs is in (subst (Is (s.row κs) x) same is, same))

    -- an item by value
    abbrev pub item : El → Params 𝓛 m → Params 𝓛 m
    item E = gone (plain (λ _. R E)) no (λ _ _ _. refl) true (λ _ _. (v : Val) × Good (elτ E) v) (λ _ x t. t.0 ∷ [])
        (λ _ x vs is. let it = one E vs ((lawful E 𝓛).typed x vs is) in ((it.0, it.2), it.1))

    -- N items by value, as one array
    abbrev pub block : El → ℕ → Params 𝓛 m → Params 𝓛 m
    block E N = let N' = param 1 (number N) in let Items = ArrayAt (R E) N' in
        let laws = number_array_laws (R E) (param_laws 0 E.row E.laws) N' refl in
        ended (plain (λ _. Items)) no (λ _ xs fs _ _. via 𝓤 _ (none_told 𝓛 xs fs) (𝓛.laws.⇛_intro _)) true
        (λ _ xs. (v : Val) × Good (ty_array (elτ E) N) v × (length xs ≡ N)) (λ _ _ t. t.0 ∷ [])
        (λ _ xs vs is. let it = one (record { row = Items; laws = laws }) vs ((laws.lawful 𝓛).typed xs vs is) in
        ((it.0, it.2, is.1.0.1), it.1))

    -- a region by value
    abbrev pub whole_slots : El → Params 𝓛 m → Params 𝓛 m
    whole_slots E = gone (plain (λ _. Sr E)) no (λ _ _ _. refl) true (λ _ _. List Val) (λ _ _ vs. vs)
        (λ _ _ vs _. (vs, refl))

    -- the allocator by value
    abbrev pub handle : Params 𝓛 m → Params 𝓛 m
    handle = told (plain (λ _. heap.the_row)) (λ _ _ _. refl) false (λ _. heap_Tells)

    -- a `&mut`
    abbrev pub mutable : {j : ℕ} {ok : AllWithin m (j ∷ [])} {S : RattleType} → Fate 𝓛 m j ok S → Params 𝓛 m
        → Params 𝓛 m
    mutable {j} {ok} {S} fate ps = record {
      slots = Self 𝓛 m j ok S ∷ ps.slots;
      kept = (fate.kept, ps.kept);
      stays = (fate.stay, ps.stays);
      go = (fate.goes, ps.go);
      passed = λ κs a. let r = ps.passed κs a.1 in let x : MutBor S.Denot = a.0 in record {
        Stored = r.Stored;
        vals = λ t. (mut_vals x, r.vals t);
        told = λ vss are. let u = r.told vss.1 are.1 in
            (u.0, λ i. (mut_Tells (named j) (meet_at m (j ∷ []) ok κs) S x vss.0 are.0 i, u.1 i));
        Had = λ t Γ. ‵ (obs 𝓛 m j ok S x x.now) ∷ ‵ (bor 𝓛 m j ok S κs x) ∷ r.Had t Γ;
        has = λ t Γ. beside (r.Had t Γ) (fsplit3 ! $ drop ! $ done !) (r.has t Γ);
        Lasts = fate.And r.Lasts;
        lasts = λ w. let end = fate.last κs x w in let ws = r.lasts end.1 in ((end.0.0, ws.0), (end.0.1, ws.1));
        Owed = λ w P. let end = fate.last κs x w in fate.Owed κs x end.0.0 (r.Owed end.1 P);
        owes = λ t w P. let end = fate.last κs x w in
            let Others = has_of κs ps.slots ps.kept ps.stays a.1 (r.lasts end.1).0 (r.vals t) in
            via 𝓤 _ (fate.owes κs x end.0.0 _)
            (qed 𝓛 (‵ (fate.stay.has κs x end.0.0 (mut_vals x)) ∷ raw (r.Owed end.1 P) ∷ []) ∵ move ! (1 ∷ []) $
            use1 𝓛 (‵ Others ⊛ raw P) (r.owes t end.1 P) $ split ! $ move ! (2 ∷ 0 ∷ []) $ fjoin ! $ done !);
      };
    }

    abbrev pub word : Params 𝓛 m → Params 𝓛 m
    word = gone (plain (λ _. usize)) yes (λ _ _ _. refl) false (λ κs n. Good (layout usize) (vint w64 n))
        (λ κs n _. uint_vals w64 n) (λ κs n vs is. ((tt, record { fits = is.1 }), is.0))

    abbrev pub words : ℕ → Params 𝓛 m
    words zero = record {
      slots = [];
      kept = tt;
      stays = tt;
      go = tt;
      passed = λ κs a. record {
        Stored = Unit {0};
        vals = λ s. tt;
        told = λ vss are. (tt, refl);
        Had = λ s Γ. Γ;
        has = λ s Γ. drop ! $ done !;
        Lasts = Unit {0};
        lasts = λ w. (tt, tt);
        Owed = λ w P. P;
        owes = λ s w P. emp∗ 𝓤 P;
      };
    }
    words (suc n) = word (words n)

  -- a `&` at the first lifetime
  abbrev pub seen : {m : ℕ} → RattleType → Params 𝓛 (suc m) → Params 𝓛 (suc m)
  seen S = told (shr_ref_to (0 ∷ []) tt (plain (λ _. S))) (λ _ _ _. refl) true (λ κs. shr_Tells (named 0) κs.0 S)

module _ (m : ℕ) {M : Type 1} {𝓤 : Ura M} (𝓛 : Logic 𝓤) where
  abbrev pub spent : (S : RattleType) → Fate 𝓛 (suc m) 0 tt S
  spent S = record {
    kept = no;
    stay = stay_dropped _ no;
    goes = Goes-spent_ref 𝓛 (suc m) (0 ∷ []) tt (plain (λ _. S));
    And = λ X. X;
    last = λ κs x w. ((tt, tt), w);
    Owed = λ κs x w P. sep 𝓤 (sem 𝓛 ftrue) P;
    owes = λ κs x w P. id⊢ 𝓤 _;
  }

  abbrev pub comes_back : (S : RattleType) → Fate 𝓛 (suc m) 0 tt S
  comes_back S = back 𝓛 (suc m) 0 tt S

  module _ (ps : Params 𝓛 (suc m)) where
    abbrev Method : List (Outlives (suc m)) → Slot (suc m) → Ended
    Method os res = record {
      signature = record { lifetimes = suc m; outlives = os; params = ps.slots; result = res };
      kept = ps.kept;
    }

    -- at entry a walk has [the tokens and what the parameters own; what is required],
    -- or apart [what is required; what is had of the parameters; the first token; the others]
    abbrev Begins : Bool → (κs : Lfts (suc m)) → Shares (suc m) → (a : Denots (types_at ps.slots κs))
        → (ps.passed κs a).Stored → SProp 𝓤 → List (Item 𝓤)
    Begins false κs qs a s P = raw (sep 𝓤 (toks 𝓛 (suc m) κs qs)
        (sem 𝓛 (owns (types_at ps.slots κs) a ((ps.passed κs a).vals s)))) ∷ raw P ∷ []
    Begins true κs qs a s P = raw P ∷ (ps.passed κs a).Had s (‵ (flft κs.0 qs.0) ∷ raw (toks 𝓛 m κs.1 qs.1) ∷ [])

    -- a walk is handed how the parameters are stored, and how it ends:
    -- with what it owes of them, the result, the tokens and what is ensured
    abbrev Walking : Bool → Type 2
    Walking apart = (𝓜 : Model 𝓤 𝓛.H) (𝓡 : Running 𝓤 𝓛.H 𝓜) (os : List (Outlives (suc m))) (res : Slot (suc m))
        → let T = Method os res in (c : Clauses 𝓤 T) (k : Callee) (e : Fn) → let 𝓣 = tables 𝓤 𝓛.H 𝓜 𝓡 𝓡.env in
        Closed 𝓤 𝓛.H 𝓣.C 𝓣.Λ k e
        → ((κs : Lfts (suc m)) (qs : Shares (suc m)) (bounds : AllOutlive (suc m) os κs)
        (a : Denots (types_at ps.slots κs)) → let p = ps.passed κs a in (g : (c κs a).ghost) (s : p.Stored)
        (post : Val → SProp 𝓤)
        → ((v : Val) (r : Res T.signature κs) (w : p.Lasts) → ent 𝓤 (p.Owed w (sep 𝓤 (sem 𝓛 ((type_at res κs).own_val r
        (v ∷ []))) (sep 𝓤 (toks 𝓛 (suc m) κs qs) ((c κs a).ensures g r (at_exit T κs a (p.lasts w).0))))) (post v))
        → Sq 𝓛 (Begins apart κs qs a s ((c κs a).requires g)) (allocs e.locals (λ En. params' En
        (flat (types_at ps.slots κs) (p.vals s)) (runs 𝓣.C 𝓣.Λ En e.body (at_ret En post)))))
        → Meets 𝓛 T.signature (𝓣.C k) (closing 𝓛 T c)

    as_whole : Walking false
    as_whole 𝓜 𝓡 os res c k e closed walk =
        let T = Method os res in let W = walk_of 𝓛 T ps.stays c in let 𝓣 = tables 𝓤 𝓛.H 𝓜 𝓡 𝓡.env in
        proved_at 𝓛 T ps.stays c 𝓜 𝓡 ps.go k e closed (λ z are.
        let κs = z.0.0 in let qs = z.0.1 in let a = z.0.3 in let p = ps.passed κs a in let told = p.told z.0.4 are in
        let s = told.0 in let y : W.Ghost = ((κs, qs, z.0.2, a, p.vals s), z.1) in
        let Goes : W.Ghost → Type 1 = λ x. ent 𝓤 (W.pre x) (WpFn 𝓤 𝓛.H 𝓣.C 𝓣.Λ e (W.args x) (W.post x)) in
        subst (λ (vss : Valss (types_at ps.slots κs)). Goes ((κs, qs, z.0.2, a, vss), z.1)) (sym told.1) (
        qed 𝓛 (Begins false κs qs a s ((c κs a).requires z.1)) ∵
        enter ! _ _ _ _ _ $ walk κs qs z.0.2 a z.1 s (W.post y) (λ v r w.
        via 𝓤 _ (p.owes s w _)
        (qed 𝓛 (‵ (has_of κs ps.slots ps.kept ps.stays a (p.lasts w).0 (p.vals s))
        ∷ ‵ ((type_at res κs).own_val r (v ∷ [])) ∷ raw (toks 𝓛 (suc m) κs qs)
        ∷ raw ((c κs a).ensures z.1 r (at_exit T κs a (p.lasts w).0)) ∷ []) ∵ move ! (2 ∷ []) $
        by ! (leaves 𝓛 T ps.stays c y v r (p.lasts w).0 (p.lasts w).1)))))

    pub walked : Walking true
    walked 𝓜 𝓡 os res c k e closed walk = as_whole 𝓜 𝓡 os res c k e closed (λ κs qs bounds a g s post ends.
        let p = ps.passed κs a in let Γ = ‵ (flft κs.0 qs.0) ∷ raw (toks 𝓛 m κs.1 qs.1) ∷ [] in
        let P = (c κs a).requires g in
        by ! (via 𝓤 _ (qed 𝓛 (Begins false κs qs a s P) ∵
        suffices ! (sep 𝓤 P (⋆ 𝓛 (p.Had s Γ))) (push 𝓛 (raw P) (p.Had s Γ)) $ move ! (1 ∷ []) $ frame ! $
        use1 𝓛 ((‵ (flft κs.0 qs.0) ⊛ raw (toks 𝓛 m κs.1 qs.1))
        ⊛ ‵ (owns (types_at ps.slots κs) a (p.vals s))) (id⊢ 𝓤 _) $ split ! $ split ! $ move ! (2 ∷ []) $ p.has s Γ)
        (walk κs qs bounds a g s post ends).prf))

-- for a `&mut` and n words
module _ (m n : ℕ) (S : RattleType) {M : Type 1} {𝓤 : Ura M} (𝓛 : Logic 𝓤) (fate : Fate 𝓛 (suc m) 0 tt S) where
  pub passing_on : Walking m 𝓛 (mutable fate (words n)) false
  passing_on = as_whole m 𝓛 (mutable fate (words n))

  pub method : Walking m 𝓛 (mutable fate (words n)) true
  method = walked m 𝓛 (mutable fate (words n))

-- the machine values of a `&mut` and of words
module _ (m : ℕ) (κs : Lfts (suc m)) where
  abbrev usizes : ℕ → List RattleType
  usizes zero = []
  usizes (suc n) = usize ∷ usizes n

  abbrev word_vals : (n : ℕ) → Denots (usizes n) → Valss (usizes n)
  word_vals zero a = tt
  word_vals (suc n) a = (uint_vals w64 a.0, word_vals n a.1)

  abbrev pub machine_values : {X : Type 0} (n : ℕ) → MutBor X × Denots (usizes n) → List Val × Valss (usizes n)
  machine_values n a = (mut_vals a.0, word_vals n a.1)
