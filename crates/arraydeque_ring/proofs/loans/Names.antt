-- A loan under a name of its lender's own type: how it is made, and handed on by what holds the lender.
-- For any types in memory. Assumes `Logic`.
use Rattle.arraydeque_ring.proofs.memory.{
  Kit.{via, ◌≡◌, mono_r, refl, SProp, ent, sep, wand, id⊢, emp, snd∗, flft, Lft, GName, Share},
  Kit.{fsep, fobs, fauth, fbor, ‵, raw, ◌⊛◌, later, ◌$◌, ◌∵◌, !, qed, move, keep, use0, use1, use2},
  Kit.{drop, split, fsplit, fjoin, fpick, fpack, feq_l, rewrite, suffices, await, done, wand_i},
  Kit.{all, apply∗, all_e, upd_i, fex, fres, fwand, fupd, fdead, flent, fseps, each, split3},
  Kit.{assume, group, ℕ, [], ◌∷◌, Ura, Gv, Logic, sem, name_new, Step, step, SemTy, after₂, some},
  Kit.{pick, RattleType, Goal, Soaks, Seq, Item, List, named, vptr, feq_i, fjoin3, mem},
}
use types.{
  Follow.{after, follows_anew, came, Came, followed, followed₂, takes_two},
  Kit.mean,
  Late.{bor_new_deep, deep, close_deep},
  Mut.open_ref,
  SemTy.Body,
}
use ghost.Rules.{aged}
use denote.Ref.{MutRef}
use base.Stored.{Coded}

-- who has the value under ν has it under γ, as F makes it
module _ {M : Type 1} {𝓤 : Ura M} (𝓛 : Logic 𝓤) (R S : SemTy) (F : S.rep → R.rep) (γ ν : GName) where
  open 𝓛 use {A}

  abbrev Turn : S.rep → SProp 𝓤
  Turn w = wand 𝓤 (A.auth ν (S.coded.code w)) (A.auth γ (R.coded.code (F w)))

  abbrev Turns : SProp 𝓤
  Turns = all 𝓤 Turn

  turned : (w : S.rep) → ent 𝓤 (sep 𝓤 (A.auth ν (S.coded.code w)) Turns) (A.auth γ (R.coded.code (F w)))
  turned w = via 𝓤 (sep 𝓤 (A.auth ν (S.coded.code w)) (Turn w)) (mono_r 𝓤 (A.auth ν (S.coded.code w)) (all_e 𝓤 Turn w))
      (apply∗ 𝓤 (A.auth ν (S.coded.code w)) (A.auth γ (R.coded.code (F w))))

-- what follows a value that follows two follows the two
module _ {M : Type 1} {𝓤 : Ura M} (𝓛 : Logic 𝓤) (R S T : SemTy) (F : S.rep → R.rep) (P : T.rep → T.rep → S.rep)
    (J : T.rep → T.rep → R.rep) (γ ν γ₁ γ₂ : GName) where
  open 𝓛 use {A}

  abbrev Ends : T.rep × T.rep → SProp 𝓤
  Ends w = sep 𝓤 (A.res γ₁ (T.coded.code w.0)) (A.res γ₂ (T.coded.code w.1))

  pub followed_both : ((t u : T.rep) → F (P t u) ≡ J t u)
      → ent 𝓤 (sep 𝓤 (sem 𝓛 (after R S γ ν F)) (sem 𝓛 (after₂ S T T ν γ₁ γ₂ P))) (sem 𝓛 (after₂ R T T γ γ₁ γ₂ J))
  followed_both is =
      qed 𝓛 (‵ (after R S γ ν F) ∷ ‵ (after₂ S T T ν γ₁ γ₂ P) ∷ []) ∵ each ! (λ (w : T.rep × T.rep).
      wand 𝓤 (Ends w) (A.res γ (R.coded.code (J w.0 w.1)))) (λ w. assume ! (raw (Ends w)) $ move ! (0 ∷ 2 ∷ []) $
      use2 𝓛 (‵ (fres ν (S.coded.code (P w.0 w.1)))) (followed₂ 𝓛 S T T P ν γ₁ γ₂ w.0 w.1) $ move ! (1 ∷ 0 ∷ []) $
      use2 𝓛 (‵ (fres γ (R.coded.code (F (P w.0 w.1))))) (followed 𝓛 R S F γ ν (P w.0 w.1)) $
      rewrite ! 0 (λ x. ‵ (fres γ (R.coded.code x))) (is w.0 w.1) refl $ done !)

-- two values of the types T and U, and where each lies
module _ (T U : SemTy) (coded : Coded (T.rep × U.rep)) (b₁ o₁ b₂ o₂ : ℕ) where
  abbrev pub Pair : SemTy
  Pair = record {
    rep = T.rep × U.rep;
    coded = coded;
    size = 0;
    own_at = λ w _ _. fsep (T.own_at w.0 b₁ o₁) (U.own_at w.1 b₂ o₂);
  }

  -- what is lent of both is lent as two borrows, under new names that the pair's name follows, the second first
  pub both_lent : {M : Type 1} {𝓤 : Ura M} {𝓛 : Logic 𝓤} {K : Type 0} {Γ : List (Item 𝓤)} {G : Goal 𝓤 𝓛.H} → K
      → Soaks G → {κ : Lft} {q : Share} {ν : GName} (x : T.rep) (y : U.rep)
      → ((γs : GName × GName) → Seq K 𝓛 (‵ (fobs γs.1 (U.coded.code y)) ∷ ‵ (fbor κ (Body U b₂ o₂ γs.1))
      ∷ ‵ (fobs γs.0 (T.coded.code x)) ∷ ‵ (fbor κ (Body T b₁ o₁ γs.0)) ∷ ‵ (flft κ q)
      ∷ ‵ (after₂ Pair T U ν γs.0 γs.1 (λ s t. (s, t))) ∷ Γ) G)
      → Seq K 𝓛 (‵ (fobs ν (coded.code (x, y))) ∷ ‵ (fbor κ (Body Pair 0 0 ν)) ∷ ‵ (flft κ q) ∷ Γ) G
  both_lent {𝓤 = 𝓤} {𝓛 = 𝓛} t z {κ} {q} {ν} x y next =
      open_ref t z Pair {x = (x, y)} {b = 0} {o = 0} $ fsplit t $ use0 𝓛 (raw (emp 𝓤)) (id⊢ 𝓤 (emp 𝓤)) $
      move t (3 ∷ 4 ∷ 5 ∷ 1 ∷ 2 ∷ 0 ∷ []) $ group t 6 $
      use1 𝓛 (later (some (λ (γs : GName × GName). (‵ (fobs γs.0 (T.coded.code x)) ⊛ ‵ (fbor κ (Body T b₁ o₁ γs.0)))
      ⊛ (‵ (fobs γs.1 (U.coded.code y)) ⊛ ‵ (fbor κ (Body U b₂ o₂ γs.1))) ⊛ ‵ (flft κ q)
      ⊛ ‵ (after₂ Pair T U ν γs.0 γs.1 (λ s t. (s, t)))))) (takes_two 𝓛 Pair T U (λ s t. (s, t)) κ q 0 0 b₁ o₁ b₂ o₂ ν
      (emp 𝓤) (λ v w. qed 𝓛 (‵ (T.own_at v b₁ o₁) ∷ ‵ (U.own_at w b₂ o₂) ∷ raw (emp 𝓤) ∷ []) ∵ fjoin ! $
      keep ! (0 ∷ []) $ done !) _ _ x y) $ await t z $
      pick t (λ γs. split3 t $ move t (2 ∷ []) $ split t $ move t (2 ∷ []) $ split t $ move t (4 ∷ []) $ split t $
      next γs)

module _ {M : Type 1} {𝓤 : Ura M} {𝓛 : Logic 𝓤} {K : Type 0} {Γ : List (Item 𝓤)} {G : Goal 𝓤 𝓛.H} {γ : GName}
    {u v : Gv} where
  -- γ follows ν from here on
  turns_to : K → Soaks G → (R S : SemTy) (F : S.rep → R.rep) (ν : GName) → Step K 𝓛
      (‵ (after R S γ ν F) ∷ raw (Turns 𝓛 R S F γ ν) ∷ Γ) G (‵ (fobs γ u) ∷ ‵ (fauth γ v) ∷ Γ) G
  turns_to t z R S F ν = step (λ s. use2 𝓛 (later (‵ (after R S γ ν F) ⊛ raw (Turns 𝓛 R S F γ ν)))
      (follows_anew 𝓛 R S F γ ν u v) $ await t z $ split t $ s)

module _ {M : Type 1} {𝓤 : Ura M} {𝓛 : Logic 𝓤} {K : Type 0} {Γ : List (Item 𝓤)} {G : Goal 𝓤 𝓛.H} {κ : Lft}
    {q : Share} {γ δ m : GName} {u v : Gv} {rest : Item 𝓤} where
  open 𝓛 use {H, A}

  -- The whole stays open while its part, under the name δ, is lent to a call, which says that δ follows m.
  -- The whole is then closed, and follows a new name of its own type, which follows m.
  pub hands_on : K → Soaks G → (R T N : SemTy) (F : R.rep → R.rep) (V : N.rep → R.rep) (put : N.rep → T.rep)
      (n b o b' o' : ℕ) (x : R.rep)
      → ((w : N.rep) → ent 𝓤 (sep 𝓤 (sem 𝓛 (T.own_at (put w) b' o')) (mean 𝓛 rest)) (sem 𝓛 (R.own_at (F (V w)) b o)))
      → ((ν : GName) → Seq K 𝓛 (‵ (flft κ q) ∷ ‵ (after R R γ ν F) ∷ ‵ (after R N ν m V) ∷ Γ) G)
      → Seq K 𝓛 (raw (aged 𝓤 H A n κ q (Body R b o γ)) ∷ ‵ (fobs γ u) ∷ ‵ (fauth γ v)
      ∷ ‵ (flent (deep n κ) (Body T b' o' δ)) ∷ ‵ (after T N δ m put) ∷ rest ∷ Γ) G
  unfolding fseps
  hands_on t z R T N F V put n b o b' o' x back next =
      let Whole = Body R b o γ in let Over = fsep (fdead κ) (fseps (Body T b' o' δ ∷ [])) in
      name_new t z (R.coded.code x) (λ ν. turns_to t z R N V m $ move t (3 ∷ 4 ∷ []) $ turns_to t z R R F ν $
      -- [what γ follows; the way of ν; what ν follows; the way of m;
      -- the open borrow; the right to the part's end; what δ follows; the rest]
      move t (7 ∷ 1 ∷ 3 ∷ 6 ∷ []) $ group t 4 $ use1 𝓛 (‵ (fwand Over (fupd Whole)))
      (qed 𝓛 (rest ∷ raw (Turns 𝓛 R R F γ ν) ∷ raw (Turns 𝓛 R N V ν m) ∷ ‵ (after T N δ m put) ∷ []) ∵
      assume ! (‵ Over) $ suffices ! (sem 𝓛 Whole) (upd_i 𝓤 (sem 𝓛 Whole)) $
      fsplit ! $ drop ! $ fsplit ! $ fpick ! (λ z. fsplit ! $ move ! (1 ∷ 6 ∷ []) $
      use2 𝓛 (‵ (fex N.rep (Came 𝓛 T N put m z))) (came 𝓛 T N put δ m z) $ fpick ! (λ w. fsplit ! $ feq_l ! (λ e.
      -- [auth m; the part; nothing; the rest; the way of ν; that of m]
      rewrite ! 1 (λ y. ‵ (T.own_at y b' o')) e refl $ move ! (1 ∷ 3 ∷ []) $
      use2 𝓛 (‵ (R.own_at (F (V w)) b o)) (back w) $
      move ! (1 ∷ 4 ∷ []) $ use2 𝓛 (‵ (fauth ν (R.coded.code (V w)))) (turned 𝓛 R N V ν m w) $
      move ! (0 ∷ 3 ∷ []) $ use2 𝓛 (‵ (fauth γ (R.coded.code (F (V w))))) (turned 𝓛 R R F γ ν (V w)) $
      move ! (1 ∷ 0 ∷ []) $ fjoin ! $ fpack ! R.rep (λ y. fsep (R.own_at y b o) (fauth γ (R.coded.code y))) (F (V w)) $
      keep ! (0 ∷ []) $ done !)))) $
      -- [the way back; what γ follows; what ν follows; the open borrow; the right]
      use0 𝓛 (raw (wand 𝓤 (A.dead κ) (A.dead κ))) (wand_i 𝓤 (emp 𝓤) (A.dead κ) (A.dead κ) (snd∗ 𝓤 (emp 𝓤) (A.dead κ))) $
      move t (4 ∷ 5 ∷ 1 ∷ 0 ∷ []) $ group t 4 $
      use1 𝓛 (later (‵ (flft κ q) ⊛ raw (wand 𝓤 (A.dead κ) (A.bor κ Whole)))) (close_deep 𝓛 n κ κ q Whole
      (Body T b' o' δ)) $ await t z $ split t $ move t (1 ∷ []) $ drop t $ next ν)

module _ {M : Type 1} {𝓤 : Ura M} {𝓛 : Logic 𝓤} {K : Type 0} {Γ : List (Item 𝓤)} {G : Goal 𝓤 𝓛.H} where
  -- A part of what lies open is lent under a new name, and leaves [its `&mut`; the right to its end].
  pub part_lent : K → Soaks G → (T : RattleType) (n : ℕ) (κ : Lft) (x : T.Denot) (b o : ℕ)
      → ((δ : GName) → Seq K 𝓛 (‵ ((MutRef (named 0) κ T).own_val (record { ref_ptr = (b, o); ghost_name = δ; now = x })
      (vptr b o ∷ [])) ∷ ‵ (flent (deep n κ) (Body (mem T) b o δ)) ∷ Γ) G) → Seq K 𝓛 (‵ ((mem T).own_at x b o) ∷ Γ) G
  part_lent t z T n κ x b o next = name_new t z (T.coded.code x) (λ δ.
      -- [obs; auth; the part]
      move t (2 ∷ 1 ∷ []) $ fjoin t $ fpack t T.Denot (λ y. fsep ((mem T).own_at y b o) (fauth δ (T.coded.code y))) x $
      bor_new_deep t z n κ {P = Body (mem T) b o δ} $ move t (2 ∷ 0 ∷ []) $ feq_i t _ (vptr b o ∷ []) _ refl $
      fjoin3 t $ next δ)
