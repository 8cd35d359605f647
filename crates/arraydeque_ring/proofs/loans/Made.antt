-- A slice is made of what is lent of a run, and a `Loan` of its two slices, under any name. Assumes `Logic`.
use Rattle.arraydeque_ring.{
  proofs.memory.{
    Kit.{◌≡◌, refl, ap, List, [], ◌∷◌, ◌+◌, ◌<◌, ◌^◌, length, Ura, ent, sep, GName, Fml, fsep},
    Kit.{ftrue, Val, vstruct, vcons, vnil, Logic, sem, ‵, ◌$◌, ◌∵◌, !, qed, move, use0, fjoin},
    Kit.{fpick, fpack, Step, step, Item, Goal, sym, subst, use2, rewrite, slice_val, fobs, fbor},
    Kit.{Borrowed, mem, ℕ, feq_i, done, El, R, param_laws, RattleType, nothing, NamedLft, MutSlice},
    Kit.{MutBor, makes_shadow, Struct},
  },
  specs.{declared.slots.loan.Loan.TheInside.Inside, Loans.LoanState},
}
use types.SemTy.{Arr}
use base.Stored.{coded_list}
use denote.{
  FollowSlice.slice_of,
  Slice.Room,
  Laws.Lawful,
  Struct.{Declared.shape, Owning.shape as owned_shape, Struct.within},
}
use Rattle.arraydeque_ring.specs.contracts.slots.loan.Loan as loan
use Rattle.arraydeque_ring.specs.contracts.slots.loan.Loan.TheInside as inside
use Rattle.arraydeque_ring.specs.contracts.slots.loan.LoanName as loan_name
use Rattle.arraydeque_ring.proofs.slots.loan.Loan.TheLaws as loan_laws

pub loan_lawful : {α : NamedLft} {M : Type 1} {𝓤 : Ura M} {𝓛 : Logic 𝓤} (E : El) → Lawful 𝓛 (loan.the_row α (R E))
loan_lawful {α} {𝓛 = 𝓛} E = (loan_laws.the_row_laws α (R E) (param_laws 0 E.row E.laws)).lawful 𝓛

-- the machine value: two slices, and nothing
abbrev pub mark : Val
mark = vstruct (vcons (vstruct vnil) vnil)

abbrev pub loan_val : Val → Val → Val
loan_val first second = vstruct (vcons first (vcons second (vcons mark vnil)))

module _ (α : NamedLft) (T : RattleType) {M : Type 1} {𝓤 : Ura M} (𝓛 : Logic 𝓤) where
  -- n values in a row that are lent are a slice
  pub slice_lent : {K : Type 0} {Γ : List (Item 𝓤)} {G : Goal 𝓤 𝓛.H} → K → {b o n : ℕ} {γ : GName} (xs : List T.Denot)
      → length xs ≡ n → Room T n → Step K 𝓛 (‵ ((MutSlice α.mir α.lft T).own_val
      (record { ref_ptr = (b, o); ghost_name = γ; now = xs }) (slice_val (b, o) n ∷ [])) ∷ Γ) G
      (‵ (fobs γ ((coded_list T.coded).code xs)) ∷ ‵ (fbor α.lft (Borrowed (Arr (mem T) n) b o γ)) ∷ Γ) G
  slice_lent t {b} {o} {n} {γ} xs long room = step (λ s.
      let x : MutBor (List T.Denot) = record { ref_ptr = (b, o); ghost_name = γ; now = xs } in
      let Slice : ℕ → Fml = λ k. (MutSlice α.mir α.lft T).own_val x (slice_val (b, o) k ∷ []) in
      rewrite t 1 (λ k. ‵ (fbor α.lft (Borrowed (Arr (mem T) k) b o γ))) (sym long) refl $
      use2 𝓛 (‵ (Slice (length xs))) (slice_of 𝓛 T α.mir α.lft b o γ xs (subst (Room T) (sym long) room)) $
      rewrite t 0 (λ k. ‵ (Slice k)) long refl $ s)

  abbrev Mark : Fml
  Mark = (Struct (owned_shape (loan_name.the_type α T))).own_val (tt, tt) (mark ∷ [])

  abbrev Fits : LoanState T.Denot → Inside T.Denot → Type 0
  Fits d x = (record { first = x.first; second = x.second; name = x.name.name } ≡ d)
      × (length x.first.now + length x.second.now < 2 ^ 64)

  abbrev owned : List Val → Inside T.Denot → Fml
  owned vs x = fsep ((inside.the_row α T).own_val x vs) ftrue

  -- no machine value tells the name
  pub loan_renamed : (d : LoanState T.Denot) (n : GName) (vs : List Val)
      → ent 𝓤 (sem 𝓛 ((loan.the_row α T).own_val d vs)) (sem 𝓛 ((loan.the_row α T).own_val (record d { name = n }) vs))
  loan_renamed d n vs =
      qed 𝓛 (‵ ((loan.the_row α T).own_val d vs) ∷ []) ∵ fpick ! (λ x.
      let y : Inside T.Denot = record x.0 { name = record x.0.name { name = n } } in
      fpack ! ((z : Inside T.Denot) × Fits (record d { name = n }) z) (λ z. owned vs z.0)
      (y, (ap (λ (v : LoanState T.Denot). record v { name = n }) x.1.0, x.1.1)) $ done !)

  pub loan_made : (d : LoanState T.Denot) (v w : Val) → length d.first.now + length d.second.now < 2 ^ 64
      → ent 𝓤 (sep 𝓤 (sem 𝓛 ((MutSlice α.mir α.lft T).own_val d.first (v ∷ [])))
      (sem 𝓛 ((MutSlice α.mir α.lft T).own_val d.second (w ∷ []))))
      (sem 𝓛 ((loan.the_row α T).own_val d (loan_val v w ∷ [])))
  loan_made d v w bounded =
      let sh = shape (inside.the_type α T) in
      let it : Inside T.Denot = record {
        first = d.first;
        second = d.second;
        name = record { mark = record {}; name = d.name };
      } in
      qed 𝓛 (‵ ((MutSlice α.mir α.lft T).own_val d.first (v ∷ []))
      ∷ ‵ ((MutSlice α.mir α.lft T).own_val d.second (w ∷ [])) ∷ []) ∵
      nothing ! $ use0 𝓛 (‵ Mark) (makes_shadow 𝓛 Mark (λ vss. (tt, ((λ uss. (tt, tt)), tt)))
      ((vstruct vnil ∷ [], tt), (refl, ((tt, (refl, tt)), tt)))) $ fjoin ! $
      nothing ! $ move ! (1 ∷ 0 ∷ []) $ fjoin ! $ move ! (2 ∷ 0 ∷ []) $ fjoin ! $ move ! (1 ∷ 0 ∷ []) $ fjoin ! $
      feq_i ! _ (loan_val v w ∷ []) _ refl $ fjoin ! $
      fpack ! _ (within sh (it.first, (it.second, (it.name, tt))) (loan_val v w ∷ []))
      (v ∷ [], (w ∷ [], (mark ∷ [], tt))) $
      nothing ! $ move ! (1 ∷ 0 ∷ []) $ fjoin ! $
      fpack ! ((z : Inside T.Denot) × Fits d z) (λ z. owned (loan_val v w ∷ []) z.0) (it, (refl, bounded)) $ done !
