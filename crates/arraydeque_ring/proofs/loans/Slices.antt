-- A pair of two slices for writing, and how a loan gives it. Assumes `Logic`.
use Rattle.arraydeque_ring.{
  proofs.memory.{
    Called.{Called, calls_met, first_fact, knows},
    Kit.{refl, List, [], ◌∷◌, Ura, id⊢, Logic, Val, Env, Body, After, Seq, Item, RattleType},
    Kit.{NamedLft, named_lft, MutSlice, Struct, El, R, el_x, MutBor, ‵, raw, ◌$◌, move, join},
    Kit.{fjoin, nothing, heard, rewrite, ◌⊑◌, tables, Contract},
  },
  specs.Loans.LoanState,
}
use contract.{Lifetimes.{Lfts, Shares, AllOutlive, toks}, Running.{Running, MachineTables}}
use denote.{
  Laws.{Lawful, Typed},
  Slice.mut_slice_Lawful,
  Struct.{
    Declared.{Declared, shape},
    Recorded.recorded_lawful,
    Struct.Struct-Lawful,
    Tuple.{Tuple, tuple_type},
  },
  Triple.Statement.Triple,
}
use mir.Syntax.{Callee, Opd, Place, call, seq}
use prog.Model.{Model}
use types.{Kit.{lands, runs}, Run.Opds}
use Rattle.arraydeque_ring.specs.contracts.slots.loan.Loan as loan
use Rattle.arraydeque_ring.specs.contracts.slots.loan.Loan.into_slices as into

module _ (α : NamedLft) (T : RattleType) where
  abbrev Two : List RattleType
  Two = MutSlice α.mir α.lft T ∷ MutSlice α.mir α.lft T ∷ []

  abbrev pub Slices : RattleType
  Slices = Tuple Two

  slices_lawful : {M : Type 1} {𝓤 : Ura M} (𝓛 : Logic 𝓤) → Lawful 𝓛 Slices
  slices_lawful 𝓛 =
      let pair : Declared = tuple_type Two in let one = mut_slice_Lawful 𝓛 α.mir α.lft T in
      recorded_lawful (Struct (shape pair)) pair.D pair.to pair.to_one 𝓛 (Struct-Lawful 𝓛 (shape pair) (one, (one, tt)))

module _ {M : Type 1} {𝓤 : Ura M} (𝓛 : Logic 𝓤) (𝓜 : Model 𝓤 𝓛.H) (𝓡 : Running 𝓤 𝓛.H 𝓜) (E : El) (κs : Lfts 2) where
  abbrev α : NamedLft
  α = named_lft 2 0 tt κs

  abbrev 𝓣 : MachineTables 𝓤 𝓛.H 𝓜
  𝓣 = tables 𝓤 𝓛.H 𝓜 𝓡 𝓡.env

  abbrev Into : Contract 𝓤
  Into = Called 𝓛 (into.ended E.row) (into.clauses E.row 𝓛 𝓜.mem 𝓡.returns)

  -- a call of `into_slices`: from [the loan; the tokens] to [its slices; the tokens]
  pub in_slices : {K : Type 0} {Γ : List (Item 𝓤)} {f : Callee} {os : List Opd} {d : Place} {rest : Body}
      {En : Env 𝓤 𝓛.H} {q : After 𝓤 𝓛.H} → K → Triple 𝓤 (𝓣.C f) Into → (qs : Shares 2)
      (bounds : AllOutlive 2 (into.signature E.row).outlives κs) → κs.1.0 ⊑ E.row.lives → (it : LoanState (el_x E))
      (v : Val) → Opds K 𝓛 (raw (Into.pre ((κs, qs, bounds, (it, tt), (v ∷ [], tt)), tt)) ∷ Γ) En os (v ∷ [])
      → ((u : Val) → Typed (Slices α (R E)).mir (u ∷ [])
      → Seq K 𝓛 (‵ ((Slices α (R E)).own_val (it.first, it.second) (u ∷ [])) ∷ raw (toks 𝓛 2 κs qs) ∷ Γ)
      (lands 𝓣.C 𝓣.Λ En d u rest q))
      → Seq K 𝓛 (‵ ((loan.the_row α (R E)).own_val it (v ∷ [])) ∷ raw (toks 𝓛 2 κs qs) ∷ Γ)
      (runs 𝓣.C 𝓣.Λ En (seq (call f os d) rest) q)
  in_slices t met qs bounds lives it v arg next =
      nothing t $ move t (1 ∷ 0 ∷ []) $ fjoin t $ move t (1 ∷ 0 ∷ []) $ join t $
      nothing t $ knows t lives $ join t $
      calls_met 𝓛 t 𝓜 𝓣 (into.ended E.row) (into.clauses E.row 𝓛 𝓜.mem 𝓡.returns) met
      ((κs, qs, bounds, (it, tt), (v ∷ [], tt)), tt) (id⊢ 𝓤 _) arg (slices_lawful α (R E) 𝓛) (λ u two ws typed.
      move t (2 ∷ []) $ first_fact t (λ e. heard t _ (λ e'.
      rewrite t 0 (λ (pair : MutBor (List (el_x E)) × MutBor (List (el_x E))).
      ‵ ((Slices α (R E)).own_val pair (u ∷ []))) (λ i. (e i, e' i)) refl $ next u typed)))
