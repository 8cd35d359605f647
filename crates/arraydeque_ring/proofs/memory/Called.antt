-- Steps of a walk: facts are heard, a block is left, and a call takes what is known and gives its result.
-- Assumes `Logic`.
use Rattle.arraydeque_ring.proofs.memory.{
  Kit.{List, [], ◌∷◌, Ura, emp, ent, sep, id⊢, Val, fact, fact_i, Logic, Goal, Soaks, Seq, Step},
  Kit.{Item, ‵, raw, ◌⊛◌, some, later, ◌$◌, move, use0, use1, use2, split, pick, drop, await},
  Kit.{peeks, Is, shows, triple_of, RattleType, Fn, Wp, after, at_ret, at_return, env, exec},
  Kit.{tables, ℕ, heard, SProp, Lasts, lasts, Contract, Env, Body, After, calls_at, framed},
}
use denote.{
  Laws.{Lawful, Typed},
  Signature.type_at,
  Triple.{Clauses.{Ended, Clauses, closing, at_exit}, Entry.{Res, alive}, Statement.Triple},
}
use contract.Running.{MachineTables, Running}
use mir.Syntax.{Callee, Opd, Place, call, seq}
use prog.Model.{Model}
use types.{Kit.{lands, mean, prop, runs}, Run.Opds}

module _ {M : Type 1} {𝓤 : Ura M} (𝓛 : Logic 𝓤) (T : Ended) (c : Clauses 𝓤 T) where
  abbrev pub Called : Contract 𝓤
  Called = triple_of 𝓛 T.signature (closing 𝓛 T c)

  abbrev Result : Called.Ghost → RattleType
  Result y = type_at T.signature.result y.0.0

  -- how a caller goes on once v came back: it has the result, which is typed, the tokens, and what is ensured
  abbrev pub Continues : (K : Type 0) (Γ : List (Item 𝓤)) → Called.Ghost → Val → Goal 𝓤 𝓛.H → Type 1
  Continues K Γ y v G = (r : Res T.signature y.0.0) (ws : Lasts T y.0.0 y.0.3) → Typed (Result y).mir (v ∷ [])
      → Seq K 𝓛 (‵ ((Result y).own_val r (v ∷ [])) ∷ raw (alive 𝓛 T.signature y.0.0 y.0.1)
      ∷ raw ((c y.0.0 y.0.3).ensures y.1 r (at_exit T y.0.0 y.0.3 ws)) ∷ Γ) G

module _ {M : Type 1} {𝓤 : Ura M} {K : Type 0} {Γ : List (Item 𝓤)} where
  -- what is known is said
  pub knows : {𝓛 : Logic 𝓤} {G : Goal 𝓤 𝓛.H} → K → {φ : Type 0} → φ → Step K 𝓛 (raw (fact 𝓤 φ) ∷ Γ) G Γ G
  knows {𝓛 = 𝓛} t {φ} x = use0 𝓛 (raw (fact 𝓤 φ)) (fact_i 𝓤 φ (emp 𝓤) x)

  -- and of several facts, as of what is required or ensured, the first is heard
  pub first_fact : {𝓛 : Logic 𝓤} {G : Goal 𝓤 𝓛.H} → K → {φ : Type 0} {P : SProp 𝓤} → (φ → Seq K 𝓛 (raw P ∷ Γ) G)
      → Seq K 𝓛 (raw (sep 𝓤 (fact 𝓤 φ) P) ∷ Γ) G
  first_fact {𝓛 = 𝓛} t {φ} {P} next = use1 𝓛 (raw (fact 𝓤 φ) ⊛ raw P) (id⊢ 𝓤 _) $ split t $ heard t φ next

  -- a block has run: on to the code after the first k parts of the body
  pub after_block : {𝓛 : Logic 𝓤} {𝓜 : Model 𝓤 𝓛.H} → K → (𝓡 : Running 𝓤 𝓛.H 𝓜) (e : Fn) (l : ℕ → ℕ) (k : ℕ)
      (q : Val → SProp 𝓤) → let 𝓣 = tables 𝓤 𝓛.H 𝓜 𝓡 𝓡.env in let En = env e.locals l in
      Step K 𝓛 Γ (runs 𝓣.C 𝓣.Λ En (after k e.body) (at_ret En q)) Γ
      (prop (Wp 𝓤 𝓛.H 𝓣.C 𝓣.Λ En (after k e.body) (at_return 𝓤 𝓛.H En q)))
  after_block t 𝓡 e l k q = exec t _ _ _ _ _

  pub returned : (𝓛 : Logic 𝓤) {G : Goal 𝓤 𝓛.H} → K → Soaks G → (T : Ended) (c : Clauses 𝓤 T)
      (y : (Called 𝓛 T c).Ghost) (v : Val) → Lawful 𝓛 (Result 𝓛 T c y) → Continues 𝓛 T c K Γ y v G
      → Seq K 𝓛 (raw ((Called 𝓛 T c).post y v) ∷ Γ) G
  returned 𝓛 t soaks T c y v laws next =
      let R = Result 𝓛 T c y in
      use1 𝓛 (later (some (λ (r : Res T.signature y.0.0).
      (raw (alive 𝓛 T.signature y.0.0 y.0.1) ⊛ ‵ (R.own_val r (v ∷ []))) ⊛ some (λ (ws : Lasts T y.0.0 y.0.3).
      ‵ (lasts T y.0.0 y.0.3 ws) ⊛ raw ((c y.0.0 y.0.3).ensures y.1 r (at_exit T y.0.0 y.0.3 ws)))))) (id⊢ 𝓤 _) $
      await t soaks $ pick t (λ r. split t $ move t (1 ∷ []) $ pick t (λ ws. split t $ drop t $ move t (1 ∷ []) $
      split t $ move t (1 ∷ []) $ peeks t R (Is R) (shows 𝓛 R) r (v ∷ []) (λ is. next r ws (laws.typed r (v ∷ []) is))))

  module _ {f : Callee} {os : List Opd} {d : Place} {rest : Body} where
    -- a call of what meets its contract: takes [what is required; the tokens, with what the arguments own]
    pub calls_met : (𝓛 : Logic 𝓤) {En : Env 𝓤 𝓛.H} {q : After 𝓤 𝓛.H} {i j : Item 𝓤} → K → (𝓜 : Model 𝓤 𝓛.H)
        (𝓣 : MachineTables 𝓤 𝓛.H 𝓜) (T : Ended) (c : Clauses 𝓤 T) → Triple 𝓤 (𝓣.C f) (Called 𝓛 T c)
        → (y : (Called 𝓛 T c).Ghost) → ent 𝓤 (sep 𝓤 (mean 𝓛 j) (mean 𝓛 i)) ((Called 𝓛 T c).pre y)
        → Opds K 𝓛 (raw ((Called 𝓛 T c).pre y) ∷ Γ) En os ((Called 𝓛 T c).args y) → Lawful 𝓛 (Result 𝓛 T c y)
        → ((v : Val) → Continues 𝓛 T c K Γ y v (lands 𝓣.C 𝓣.Λ En d v rest q))
        → Seq K 𝓛 (i ∷ j ∷ Γ) (runs 𝓣.C 𝓣.Λ En (seq (call f os d) rest) q)
    calls_met 𝓛 t 𝓜 𝓣 T c met y asks args laws next =
        move t (1 ∷ 0 ∷ []) $ use2 𝓛 (raw ((Called 𝓛 T c).pre y)) asks $
        calls_at t (framed 𝓤 𝓛.H 𝓜 𝓣) (Called 𝓛 T c) met y args (λ v. returned 𝓛 t tt T c y v laws (next v))
