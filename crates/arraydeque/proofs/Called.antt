-- A call in a walk: what `lend` requires, and how the tokens of two lifetimes go on to the next call.
-- Assumes `Logic`.
use Rattle.arraydeque_ring.proofs.memory.{
  Kit.{[], ◌∷◌, Ura, SProp, ent, sep, fact, flft, Logic, sem, ‵, raw, ◌⊛◌, ◌$◌, ◌∵◌, !, qed},
  Kit.{move, keep, split3, join, done, RattleType, ftrue, nothing, ◌⊑◌, ◌<◌, Lft},
}
use contract.Lifetimes.{Lfts, Shares, toks}

module _ {M : Type 1} (𝓤 : Ura M) (κ₂ κ₃ : Lft) (B : RattleType) where
  -- what `lend` and its callers require before P, except that the items outlive the loan
  abbrev pub Asked : SProp 𝓤 → SProp 𝓤
  Asked P = sep 𝓤 (fact 𝓤 (κ₂ ⊑ []))
      (sep 𝓤 (fact 𝓤 (κ₃ ⊑ B.lives)) (sep 𝓤 (fact 𝓤 (32 < 9223372036854775808)) P))

-- the lifetimes of the loan and of the items
abbrev pub Two : Lfts 4 → Lfts 2
Two κs = (κs.0, (κs.1.0, tt))

module _ {M : Type 1} {𝓤 : Ura M} (𝓛 : Logic 𝓤) (κs : Lfts 4) (qs : Shares 4) where
  -- their tokens, and the others
  abbrev pub OfTwo : SProp 𝓤
  OfTwo = toks 𝓛 2 (Two κs) (qs.0, (qs.1.0, tt))

  abbrev pub Others : SProp 𝓤
  Others = toks 𝓛 2 κs.1.1 qs.1.1

  abbrev A : SProp 𝓤
  A = sem 𝓛 (flft κs.0 qs.0)

  abbrev B : SProp 𝓤
  B = sem 𝓛 (flft κs.1.0 qs.1.0)

  -- two tokens are set apart from the others
  pub set_apart : ent 𝓤 (toks 𝓛 4 κs qs) (sep 𝓤 OfTwo Others)
  set_apart = qed 𝓛 ((raw A ⊛ raw B ⊛ raw Others) ∷ []) ∵ split3 ! $ nothing ! $ move ! (2 ∷ 0 ∷ []) $ join ! $
      move ! (1 ∷ 0 ∷ []) $ join ! $ move ! (0 ∷ 1 ∷ []) $ join ! $ done !

  -- and come back to them
  pub come_back : ent 𝓤 (sep 𝓤 OfTwo Others) (toks 𝓛 4 κs qs)
  come_back =
      qed 𝓛 ((raw A ⊛ raw B ⊛ ‵ ftrue) ∷ raw Others ∷ []) ∵ split3 ! $ move ! (1 ∷ 3 ∷ []) $ join ! $
      move ! (1 ∷ 0 ∷ []) $ join ! $ keep ! (0 ∷ []) $ done !
