-- What is known of a lender once a loan ends, and less of it. Assumes `Logic`.
use mathlib.Core.{List.{[], ◌∷◌}, Option.none}
use seplogic.Ra.Ura.{Ura}
use base.Logic.{ent}
use types.{Logic.{Logic, sem}, Kit.{‵, ◌∵◌, ◌$◌, !, qed, fpick, fpack, done}}
use denote.{Follow.{such_by, follows_by}, Ref.MutBor, RattleType.RattleType}
use Rattle.std.specs.{Io.BufRead.Rests, Prelude.⊤}

module _ {M : Type 1} {𝓤 : Ura M} (𝓛 : Logic 𝓤) (R : RattleType) (s : MutBor R.Denot) where
  pub rests_weaker : (P Q : R.Denot → Type 0) → ((x : R.Denot) → P x → Q x)
      → ent 𝓤 (sem 𝓛 (Rests R s P)) (sem 𝓛 (Rests R s Q))
  unfolding such_by
  rests_weaker P Q weaker =
      let D = R.Denot in let code = R.coded.code in
      qed 𝓛 (‵ (Rests R s P) ∷ []) ∵ fpick ! (λ t.
      fpack ! ((t' : (D → D) × D) × ((w : D) → ⊤) × Q t'.1)
      (λ t'. follows_by D D code code s.ghost_name none t'.0.0 t'.0.1) (t.0, t.1, weaker t.0.1 t.2) $ done !)
