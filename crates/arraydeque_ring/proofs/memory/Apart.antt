-- A run of values goes to other places of its block, with none in common: it is taken out as an array, and these as
-- room for one. Assumes `Logic`.
use Rattle.arraydeque_ring.{
  proofs.{
    loans.{Placed.{placed, run}, Runs.two_out},
    memory.{
      Kit.{refl, List, [], ◌∷◌, ℕ, ◌+◌, ◌*◌, ◌≤◌, length, None, replicate, length-replicate, Ura},
      Kit.{ent, sep, Fml, Logic, sem, Item, Goal, Seq, ‵, ◌$◌, ◌∵◌, !, qed, move, use1, use3},
      Kit.{rewrite, done, El},
      Owned.{item_size, Place, Row, of_room},
      Rows.{Filled, Room, as_array, as_row, row_room},
    },
    moved.Flat.moved_parts,
    places.Filled.length_filled,
  },
  specs.{Loans.AreApart, Moved.run_moved, Runs.{run_emptied, IsFilledRun}},
}
use Rattle.std.below.core.proofs.slots.Runs.{run_long}

module _ (E : El) {M : Type 1} {𝓤 : Ura M} {𝓛 : Logic 𝓤} {K : Type 0} {Γ : List (Item 𝓤)} {G : Goal 𝓤 𝓛.H} (t : K)
    (b o : ℕ) (ps : List (Place E)) (dst src n : ℕ) (filled : IsFilledRun ps src n) where
  pub apart_out : dst + n ≤ length ps → AreApart src n dst n → ((Rest : Fml)
      → ent 𝓤 (sep 𝓤 (sem 𝓛 (Filled E b o dst n filled.1.0)) (sep 𝓤 (sem 𝓛 (Room E b o src n)) (sem 𝓛 Rest)))
      (sem 𝓛 (Row E 𝓛 b o (run_moved dst src n ps)))
      → Seq K 𝓛 (‵ (Filled E b o src n filled.1.0) ∷ ‵ (Room E b o dst n) ∷ ‵ Rest ∷ Γ) G)
      → Seq K 𝓛 (‵ (Row E 𝓛 b o ps) ∷ Γ) G
  apart_out target apart next = two_out E b o 𝓛 K Γ G t ps src n dst n filled.0 target apart (λ Rest back.
      let xs = filled.1.0 in let from = src * item_size E + o in let to = dst * item_size E + o in
      let nones : List (Place E) = replicate n None in
      as_array E t b from n xs filled.1.1 (length_filled ps src n filled) $ move t (1 ∷ []) $
      use1 𝓛 (‵ (Room E b o dst n)) (row_room E 𝓛 b (run ps dst n) n to (run_long ps dst n target)) $
      move t (1 ∷ []) $ next Rest (
      qed 𝓛 (‵ (Filled E b o dst n xs) ∷ ‵ (Room E b o src n) ∷ ‵ Rest ∷ []) ∵
      as_row E ! b to n xs filled.1.1 (λ long. move ! (1 ∷ []) $
      use1 𝓛 (‵ (Row E 𝓛 b from nones)) (of_room E 𝓛 b n from) $
      use3 𝓛 (‵ (Row E 𝓛 b o (placed dst n (run ps src n) (run_emptied src n ps))))
      (back nones (run ps src n) (length-replicate n None) (run_long ps src n filled.0)) $
      rewrite ! 0 (λ qs. ‵ (Row E 𝓛 b o qs)) (moved_parts ps dst src n filled.0 target) refl $ done !)))
