-- The places of a block, taken apart and put together again. Assumes `Logic`.
use Rattle.arraydeque_ring.{
  proofs.memory.{
    Kit.{◌≡◌, refl, sym, ap, ◌∙◌, List, [], ◌∷◌, ◌++◌, map, ℕ, zero, suc, ◌+◌, ◌*◌, arith},
    Kit.{zero-mul, suc-mul, length, drop_list, replicate, take-append-drop, Option, Some, None},
    Kit.{type_size, Ura, ent, sep, emp, wand, via, id⊢, snd∗, mono_r, Lft, Fml, froom, ty_array},
    Kit.{align, Logic, sem, ‵, raw, ◌⊛◌, ◌$◌, ◌∵◌, !, qed, by, move, keep, drop, use0, use1, split},
    Kit.{frame, fsplit, fjoin, rewrite, done, nothing, El, R, el_x, elτ, elements_shared},
  },
  specs.{Ownership.{place_owned, places_owned, place_lent, places_lent}, Runs.HoldsRun},
}
use prog.Align.{dv_self}
use contract.Monad.{top}

module _ (E : El) where
  -- the bytes of an item
  abbrev pub item_size : ℕ
  item_size = type_size (R E)

  abbrev pub Place : Type 0
  Place = Option (el_x E)

module _ (E : El) {M : Type 1} {𝓤 : Ura M} (𝓛 : Logic 𝓤) (b : ℕ) where
  open 𝓛 use {H}

  abbrev s : ℕ
  s = item_size E

  abbrev pub Row : ℕ → List (Place E) → Fml
  Row = places_owned (R E) b

  -- the places are cut in two, and joined
  pub cut : (ps qs : List (Place E)) (o at : ℕ) → at ≡ length ps * s + o
      → ent 𝓤 (sem 𝓛 (Row o (ps ++ qs))) (sep 𝓤 (sem 𝓛 (Row o ps)) (sem 𝓛 (Row at qs)))
  cut [] qs o at e = qed 𝓛 (‵ (Row o qs) ∷ []) ∵
      rewrite ! 0 (λ k. ‵ (Row k qs)) {x = at} (omega (arith, zero-mul s)) refl $ nothing ! $ done !
  cut (p ∷ ps) qs o at e =
      qed 𝓛 (‵ (Row o (p ∷ ps ++ qs)) ∷ []) ∵ fsplit ! $ move ! (1 ∷ []) $
      use1 𝓛 (‵ (Row (o + s) ps) ⊛ ‵ (Row at qs)) (cut ps qs (o + s) at (omega (arith, suc-mul (length ps) s, e))) $
      split ! $ move ! (2 ∷ 0 ∷ []) $ fjoin ! $ done !

  pub glue : (ps qs : List (Place E)) (o at : ℕ) → at ≡ length ps * s + o
      → ent 𝓤 (sep 𝓤 (sem 𝓛 (Row o ps)) (sem 𝓛 (Row at qs))) (sem 𝓛 (Row o (ps ++ qs)))
  glue [] qs o at e = qed 𝓛 (‵ (Row o []) ∷ ‵ (Row at qs) ∷ []) ∵ drop ! $
      rewrite ! 0 (λ k. ‵ (Row k qs)) {x = o} (omega (arith, zero-mul s)) refl $ done !
  glue (p ∷ ps) qs o at e =
      qed 𝓛 (‵ (Row o (p ∷ ps)) ∷ ‵ (Row at qs) ∷ []) ∵ fsplit ! $ frame ! $
      by ! (glue ps qs (o + s) at (omega (arith, suc-mul (length ps) s, e)))

  -- the room of a block is that many empty places
  pub of_room : (n o : ℕ) → ent 𝓤 (H.room (ty_array (elτ E) n) b o) (sem 𝓛 (Row o (replicate n None)))
  of_room zero o = top 𝓤 _
  of_room (suc n) o = qed 𝓛 (‵ (froom (ty_array (elτ E) (suc n)) b o) ∷ []) ∵
      use1 𝓛 (‵ (froom (elτ E) b o) ⊛ ‵ (froom (ty_array (elτ E) n) b (o + s))) (𝓛.laws.room_uncons (elτ E) n b o) $
      split ! $
      use1 𝓛 (‵ (place_owned (R E) b o None)) (𝓛.laws.room-raw (elτ E) b o) $ frame ! $ by ! (of_room n (o + s))

  -- places that take no bytes need no block
  pub of_nothing : (n o : ℕ) → n * s ≡ 0 → ent 𝓤 (emp 𝓤) (sem 𝓛 (Row o (replicate n None)))
  of_nothing n o none =
      let no_room = froom (ty_array (elτ E) 0) b o in let room = froom (ty_array (elτ E) n) b o in
      qed 𝓛 [] ∵ use0 𝓛 (‵ no_room) (𝓛.laws.room_nil (elτ E) b o) $
      use1 𝓛 (‵ room ⊛ raw (wand 𝓤 (sem 𝓛 room) (sem 𝓛 no_room))) (𝓛.laws.room_as (ty_array (elτ E) 0)
      (ty_array (elτ E) n) b o (none ∙ sym (zero-mul s)) (dv_self (align (elτ E)))) $
      split ! $ keep ! (0 ∷ []) $ by ! (of_room n o)

  module _ (κ : Lft) where
    abbrev Shown : ℕ → List (Place E) → Fml
    Shown o ps = places_lent (R E) b o ps κ

    seen_from : (ps : List (Place E)) (i o at : ℕ) → at ≡ i * s + o
        → ent 𝓤 (sem 𝓛 (Shown o ps)) (sem 𝓛 (Shown at (drop_list i ps)))
    seen_from ps zero o at e = let same : at ≡ o = omega (arith, zero-mul s) in rw same (id⊢ 𝓤 _)
    seen_from [] (suc i) o at e = id⊢ 𝓤 _
    seen_from (p ∷ ps) (suc i) o at e =
        via 𝓤 _ (snd∗ 𝓤 (sem 𝓛 (place_lent (R E) b o p κ)) (sem 𝓛 (Shown (o + s) ps)))
        (seen_from ps i (o + s) at (omega (arith, suc-mul i s)))

    seen_values : (xs : List (el_x E)) (rest : List (Place E)) (o : ℕ)
        → ent 𝓤 (sem 𝓛 (Shown o (map Some xs ++ rest))) (sem 𝓛 (elements_shared (R E) xs b o κ))
    seen_values [] rest o = top 𝓤 _
    seen_values (x ∷ xs) rest o = mono_r 𝓤 (sem 𝓛 (place_lent (R E) b o (Some x) κ)) (seen_values xs rest (o + s))

    -- the values of a filled run are seen through a `&`
    pub run_seen : (o : ℕ) (ps : List (Place E)) (i n : ℕ) (xs : List (el_x E)) → HoldsRun ps i n xs
        → ent 𝓤 (sem 𝓛 (Shown o ps)) (sem 𝓛 (elements_shared (R E) xs b (i * s + o) κ))
    run_seen o ps i n xs held =
        let rest = drop_list n (drop_list i ps) in
        qed 𝓛 (‵ (Shown o ps) ∷ []) ∵
        use1 𝓛 (‵ (Shown (i * s + o) (drop_list i ps))) (seen_from ps i o (i * s + o) refl) $
        rewrite ! 0 (λ l. ‵ (Shown (i * s + o) l)) (sym (take-append-drop n (drop_list i ps))
        ∙ ap (λ l. l ++ rest) held) refl $ by ! (seen_values xs rest (i * s + o))
