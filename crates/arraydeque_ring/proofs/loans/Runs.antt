-- Runs of the places of a block, taken out as values and put back. Assumes `Logic`.
use Rattle.arraydeque_ring.{
  proofs.{
    loans.Placed.{placed, run, placed_nothing, take-placed, drop-placed, placed-either, run-take},
    loans.Placed.{apart_cases, as_run},
    memory.{
      Kit.{◌≡◌, refl, sym, ap, subst, ◌∙◌, List, [], ◌∷◌, map, ℕ, ◌+◌, ◌*◌, ◌≤◌, arith, length},
      Kit.{take, drop_list, length-take, Some, Ura, full_share, ent, sep, Fml, part_at, mem, Logic},
      Kit.{sem, ‵, ◌⊛◌, ◌$◌, length-map, Goal, ◌∵◌, !, qed, by, move, keep, use1, use2, use3},
      Kit.{split, fsplit, rewrite, done, nothing, El, R, el_x, inl, inr, common_steps, cells, fsep},
      Kit.{fjoin, Seq, Step, step, Item, SemTy, feq_i, feq_l},
      Owned.{item_size, Place},
      Rows.{Around, run_out, run_in},
    },
  },
  specs.{Loans.AreApart, Ownership.places_owned, Runs.{as_many, with_run, IsFilledRun}},
}
use types.SemTy.{Arr}

-- n values in a row
abbrev pub Values : El → ℕ → SemTy
Values E n = Arr (mem (R E)) n

same_cells : (E : El) (xs : List (el_x E)) (b o : ℕ) → places_owned (R E) b o (map Some xs) ≡ cells (mem (R E)) xs b o
same_cells E [] b o = refl
same_cells E (x ∷ xs) b o = ap (λ (F : Fml). fsep (part_at (R E) full_share x b o) F)
    (same_cells E xs b (o + item_size E))

module _ (E : El) (b o : ℕ) where
  -- the place i
  abbrev at : ℕ → ℕ
  at i = i * item_size E + o

  abbrev Row : ℕ → List (Place E) → Fml
  Row = places_owned (R E) b

  abbrev Held : ℕ → ℕ → List (el_x E) → Fml
  Held i n xs = (Values E n).own_at xs b (at i)

  module _ {M : Type 1} {𝓤 : Ura M} {𝓛 : Logic 𝓤} {K : Type 0} {Γ : List (Item 𝓤)} {G : Goal 𝓤 𝓛.H} (t : K)
      (i : ℕ) where
    -- filled places are values, and values are filled places
    pub as_values : {ps : List (Place E)} (xs : List (el_x E)) {n : ℕ} → ps ≡ map Some xs → length xs ≡ n
        → Step K 𝓛 (‵ (Held i n xs) ∷ Γ) G (‵ (Row (at i) ps) ∷ Γ) G
    as_values xs {n} is many = step (λ s.
        rewrite t 0 (λ F. ‵ F) (ap (Row (at i)) is ∙ same_cells E xs b (at i)) refl $
        feq_i t ℕ (length xs) n many $ fjoin t $ s)

    pub as_places : (xs : List (el_x E)) {n : ℕ} → (length xs ≡ n → Seq K 𝓛 (‵ (Row (at i) (map Some xs)) ∷ Γ) G)
        → Seq K 𝓛 (‵ (Held i n xs) ∷ Γ) G
    as_places xs next = fsplit t $ feq_l t (λ many.
        rewrite t 0 (λ F. ‵ F) (sym (same_cells E xs b (at i))) refl $ next many)

  -- two runs apart are taken out
  module _ {M : Type 1} {𝓤 : Ura M} (𝓛 : Logic 𝓤) (K : Type 0) (Γ : List (Item 𝓤)) (G : Goal 𝓤 𝓛.H) (t : K)
      (ps : List (Place E)) where
    -- how a proof goes on with both: as many instead of both give, with the rest, the places again
    abbrev Next : ℕ → ℕ → ℕ → ℕ → Type 1
    Next i m j n = (Rest : Fml)
        → ((us vs : List (Place E)) → length us ≡ m → length vs ≡ n
        → ent 𝓤 (sep 𝓤 (sem 𝓛 (Row (at i) us)) (sep 𝓤 (sem 𝓛 (Row (at j) vs)) (sem 𝓛 Rest)))
        (sem 𝓛 (Row o (placed j n vs (placed i m us ps)))))
        → Seq K 𝓛 (‵ (Row (at i) (run ps i m)) ∷ ‵ (Row (at j) (run ps j n)) ∷ ‵ Rest ∷ Γ) G

    -- the first is empty
    first_none : (i j n : ℕ) → j + n ≤ length ps → Next i 0 j n → Seq K 𝓛 (‵ (Row o ps) ∷ Γ) G
    first_none i j n in_j next =
        let Others = Around E 𝓛 b o ps j n in
        use1 𝓛 (‵ (Row (at j) (run ps j n)) ⊛ ‵ Others) (run_out E 𝓛 b o ps j n in_j) $ split t $ nothing t $
        next Others (λ us vs e e'. rw (placed_nothing i us ps e)
        (qed 𝓛 (‵ (Row (at i) us) ∷ ‵ (Row (at j) vs) ∷ ‵ Others ∷ []) ∵ keep ! (1 ∷ 2 ∷ []) $
        by ! (run_in E 𝓛 b o ps j n in_j vs e')))

    -- the first lies before the second
    first_low : (i m j n : ℕ) → i + m ≤ j → j + n ≤ length ps → Next i m j n → Seq K 𝓛 (‵ (Row o ps) ∷ Γ) G
    first_low i m j n low in_j next =
        let front = take j ps in let behind = n * item_size E + at j in
        let Before = Around E 𝓛 b o front i m in let Behind = Row behind (drop_list (j + n) ps) in
        let below : i + m ≤ length front = omega (arith, length-take j ps) in
        use1 𝓛 (‵ (Row (at j) (run ps j n)) ⊛ ‵ (Around E 𝓛 b o ps j n)) (run_out E 𝓛 b o ps j n in_j) $ split t $
        move t (1 ∷ []) $ fsplit t $
        use1 𝓛 (‵ (Row (at i) (run front i m)) ⊛ ‵ Before) (run_out E 𝓛 b o front i m below) $ split t $
        rewrite t 0 (λ qs. ‵ (Row (at i) qs)) (run-take i m j n ps low in_j) refl $
        -- [the first; around it; what is behind the second; the second]
        move t (1 ∷ 2 ∷ []) $ fjoin t $ move t (1 ∷ 2 ∷ []) $ next (fsep Before Behind) (λ us vs e e'.
        qed 𝓛 (‵ (Row (at i) us) ∷ ‵ (Row (at j) vs) ∷ ‵ (fsep Before Behind) ∷ []) ∵
        move ! (2 ∷ []) $ fsplit ! $ move ! (2 ∷ 0 ∷ []) $
        use2 𝓛 (‵ (Row o (placed i m us front))) (run_in E 𝓛 b o front i m below us e) $
        -- [what is before the second; what is behind it; the second]
        rewrite ! 0 (λ qs. ‵ (Row o qs)) (sym (take-placed i m j n ps low in_j us e)) refl $
        rewrite ! 1 (λ qs. ‵ (Row behind qs)) (sym (drop-placed i m j n ps low in_j us e)) refl $
        fjoin ! $ move ! (1 ∷ 0 ∷ []) $
        by ! (run_in E 𝓛 b o (placed i m us ps) j n (grind (arith, common_steps, low, in_j, e)) vs e'))

    -- the two may come in either order, where what is written into both may
    other_way : (i m j n : ℕ) → ((us vs : List (Place E)) → length us ≡ m → length vs ≡ n
        → placed i m us (placed j n vs ps) ≡ placed j n vs (placed i m us ps)) → Next i m j n → Next j n i m
    other_way i m j n same next Rest back = move t (1 ∷ []) $ next Rest (λ us vs e e'.
        qed 𝓛 (‵ (Row (at i) us) ∷ ‵ (Row (at j) vs) ∷ ‵ Rest ∷ []) ∵ move ! (1 ∷ []) $
        use3 𝓛 (‵ (Row o (placed i m us (placed j n vs ps)))) (back vs us e' e) $
        rewrite ! 0 (λ qs. ‵ (Row o qs)) (same us vs e e') refl $ done !)

    pub two_out : (i m j n : ℕ) → i + m ≤ length ps → j + n ≤ length ps → AreApart i m j n → Next i m j n
        → Seq K 𝓛 (‵ (Row o ps) ∷ Γ) G
    two_out i m j n in_i in_j apart = elim (apart_cases i m j n apart) [
      | inl in_order ↦ elim in_order [
        | inl low ↦ first_low i m j n low in_j
        | inr low ↦ λ next. first_low j n i m low in_i (other_way i m j n (λ us vs e e'.
            sym (placed-either j n i m ps low in_i vs e' us e)) next)
      ]
      | inr one ↦ elim one [
        | inl none ↦ subst (λ k. Next i k j n → Seq K 𝓛 (‵ (Row o ps) ∷ Γ) G) (sym none) (first_none i j n in_j)
        | inr none ↦ subst (λ k. Next i m j k → Seq K 𝓛 (‵ (Row o ps) ∷ Γ) G) (sym none) (λ next. first_none j i m in_i
            (other_way i m j 0 (λ us vs e e'. ap (placed i m us) (placed_nothing j vs ps e')
            ∙ sym (placed_nothing j vs (placed i m us ps) e')) next))
      ]
    ]

  -- two filled runs are taken out as values, and others in their stead give the places with these written
  module _ {M : Type 1} {𝓤 : Ura M} {𝓛 : Logic 𝓤} {K : Type 0} {Γ : List (Item 𝓤)} {G : Goal 𝓤 𝓛.H} (t : K)
      (ps : List (Place E)) (i m j n : ℕ) (one : IsFilledRun ps i m) (two : IsFilledRun ps j n) where
    pub values_out : AreApart i m j n → length one.1.0 ≡ m → length two.1.0 ≡ n
        → ((Rest : Fml) → ((us vs : List (el_x E))
        → ent 𝓤 (sep 𝓤 (sem 𝓛 (Held i m us)) (sep 𝓤 (sem 𝓛 (Held j n vs)) (sem 𝓛 Rest)))
        (sem 𝓛 (Row o (with_run j (as_many two.1.0 vs) (with_run i (as_many one.1.0 us) ps)))))
        → Seq K 𝓛 (‵ (Held i m one.1.0) ∷ ‵ (Held j n two.1.0) ∷ ‵ Rest ∷ Γ) G) → Seq K 𝓛 (‵ (Row o ps) ∷ Γ) G
    values_out apart long long' next = two_out 𝓛 K Γ G t ps i m j n one.0 two.0 apart (λ Rest back.
        as_values t i one.1.0 one.1.1 long $ move t (1 ∷ []) $ as_values t j two.1.0 two.1.1 long' $
        move t (1 ∷ []) $ next Rest (λ us vs. qed 𝓛 (‵ (Held i m us) ∷ ‵ (Held j n vs) ∷ ‵ Rest ∷ []) ∵
        as_places ! i us (λ same. move ! (1 ∷ []) $ as_places ! j vs (λ same'. move ! (1 ∷ []) $
        use3 𝓛 (‵ (Row o (placed j n (map Some vs) (placed i m (map Some us) ps))))
        (back (map Some us) (map Some vs) (length-map us Some ∙ same) (length-map vs Some ∙ same')) $
        rewrite ! 0 (λ qs. ‵ (Row o qs)) (rw (as_run i one.1.0 us ps long same)
        (as_run j two.1.0 vs (with_run i (as_many one.1.0 us) ps) long' same')) refl $ done !))))
