-- A run of places is taken out of a block as an array of values, or as room for one, and put back. Assumes `Logic`.
use Rattle.arraydeque_ring.{
  proofs.{
    memory.{
      Kit.{drop, ◌≡◌, refl, sym, ap, ◌∙◌, List, [], ◌∷◌, ◌++◌, map, ℕ, ◌+◌, ◌*◌, ◌≤◌, arith},
      Kit.{length, take, drop_list, length-take, Some, None, Ura, full_share, ent, sep, Fml, fsep},
      Kit.{fat, froom, ty_array, Logic, sem, ‵, ◌⊛◌, some, given, ◌$◌, ◌∵◌, !, qed, by, move, keep},
      Kit.{use1, use2, pick, learn, split, fsplit, fjoin, rewrite, done, part_at, El, R, el_x, elτ},
      Kit.{Array, ◌<◌, get_or, set, drop-cons, part_out, set_split, nothing, suc, Item, Goal, Step},
      Kit.{step, length-map, length-replicate, replicate, Seq},
      Owned.{item_size, Place, Row, cut, glue, of_room},
    },
    places.Filled.length_filled,
  },
  specs.{Ownership.place_owned, Runs.{run_emptied, IsFilledRun}},
}
use Rattle.std.below.core.proofs.slots.Runs.{unspliced, run_long}
use denote.Index.{row}
use Rattle.std.proofs.ptr.Rows as arrays

module _ (E : El) {M : Type 1} {𝓤 : Ura M} (𝓛 : Logic 𝓤) (b : ℕ) where
  open 𝓛 use {H}

  abbrev s : ℕ
  s = item_size E

  abbrev On : ℕ → List (Place E) → Fml
  On = Row E 𝓛 b

  module _ (o : ℕ) (ps : List (Place E)) (i n : ℕ) where
    -- the places but for the n from the i-th on
    abbrev pub Around : Fml
    Around = fsep (On o (take i ps)) (On (n * s + (i * s + o)) (drop_list (i + n) ps))

    at_i : i + n ≤ length ps → i * s + o ≡ length (take i ps) * s + o
    at_i within = let long : i ≡ length (take i ps) = omega (arith, length-take i ps) in ap (λ k. k * s + o) long

    -- a run is taken from the others, and put back as qs
    pub run_out : i + n ≤ length ps
        → ent 𝓤 (sem 𝓛 (On o ps)) (sep 𝓤 (sem 𝓛 (On (i * s + o) (take n (drop_list i ps)))) (sem 𝓛 Around))
    run_out within =
        let run = take n (drop_list i ps) in
        let rest = drop_list (i + n) ps in
        qed 𝓛 (‵ (On o ps) ∷ []) ∵ rewrite ! 0 (λ l. ‵ (On o l)) (sym (unspliced ps i n)) refl $
        use1 𝓛 (‵ (On o (take i ps)) ⊛ ‵ (On (i * s + o) (run ++ rest)))
        (cut E 𝓛 b (take i ps) (run ++ rest) o (i * s + o) (at_i within)) $ split ! $ move ! (1 ∷ []) $
        use1 𝓛 (‵ (On (i * s + o) run) ⊛ ‵ (On (n * s + (i * s + o)) rest))
        (cut E 𝓛 b run rest (i * s + o) (n * s + (i * s + o))
        (ap (λ k. k * s + (i * s + o)) (sym (run_long ps i n within)))) $
        split ! $ move ! (2 ∷ 1 ∷ []) $ fjoin ! $ move ! (1 ∷ []) $ done !

    pub run_in : i + n ≤ length ps → (qs : List (Place E)) → length qs ≡ n → ent 𝓤
        (sep 𝓤 (sem 𝓛 (On (i * s + o) qs)) (sem 𝓛 Around)) (sem 𝓛 (On o (take i ps ++ (qs ++ drop_list (i + n) ps))))
    run_in within qs long =
        let rest = drop_list (i + n) ps in
        qed 𝓛 (‵ (On (i * s + o) qs) ∷ ‵ Around ∷ []) ∵ move ! (1 ∷ []) $ fsplit ! $ move ! (2 ∷ 1 ∷ []) $
        use2 𝓛 (‵ (On (i * s + o) (qs ++ rest))) (glue E 𝓛 b qs rest (i * s + o) (n * s + (i * s + o))
        (ap (λ k. k * s + (i * s + o)) (sym long))) $ move ! (1 ∷ 0 ∷ []) $
        by ! (glue E 𝓛 b (take i ps) (qs ++ rest) o (i * s + o) (at_i within))

  -- a place is room, whether or not it holds a value, and a run of places is room for an array
  place_room : (p : Place E) (o : ℕ) → ent 𝓤 (sem 𝓛 (place_owned (R E) b o p)) (H.room (elτ E) b o)
  place_room None o = 𝓛.laws.raw-room (elτ E) b o
  place_room (Some x) o = qed 𝓛 (‵ (part_at (R E) full_share x b o) ∷ []) ∵
      use1 𝓛 (some (λ v. ‵ (fat full_share (elτ E) b o v) ⊛ ‵ (E.row.own_val x (v ∷ []))))
      (part_out 𝓛 (R E) refl full_share x b o) $
      pick ! (λ v. split ! $ keep ! (0 ∷ []) $ by ! (𝓛.laws.at_room (elτ E) b o v))

  pub row_room : (ps : List (Place E)) (n o : ℕ) → length ps ≡ n
      → ent 𝓤 (sem 𝓛 (On o ps)) (H.room (ty_array (elτ E) n) b o)
  row_room [] n o long = rw (sym long) (𝓛.laws.room_nil (elτ E) b o)
  row_room (p ∷ ps) n o long = rw (sym long) (qed 𝓛 (‵ (place_owned (R E) b o p) ∷ ‵ (On (o + s) ps) ∷ []) ∵
      use1 𝓛 (‵ (froom (elτ E) b o)) (place_room p o) $ move ! (1 ∷ []) $
      use1 𝓛 (‵ (froom (ty_array (elτ E) (length ps)) b (o + s))) (row_room ps (length ps) (o + s) refl) $
      move ! (1 ∷ []) $ by ! (𝓛.laws.room_cons (elτ E) (length ps) b o))

  -- a filled run is an array
  abbrev Cells : arrays.El
  Cells = record { row = E.row; laws = E.laws }

  same_row : (xs : List (el_x E)) (o : ℕ) → On o (map Some xs) ≡ row (R E) full_share xs b o
  same_row [] o = refl
  same_row (x ∷ xs) o = ap (λ F. fsep (part_at (R E) full_share x b o) F) (same_row xs (o + s))

-- a filled run is an array of values, and such an array is a filled run
module _ (E : El) {M : Type 1} {𝓤 : Ura M} {𝓛 : Logic 𝓤} {K : Type 0} {Γ : List (Item 𝓤)} {G : Goal 𝓤 𝓛.H} (t : K)
    (b at n : ℕ) {qs : List (Place E)} (xs : List (el_x E)) (is : qs ≡ map Some xs) where
  pub as_array : length xs ≡ n
      → Step K 𝓛 (‵ (part_at (Array (R E) n) full_share xs b at) ∷ Γ) G (‵ (Row E 𝓛 b at qs) ∷ Γ) G
  as_array long = step (λ s.
      rewrite t 0 (λ F. ‵ F) (ap (Row E 𝓛 b at) is ∙ same_row E 𝓛 b xs at) refl $
      use1 𝓛 (‵ (part_at (Array (R E) n) full_share xs b at))
      (arrays.whole (Cells E 𝓛 b) 𝓛 full_share n xs b at long) $ s)

  pub as_row : (length xs ≡ n → Seq K 𝓛 (‵ (Row E 𝓛 b at qs) ∷ Γ) G)
      → Seq K 𝓛 (‵ (part_at (Array (R E) n) full_share xs b at) ∷ Γ) G
  as_row next =
      use1 𝓛 (given (length xs ≡ n) (‵ (row (R E) full_share xs b at)))
      (arrays.apart (Cells E 𝓛 b) 𝓛 full_share n xs b at) $ learn t (λ long.
      rewrite t 0 (λ F. ‵ F) (sym (ap (Row E 𝓛 b at) is ∙ same_row E 𝓛 b xs at)) refl $ next long)

-- the n places from the i-th on, as an array of values, and as room for one
module _ (E : El) (b o i n : ℕ) where
  abbrev pub Filled : List (el_x E) → Fml
  Filled xs = part_at (Array (R E) n) full_share xs b (i * item_size E + o)

  abbrev pub Room : Fml
  Room = froom (ty_array (elτ E) n) b (i * item_size E + o)

-- they are taken from the others, and put back
module _ (E : El) {M : Type 1} {𝓤 : Ura M} {𝓛 : Logic 𝓤} {K : Type 0} {Γ : List (Item 𝓤)} {G : Goal 𝓤 𝓛.H} (t : K)
    (b o : ℕ) (ps : List (Place E)) (i n : ℕ) where
  pub array_out : (filled : IsFilledRun ps i n)
      → Step K 𝓛 (‵ (Filled E b o i n filled.1.0) ∷ ‵ (Around E 𝓛 b o ps i n) ∷ Γ) G (‵ (Row E 𝓛 b o ps) ∷ Γ) G
  array_out filled = let at = i * item_size E + o in step (λ s.
      use1 𝓛 (‵ (Row E 𝓛 b at (take n (drop_list i ps))) ⊛ ‵ (Around E 𝓛 b o ps i n))
      (run_out E 𝓛 b o ps i n filled.0) $ split t $
      as_array E t b at n filled.1.0 filled.1.1 (length_filled ps i n filled) $ s)

  pub array_in : i + n ≤ length ps → (xs : List (el_x E)) {qs : List (Place E)} → qs ≡ map Some xs
      → Step K 𝓛 (‵ (Row E 𝓛 b o (take i ps ++ (qs ++ drop_list (i + n) ps))) ∷ Γ) G
      (‵ (Filled E b o i n xs) ∷ ‵ (Around E 𝓛 b o ps i n) ∷ Γ) G
  array_in within xs {qs} e = step (λ s.
      as_row E t b (i * item_size E + o) n xs e (λ long.
      use2 𝓛 (‵ (Row E 𝓛 b o (take i ps ++ (qs ++ drop_list (i + n) ps))))
      (run_in E 𝓛 b o ps i n within qs (ap length e ∙ length-map xs Some ∙ long)) $ s))

  pub room_out : i + n ≤ length ps
      → Step K 𝓛 (‵ (Room E b o i n) ∷ ‵ (Around E 𝓛 b o ps i n) ∷ Γ) G (‵ (Row E 𝓛 b o ps) ∷ Γ) G
  room_out within = let run = take n (drop_list i ps) in let at = i * item_size E + o in step (λ s.
      use1 𝓛 (‵ (Row E 𝓛 b at run) ⊛ ‵ (Around E 𝓛 b o ps i n)) (run_out E 𝓛 b o ps i n within) $ split t $
      use1 𝓛 (‵ (Room E b o i n))
      (row_room E 𝓛 b run n at (run_long ps i n within)) $ s)

  pub room_in : i + n ≤ length ps
      → Step K 𝓛 (‵ (Row E 𝓛 b o (run_emptied i n ps)) ∷ Γ) G (‵ (Room E b o i n) ∷ ‵ (Around E 𝓛 b o ps i n) ∷ Γ) G
  room_in within = let nones : List (Place E) = replicate n None in let at = i * item_size E + o in step (λ s.
      use1 𝓛 (‵ (Row E 𝓛 b at nones)) (of_room E 𝓛 b n at) $
      use2 𝓛 (‵ (Row E 𝓛 b o (run_emptied i n ps))) (run_in E 𝓛 b o ps i n within nones (length-replicate n None)) $ s)

-- one place is a run of one
module _ (E : El) {M : Type 1} {𝓤 : Ura M} {𝓛 : Logic 𝓤} {K : Type 0} {Γ : List (Item 𝓤)} {G : Goal 𝓤 𝓛.H} (t : K)
    (b o : ℕ) (ps : List (Place E)) (i : ℕ) (lt : i < length ps) where
  pub place_out : {p : Place E} → get_or ps i None ≡ p
      → Step K 𝓛 (‵ (place_owned (R E) b (i * item_size E + o) p) ∷ ‵ (Around E 𝓛 b o ps i 1) ∷ Γ) G
      (‵ (Row E 𝓛 b o ps) ∷ Γ) G
  place_out is = let On = Row E 𝓛 b (i * item_size E + o) in step (λ s.
      use1 𝓛 (‵ (On (take 1 (drop_list i ps))) ⊛ ‵ (Around E 𝓛 b o ps i 1)) (run_out E 𝓛 b o ps i 1 (omega arith)) $
      split t $ rewrite t 0 (λ qs. ‵ (On qs)) (ap (take 1) (drop-cons ps i None lt) ∙ ap (λ q. q ∷ []) is) refl $
      fsplit t $ move t (1 ∷ []) $ drop t $ s)

  pub place_in : (p : Place E) → Step K 𝓛 (‵ (Row E 𝓛 b o (set ps i p)) ∷ Γ) G
      (‵ (place_owned (R E) b (i * item_size E + o) p) ∷ ‵ (Around E 𝓛 b o ps i 1) ∷ Γ) G
  place_in p = step (λ s. nothing t $ move t (1 ∷ 0 ∷ []) $ fjoin t $
      use2 𝓛 (‵ (Row E 𝓛 b o (take i ps ++ (p ∷ drop_list (i + 1) ps))))
      (run_in E 𝓛 b o ps i 1 (omega arith) (p ∷ []) refl) $
      rewrite t 0 (λ qs. ‵ (Row E 𝓛 b o qs)) (ap (λ k. take i ps ++ (p ∷ drop_list k ps)) {y = suc i} (omega arith)
      ∙ sym (set_split ps i p lt)) refl $ s)
