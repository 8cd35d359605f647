-- A `Slots` is taken apart into its words, its places and its right to free, and made of them;
-- a `&mut` to one is opened and closed. Assumes `Logic`.
use Rattle.arraydeque_ring.{
  proofs.memory.{
    Kit.{◌≡◌, sym, length-replicate, refl, ap, ◌∙◌, List, [], ◌∷◌, ◌++◌, ℕ, ◌+◌, ◌*◌},
    Kit.{◌<◌, ◌≤◌, ◌^◌, arith, length, Ura, full_share, Gv, ent, sep, emp, id⊢, never, Lft, Share},
    Kit.{GName, Fml, fsep, flft, fobs, fauth, fbor, fobor, ftrue, w64, Val, vunit, vint, vptr},
    Kit.{vstruct, vcons, vnil, of_list, Logic, sem, Borrowed, Goal, Soaks, Step, step, Seq, Item},
    Kit.{‵, ◌$◌, ◌∵◌, !, qed, move, drop, rewrite, use0, fsplit, fjoin, fpick, fpack, feq_l, feq_i},
    Kit.{flt_l, flt_i, RattleType, Valss, Is, shows, layout, cell_at, mem, Ptr, block_ptr, ptr_val},
    Kit.{in_a_block, nothing, opens, closes, peeks, Good, heap_val, heap_Tells, done},
    Kit.{El, R, el_x, part_of, makes_shadow, Global},
  },
  specs.{Places.Region, Ownership.slots_owned, declared.slots.Slots.TheInside.Inside},
}
use denote.Struct.{Struct.within, Owning.{Owning, shape}}
use Rattle.std.specs.contracts.alloc.Global as heap
pub use Rattle.arraydeque_ring.{
  specs.{
    Places.empty_region,
    Ownership.{owned_if, place_owned, places_owned, right_to_free},
    Runs.{HoldsRun, IsFilledRun},
  },
  proofs.memory.{
    Blocks.scaled,
    Owned.{Place, Row, item_size, of_nothing, of_room, run_seen},
    Rows.{Around, run_out, run_in, place_out, place_in, row_room, array_out, array_in, room_out},
    Rows.room_in,
  },
}
use Rattle.arraydeque_ring.specs.contracts.slots.Slots as slots
use Rattle.arraydeque_ring.specs.contracts.slots.Slots.TheInside as inside

-- the words of a `Slots`: the pointer, the capacity and the allocator
abbrev words_val : Ptr → ℕ → Val
words_val p n = vstruct (vcons (ptr_val p) (vcons (vint w64 n) (vcons heap_val vnil)))

abbrev pub slots_val : ℕ → ℕ → ℕ → Val
slots_val b o n = words_val (block_ptr b o) n

pub heap_Good : Good (layout heap.the_row) heap_val
heap_Good = (tt, ((tt, tt), tt))

heap_made : {M : Type 1} {𝓤 : Ura M} (𝓛 : Logic 𝓤) (g : Global)
    → ent 𝓤 (emp 𝓤) (sem 𝓛 (heap.the_row.own_val g (heap_val ∷ [])))
heap_made 𝓛 g = makes_shadow 𝓛 (heap.the_row.own_val g (heap_val ∷ [])) (λ vss. (tt, ((λ uss. (tt, (tt, tt))), tt)))
    ((vstruct (vcons vunit vnil) ∷ [], tt), (refl, (((vunit ∷ [], tt), (refl, (refl, tt))), tt)))

module _ (E : El) where
  abbrev pub owning : Owning
  owning = inside.the_type (R E)

  -- the type `Slots`, and what a contract sees of a value of it
  abbrev pub Sr : RattleType
  Sr = slots.the_row (R E)

  abbrev pub Seen : Type 0
  Seen = Region (el_x E)

  pub slots_Good : (b o n : ℕ) → n < 2 ^ 64 → Good (layout Sr) (slots_val b o n)
  slots_Good b o n fits = (tt, (tt, (record { fits = fits }, (heap_Good.1, tt))))

  abbrev pub places : Seen → ℕ → ℕ → Fml
  places r b o = places_owned (R E) b o r.places

  abbrev pub right : Global → ℕ → ℕ → ℕ → Fml
  right g n b o = right_to_free (R E) g n (block_ptr b o)

  -- what the words say of the region: its capacity, which fits a word, and that its places are in reach
  pub record Fits (r : Seen) (o n : ℕ) : Type 0 where
    pub capacity : n ≡ length r.places
    pub word : n < 2 ^ 64
    pub reach : length r.places * item_size E + o < 2 ^ 63

  pub Fits-empty : (o n : ℕ) → n < 2 ^ 64 → n * item_size E + o < 2 ^ 63 → Fits (empty_region n) o n
  Fits-empty o n word reach = grind (arith, length-replicate)

  module _ {r : Seen} {o n : ℕ} (ok : Fits r o n) where
    -- they say it of any region of as many places
    Fits-as : (r' : Seen) → length r.places ≡ length r'.places → Fits r' o n
    Fits-as r' same = grind arith

    -- the bytes before a place fit a word, and those of a run are in reach
    pub run_fits : (k : ℕ) → k ≤ length r.places → (k < 2 ^ 64) × (k * item_size E < 2 ^ 63)
    run_fits k le = grind arith

    pub near : (k : ℕ) → k ≤ length r.places → k * item_size E < 2 ^ 64
    near k le = let below = (run_fits k le).1 in omega arith

module _ (E : El) {M : Type 1} {𝓤 : Ura M} {𝓛 : Logic 𝓤} {K : Type 0} {Γ : List (Item 𝓤)} {G : Goal 𝓤 𝓛.H} where
  -- leaves [the places; the right]
  pub slots_apart : K → (r : Seen E) (vs : List Val)
      → ((g : Global) (b o n : ℕ) → Fits E r o n → vs ≡ slots_val b o n ∷ []
      → Seq K 𝓛 (‵ (places E r b o) ∷ ‵ (right E g n b o) ∷ Γ) G)
      → Seq K 𝓛 (‵ ((Sr E).own_val r vs) ∷ Γ) G
  slots_apart t r vs then =
      fpick t (λ x. fsplit t $ move t (1 ∷ []) $ drop t $
      let a = x.0 in
      let same : a.places ≡ r.places = ap (λ v. v.places) x.1.0 in
      fsplit t $ fpick t (λ vss. fsplit t $ feq_l t (λ all. fsplit t $
      feq_l t (λ pointer. fsplit t $ fsplit t $ feq_l t (λ word. flt_l t (λ fits. fsplit t $
      peeks t heap.the_row (Is heap.the_row) (shows 𝓛 heap.the_row) a.alloc vss.1.1.0 (λ is. drop t $ drop t $
      in_a_block t a.ptr (λ p. slots_owned (R E) a.alloc p a.places) (id⊢ 𝓤 (never 𝓤)) (λ b o at.
      rewrite t 0 (λ ps. ‵ (slots_owned (R E) a.alloc (block_ptr b o) ps)) same refl $
      fsplit t $ flt_l t (λ reach. fsplit t $ let long = x.1.1 ∙ ap length same in
      rewrite t 1 (λ k. ‵ (right E a.alloc k b o)) (sym long) refl $
      then a.alloc b o a.capacity (record { capacity = long; word = fits; reach = reach })
      (all ∙ ((λ i. vstruct (of_list (pointer i ++ (word i ++ (heap_Tells a.alloc vss.1.1.0 is i ++ [])))) ∷ [])
      ∙ ap (λ p. words_val p a.capacity ∷ []) at)))))))))))

  -- takes [the places; the right]
  pub slots_made : K → {g : Global} {r : Seen E} {b o n : ℕ} → Fits E r o n
      → Step K 𝓛 (‵ ((Sr E).own_val r (slots_val b o n ∷ [])) ∷ Γ) G (‵ (places E r b o) ∷ ‵ (right E g n b o) ∷ Γ) G
  slots_made t {g} {r} {b} {o} {n} ok = step (λ s.
      let a : Inside (el_x E) = record {
        ptr = block_ptr b o;
        capacity = n;
        alloc = g;
        places = r.places;
        steps = r.steps;
      } in
      let vs : List Val = slots_val b o n ∷ [] in
      rewrite t 1 (λ k. ‵ (right E g k b o)) ok.capacity refl $ fjoin t $ flt_i t _ (2 ^ 63) ok.reach $ fjoin t $
      nothing t $ use0 𝓛 (‵ (heap.the_row.own_val g (heap_val ∷ []))) (heap_made 𝓛 g) $ fjoin t $
      flt_i t n (2 ^ 64) ok.word $ feq_i t _ (vint w64 n ∷ []) _ refl $ fjoin t $ fjoin t $
      feq_i t _ (vptr b o ∷ []) _ refl $ fjoin t $ feq_i t _ vs _ refl $ fjoin t $
      fpack t (Valss (shape (owning E)).fields)
      (within (shape (owning E)) (block_ptr b o, (n, (heap.the_type.to g, tt))) vs)
      (vptr b o ∷ [], (vint w64 n ∷ [], (heap_val ∷ [], tt))) $ fjoin t $
      nothing t $ move t (1 ∷ 0 ∷ []) $ fjoin t $
      fpack t ((x : Inside (el_x E)) × ((record { places = x.places; steps = x.steps } ≡ r) × (x.capacity
      ≡ length x.places))) (λ x. fsep ((inside.the_row (R E)).own_val x.0 vs) ftrue) (a, (refl, ok.capacity)) $ s)

module _ (E : El) {M : Type 1} {𝓤 : Ura M} {𝓛 : Logic 𝓤} {K : Type 0} {Γ : List (Item 𝓤)} {G : Goal 𝓤 𝓛.H} where
  -- a `&mut` is opened: [the places; the right; the words; the open borrow, in three]
  pub slots_open : K → Soaks G → {κ : Lft} {q : Share} {γ : GName} (r : Seen E) {rb ro : ℕ}
      → ((g : Global) (b o n : ℕ) → Fits E r o n
      → Seq K 𝓛 (‵ (places E r b o) ∷ ‵ (right E g n b o)
      ∷ ‵ (cell_at full_share (Sr E).mir (slots_val b o n ∷ []) rb ro)
      ∷ ‵ (fobor κ q (Borrowed (mem (Sr E)) rb ro γ)) ∷ ‵ (fobs γ ((Sr E).coded.code r))
      ∷ ‵ (fauth γ ((Sr E).coded.code r)) ∷ Γ) G)
      → Seq K 𝓛 (‵ (fobs γ ((Sr E).coded.code r)) ∷ ‵ (fbor κ (Borrowed (mem (Sr E)) rb ro γ)) ∷ ‵ (flft κ q) ∷ Γ) G
  slots_open t z r {rb} {ro} then =
      opens t z (Sr E) {h = r} rb ro (λ vs. move t (1 ∷ []) $ slots_apart E t r vs (λ g b o n ok is.
      rewrite t 2 (λ ws. ‵ (cell_at full_share (Sr E).mir ws rb ro)) is refl $ then g b o n ok))

  -- and closed with other places instead of those of r, as many
  pub slots_close : K → Soaks G → {κ : Lft} {q : Share} {u v : Gv} {γ : GName} {g : Global} {r : Seen E} (new : Seen E)
      {b o n rb ro : ℕ} → Fits E r o n → length r.places ≡ length new.places
      → Step K 𝓛 (‵ (fobs γ ((Sr E).coded.code new)) ∷ ‵ (fbor κ (Borrowed (mem (Sr E)) rb ro γ)) ∷ ‵ (flft κ q) ∷ Γ) G
      (‵ (places E new b o) ∷ ‵ (right E g n b o) ∷ ‵ (cell_at full_share (Sr E).mir (slots_val b o n ∷ []) rb ro)
      ∷ ‵ (fobor κ q (Borrowed (mem (Sr E)) rb ro γ)) ∷ ‵ (fobs γ u) ∷ ‵ (fauth γ v) ∷ Γ) G
  slots_close t z new {b} {o} {n} {rb} {ro} ok same = step (λ s. slots_made E t (Fits-as E ok new same) $
      move t (1 ∷ 0 ∷ []) $ closes t z (Sr E) new (slots_val b o n ∷ []) rb ro $ s)

-- what a region owns but for its places, while it lies open
module _ (E : El) {M : Type 1} {𝓤 : Ura M} (𝓛 : Logic 𝓤) (rb ro : ℕ) (g : Global) (r : Seen E) (b o n : ℕ) where
  abbrev pub Frame : Fml
  Frame = fsep (right E g n b o) (cell_at full_share (Sr E).mir (slots_val b o n ∷ []) rb ro)

  pub slots_whole : Fits E r o n → (new : Seen E) → length r.places ≡ length new.places
      → ent 𝓤 (sep 𝓤 (sem 𝓛 (places E new b o)) (sem 𝓛 Frame)) (sem 𝓛 ((mem (Sr E)).own_at new rb ro))
  unfolding part_of
  slots_whole ok new same =
      qed 𝓛 (‵ (places E new b o) ∷ ‵ Frame ∷ []) ∵ move ! (1 ∷ []) $ fsplit ! $ move ! (2 ∷ 0 ∷ []) $
      slots_made E ! (Fits-as E ok new same) $ move ! (1 ∷ 0 ∷ []) $ fjoin ! $
      fpack ! (List Val) (λ vs. fsep (cell_at full_share (Sr E).mir vs rb ro) ((Sr E).own_val new vs))
      (slots_val b o n ∷ []) $ done !
