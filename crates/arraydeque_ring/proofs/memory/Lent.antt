-- What a `&` to a `Slots` shows: its pointer, and a `&` to each value in its places. And how a part of the places that
-- a `&mut` opens is lent. Assumes `Logic`.
use Rattle.arraydeque_ring.{
  proofs.memory.{
    Kit.{◌≡◌, refl, ap, List, [], ◌∷◌, ℕ, ◌+◌, ◌*◌, ◌<◌, ◌^◌, length, Ura, never, id⊢, Lft, fhide},
    Kit.{Logic, Goal, Seq, Item, ‵, ◌⊛◌, ◌$◌, move, drop, use1, split, rewrite, fsplit, fpick},
    Kit.{flt_l, hidden_shr, Ptr, RawPtr, block_ptr, in_a_block, El, R, el_x, Struct, Soaks, Share},
    Kit.{GName, Gv, Global, Fml, SemTy, ent, sep, sem, mem, cell_at, flft, full_share, fobs, fauth},
    Kit.{fbor, fobor, Borrowed, ◌∵◌, !, qed, by, use2, await, pick, some, later, group, split3},
    Owned.item_size,
    Regions.{Sr, Seen, owning, Fits, Frame, slots_whole, slots_val, places, right},
  },
  specs.Ownership.{places_lent, slots_lent},
}
use denote.{Opens.unhide, Struct.{Lending.lent_out, Owning.{to, shape}}}
use types.Follow.{after, takes_part}
use Rattle.std.specs.contracts.alloc.Global as heap
use Rattle.arraydeque_ring.specs.contracts.slots.Slots.TheInside as inside

module _ (E : El) {M : Type 1} {𝓤 : Ura M} {𝓛 : Logic 𝓤} {K : Type 0} {Γ : List (Item 𝓤)} {G : Goal 𝓤 𝓛.H} where
  -- leaves [the places, lent; the pointer's field, lent]
  pub slots_seen : K → {κ : Lft} (r : Seen E) (rb ro : ℕ)
      → ((p : Ptr) (b o : ℕ) → p ≡ block_ptr b o → length r.places * item_size E + o < 2 ^ 63
      → Seq K 𝓛 (‵ (places_lent (R E) b o r.places κ) ∷ ‵ (hidden_shr RawPtr κ p rb (ro + 0)) ∷ Γ) G)
      → Seq K 𝓛 (‵ (hidden_shr (Sr E) κ r rb ro) ∷ Γ) G
  slots_seen t {κ} r rb ro then =
      unhide t $ fpick t (λ x. fsplit t $ move t (1 ∷ []) $ drop t $
      let a = x.0 in let own = owning E in let lent = inside.the_lent (R E) in
      use1 𝓛 (‵ (hidden_shr (Struct (shape own)) κ (to own a) rb ro) ⊛ ‵ (fhide (lent a a.ptr κ)))
      (lent_out 𝓛 (inside.struct (R E)) (inside.the_codes (el_x E) (R E).coded heap.the_row.coded)
      (inside.the_heap (R E)) lent κ a rb ro) $ split t $
      unhide t $ fsplit t $ fsplit t $ use1 𝓛 (‵ (hidden_shr RawPtr κ a.ptr rb (ro + 0))) (id⊢ 𝓤 _) $
      move t (1 ∷ 2 ∷ []) $ drop t $ drop t $ move t (1 ∷ []) $ unhide t $
      in_a_block t a.ptr (λ p. slots_lent (R E) p a.places κ) (id⊢ 𝓤 (never 𝓤)) (λ b o at.
      rewrite t 0 (λ ps. ‵ (slots_lent (R E) (block_ptr b o) ps κ)) (ap (λ (v : Seen E). v.places) x.1.0) refl $
      fsplit t $ flt_l t (λ reach. then a.ptr b o at reach)))

module _ (E : El) {M : Type 1} {𝓤 : Ura M} {𝓛 : Logic 𝓤} {K : Type 0} {Γ : List (Item 𝓤)} {G : Goal 𝓤 𝓛.H} {κ : Lft}
    {q : Share} {γ : GName} {u v : Gv} {g : Global} {r : Seen E} {b o n rb ro : ℕ} {Rest : Fml} where
  -- A part of the places is lent under a new name, which the region follows.
  -- Takes [the part; the other places; the right; the words; the open borrow, in three].
  pub slots_lend : K → Soaks G → Fits E r o n → (T : SemTy) (new : T.rep → Seen E) (x : T.rep) (at : ℕ)
      → ((w : T.rep) → length r.places ≡ length (new w).places)
      → ((w : T.rep) → ent 𝓤 (sep 𝓤 (sem 𝓛 (T.own_at w b at)) (sem 𝓛 Rest)) (sem 𝓛 (places E (new w) b o)))
      → ((ν : GName) → Seq K 𝓛 (‵ (fobs ν (T.coded.code x)) ∷ ‵ (fbor κ (Borrowed T b at ν)) ∷ ‵ (flft κ q)
      ∷ ‵ (after (mem (Sr E)) T γ ν new) ∷ Γ) G)
      → Seq K 𝓛 (‵ (T.own_at x b at) ∷ ‵ Rest ∷ ‵ (right E g n b o)
      ∷ ‵ (cell_at full_share (Sr E).mir (slots_val b o n ∷ []) rb ro)
      ∷ ‵ (fobor κ q (Borrowed (mem (Sr E)) rb ro γ)) ∷ ‵ (fobs γ u) ∷ ‵ (fauth γ v) ∷ Γ) G
  slots_lend t z ok T new x at long back then =
      let Framed = Frame E 𝓛 rb ro g r b o n in
      move t (4 ∷ 5 ∷ 6 ∷ []) $ group t 7 $
      use1 𝓛 (later (some (λ ν. ‵ (fobs ν (T.coded.code x)) ⊛ ‵ (fbor κ (Borrowed T b at ν)) ⊛ ‵ (flft κ q)
      ⊛ ‵ (after (mem (Sr E)) T γ ν new))))
      (takes_part 𝓛 (mem (Sr E)) T new κ q rb ro b at γ (sep 𝓤 (sem 𝓛 Rest) (sem 𝓛 Framed))
      (λ w. qed 𝓛 (‵ (T.own_at w b at) ∷ ‵ Rest ∷ ‵ Framed ∷ []) ∵ use2 𝓛 (‵ (places E (new w) b o)) (back w) $
      by ! (slots_whole E 𝓛 rb ro g r b o n ok (new w) (long w))) u v x) $ await t z $
      pick t (λ ν. split3 t $ move t (2 ∷ []) $ split t $ move t (2 ∷ 3 ∷ []) $ then ν)
