-- A `Ring` in memory is taken apart into its slots and its other fields, and made of them again. Assumes `Logic`.
use Rattle.arraydeque_ring.{
  proofs.{
    loans.Parts.with_slots,
    memory.{
      Kit.{via, ◌≡◌, List, [], ◌∷◌, ℕ, ◌+◌, Ura, full_share, ent, sep, SProp, w64, Logic, sem},
      Kit.{RattleType, part_at, Seq, Goal, Item, some, raw, ‵, ◌⊛◌, ◌$◌, pick, use1, split3, usize},
      Kit.{param_laws, El, R, el_x, part_of, lone},
      Regions.Sr,
    },
    Opened.{Opened, opened, view, Kept, closed, kept},
  },
  specs.{declared.ring.Ring.TheInside.Inside, Places.Region, Ring.RingState},
}
use denote.{
  Laws.Lawfuls,
  Model.Fields.{plain_out, Plain-in, view_made},
  Plain.uint_Lawful,
  Struct.{Members.{Member, rows_of}, Parts.PartsBack, Pick.{rest_at, field_out, field_back}},
}
use Rattle.arraydeque_ring.specs.contracts.ring.Ring as ring
use Rattle.arraydeque_ring.specs.contracts.ring.Ring.TheInside as inside
use Rattle.arraydeque_ring.proofs.ring.Ring.TheLaws as ring_laws
use Rattle.arraydeque_ring.proofs.slots.Slots.TheLaws as slots_laws

module _ (E : El) where
  abbrev pub Rr : RattleType
  Rr = ring.the_row (R E)

  abbrev members : List Member
  members = record { row = Sr E; ty = lone (Sr E).mir } ∷ record { row = usize; ty = lone usize.mir }
      ∷ record { row = usize; ty = lone usize.mir } ∷ []

module _ (E : El) {M : Type 1} {𝓤 : Ura M} {𝓛 : Logic 𝓤} {K : Type 0} {Γ : List (Item 𝓤)} {G : Goal 𝓤 𝓛.H} where
  -- Leaves [the slots; the other fields; the way back].
  -- Whatever the slots are, with which the fields hold a ring, it is whole again.
  pub ring_apart : K → (d : RingState (el_x E)) (rb ro : ℕ) → ((x : Inside (el_x E)) → Opened x d
      → let Others = rest_at full_share (members E) 0 (x.slots, (x.start, (x.len, tt))) rb ro 0 in (Way : SProp 𝓤)
      → ((w : Region (el_x E)) (v : RingState (el_x E)) → Opened (with_slots x w) v
      → ent 𝓤 (sep 𝓤 (sem 𝓛 (part_at (Sr E) full_share w rb (ro + 0))) (sep 𝓤 (sem 𝓛 Others) Way))
      (sem 𝓛 (part_at (Rr E) full_share v rb ro)))
      → Seq K 𝓛 (‵ (part_at (Sr E) full_share x.slots rb (ro + 0)) ∷ ‵ Others ∷ raw Way ∷ Γ) G)
      → Seq K 𝓛 (‵ (part_at (Rr E) full_share d rb ro) ∷ Γ) G
  unfolding part_of
  ring_apart t d rb ro next =
      let In = inside.the_row (R E) in
      use1 𝓛 (some (λ (x : (x : Inside (el_x E)) × ((view x ≡ d) × Kept x)). ‵ (part_at In full_share x.0 rb ro)))
      (plain_out (Rr E) In (ring_laws.the_opens (R E)) 𝓛 full_share d rb ro) $ pick t (λ y.
      let x = y.0 in let Way = PartsBack 𝓛 full_share [] (members E) rb ro in
      let Others = rest_at full_share (members E) 0 (x.slots, (x.start, (x.len, tt))) rb ro 0 in
      let word = uint_Lawful 𝓛 w64 in let lawful : Lawfuls 𝓛 (rows_of (members E)) =
      ((slots_laws.the_row_laws (R E) (param_laws 0 E.row E.laws)).lawful 𝓛, (word, (word, tt))) in
      use1 𝓛 (‵ (part_at (Sr E) full_share x.slots rb (ro + 0)) ⊛ ‵ Others ⊛ raw Way)
      (field_out 𝓛 full_share [] (members E) lawful (x.slots, (x.start, (x.len, tt))) rb ro 0) $ split3 t $
      next x (opened x y.1.1 y.1.0) Way (λ w v o. let z = with_slots x w in
      via 𝓤 (sem 𝓛 (part_at In full_share z rb ro))
      (field_back 𝓛 full_share [] (members E) (z.slots, (z.start, (z.len, tt))) rb ro 0)
      (Plain-in (Rr E) In (ring_laws.the_opens (R E)) 𝓛 full_share v z
      (view_made In (RingState (el_x E)) (Rr E).coded view Kept 𝓛 v z (closed o, kept o)) rb ro)))
