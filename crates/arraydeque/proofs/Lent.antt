-- A deque in memory is taken apart into its ring, and made of it again.
-- Its items are lent as its ring lends them. Assumes `Logic`.
use Rattle.std.proofs.Common.{take, drop, arith}
use Rattle.arraydeque_ring.{
  proofs.{
    loans.{Parts.{length_rewritten, part_twice, all_written}, Rings.Rr},
    memory.Kit.{◌≡◌, List, [], ◌∷◌, ℕ, ◌+◌, ◌≤◌, length, Ura, full_share},
    memory.Kit.{SProp, ent, sep, ex, Logic, sem, RattleType, part_at, param_laws, Fml, El, R, el_x},
    memory.Kit.via,
  },
  specs.Ring.RingState,
}
use denote.{
  Laws.Lawfuls,
  Memory.{part_of, lone},
  Model.Fields.{plain_out, Plain-in, view_made},
  Param.{number, param, Laws.Laws},
  Struct.{Members.{Member, rows_of}, Parts.PartsBack, Pick.{rest_at, field_out, field_back}},
}
use Rattle.arraydeque.specs.{
  declared.deque.ArrayDeque.TheInside.Inside,
  Deque.DequeState,
  DequeLends.{rewritten, part_rewritten},
}
use Rattle.std.specs.contracts.marker.PhantomData as phantom
use Rattle.std.proofs.marker.PhantomData.TheLaws as phantom_laws
use Rattle.arraydeque_ring.specs.RingLends as ring
use Rattle.arraydeque_ring.proofs.ring.Ring.TheLaws as ring_laws
use Rattle.arraydeque.specs.contracts.deque.ArrayDeque as deque
use Rattle.arraydeque.specs.contracts.deque.ArrayDeque.TheInside as inside
use Rattle.arraydeque.proofs.deque.ArrayDeque.TheLaws as deque_laws

module _ (E : El) (N : ℕ) (B : RattleType) where
  abbrev pub Dr : RattleType
  Dr = deque.the_row (R E) (param 1 (number N)) (param 2 B)

  abbrev pub FieldsRow : RattleType
  FieldsRow = inside.the_row (R E) (param 1 (number N)) (param 2 B)

  abbrev pub Fields : Type 0
  Fields = Inside (el_x E) N B.Denot

  abbrev mark : RattleType
  mark = phantom.the_row (param 2 B)

  abbrev members : List Member
  members = record { row = Rr E; ty = lone (Rr E).mir } ∷ record { row = mark; ty = lone mark.mir } ∷ []

  abbrev pub view : Fields → DequeState (el_x E)
  view x = record { items = x.ring.items; start = x.ring.start; steps = x.ring.steps }

  abbrev pub Kept : Fields → Type 0
  Kept x = (x.ring.capacity ≡ N) × (length x.ring.items ≤ N)

  abbrev with_ring : Fields → RingState (el_x E) → Fields
  with_ring x r = record { ring = r; behavior = x.behavior }

module _ (E : El) (N : ℕ) (B : RattleType) (LB : Laws B) {M : Type 1} {𝓤 : Ura M} (𝓛 : Logic 𝓤) (b o : ℕ) where
  lawful : Lawfuls 𝓛 (rows_of (members E N B))
  lawful = (
    (ring_laws.the_row_laws (R E) (param_laws 0 E.row E.laws)).lawful 𝓛,
    ((phantom_laws.the_row_laws (param 2 B) (param_laws 2 B LB)).lawful 𝓛, tt),
  )

  -- the other field, and the way back from both
  abbrev pub Other : Fields E N B → Fml
  Other x = rest_at full_share (members E N B) 0 (x.ring, (x.behavior, tt)) b o 0

  abbrev pub Way : SProp 𝓤
  Way = PartsBack 𝓛 full_share [] (members E N B) b o

  pub fields_out : (d : DequeState (el_x E)) → ent 𝓤 (sem 𝓛 (part_at (Dr E N B) full_share d b o))
      (ex 𝓤 (λ (x : (x : Fields E N B) × ((view E N B x ≡ d) × Kept E N B x)).
      sem 𝓛 (part_at (FieldsRow E N B) full_share x.0 b o)))
  fields_out d = plain_out (Dr E N B) (FieldsRow E N B)
      (deque_laws.the_opens (R E) (param 1 (number N)) (param 2 B)) 𝓛 full_share d b o

  pub ring_out : (x : Fields E N B) → ent 𝓤 (sem 𝓛 (part_at (FieldsRow E N B) full_share x b o))
      (sep 𝓤 (sem 𝓛 (part_at (Rr E) full_share x.ring b (o + 0))) (sep 𝓤 (sem 𝓛 (Other x)) Way))
  unfolding part_of
  ring_out x = field_out 𝓛 full_share [] (members E N B) lawful (x.ring, (x.behavior, tt)) b o 0

  -- whatever the ring is, with which the invariant holds, the deque is whole again
  pub deque_whole : (d : DequeState (el_x E)) (x : Fields E N B) (r : RingState (el_x E))
      → view E N B (with_ring E N B x r) ≡ d → Kept E N B (with_ring E N B x r)
      → ent 𝓤 (sep 𝓤 (sem 𝓛 (part_at (Rr E) full_share r b (o + 0))) (sep 𝓤 (sem 𝓛 (Other x)) Way))
      (sem 𝓛 (part_at (Dr E N B) full_share d b o))
  unfolding part_of
  deque_whole d x r seen kept =
      let y = with_ring E N B x r in
      via 𝓤 (sem 𝓛 (part_at (FieldsRow E N B) full_share y b o))
      (field_back 𝓛 full_share [] (members E N B) (y.ring, (y.behavior, tt)) b o 0)
      (Plain-in (Dr E N B) (FieldsRow E N B)
      (deque_laws.the_opens (R E) (param 1 (number N)) (param 2 B)) 𝓛 full_share d y (view_made (FieldsRow E N B)
      (DequeState (el_x E)) (Dr E N B).coded (view E N B) (Kept E N B) 𝓛 d y (seen, kept)) b o)

module _ (E : El) (N : ℕ) (B : RattleType) (x : Fields E N B) (d : DequeState (el_x E)) (seen : view E N B x ≡ d)
    (kept : Kept E N B x) (from len : ℕ) (within : from + len ≤ length d.items) where
  -- the ring and the deque after any writing to a part
  abbrev pub after_part : List (el_x E) → Fields E N B
  after_part ws = with_ring E N B x (ring.part_rewritten from len x.ring ws)

  pub kept_part : (ws : List (el_x E)) → Kept E N B (after_part ws)
  kept_part ws = grind (arith, length_rewritten)

  pub seen_part : (ws : List (el_x E))
      → view E N B (after_part ws) ≡ part_rewritten from len d (take len (drop from (view E N B (after_part ws)).items))
  seen_part ws = grind (arith, part_twice)

  -- the same where what the ring ends as is said by what was written
  pub part_written : (ws : List (el_x E))
      → view E N B (after_part (take len (drop from (ring.part_rewritten from len x.ring ws).items)))
      ≡ part_rewritten from len d ws
  part_written ws = grind (arith, part_twice)

-- the part of all items
pub all_rewritten : {X : Type 0} (d : DequeState X) (m : ℕ) (xs : List X) → m ≡ length d.items
    → part_rewritten 0 m d (take m (part_rewritten 0 m d xs).items) ≡ rewritten d xs
all_rewritten d m xs all i = record (rewritten d xs) { items = all_written d.items m xs all i }
