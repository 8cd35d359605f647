use Rattle.std.{
  proofs.{
    Common.{◌≡◌, ◌+◌, length, take, drop, refl, sym, ◌∙◌, arith},
    lemmas.List.{append-nil, take-append-drop, length-take-le, Edits.length-insert},
  },
  specs.List.insert,
}
use Rattle.arraydeque_ring.{
  proofs.{
    gaps.{
      Fewest.fewest_insert,
      GapMoves.{Gapped-behind, Gapped-before, gap_may_move, gap_moves},
      Gapped.{Gapped, IsEmpty-gap, LaidOut-put},
    },
    Opened.{opened, shows, Shows, ring_facts},
    ring.Ring.insert.{Given.Over, Goals.{After-put, then-index-behind, else-index-behind}},
  },
  specs.Ring.place_of,
}
use Rattle.arraydeque_ring.proofs.ring.Ring.insert.Goals as goal

pub move_gap-requires : goal.move_gap-requires
move_gap-requires g c =
    let ring = opened c.self.inside c.self.invariant c.self.view_is in
    rw (c.wrap_add-before.ensures, c.capacity-capacity.ensures, ring.laid.length_is)
    (rw ring.laid.length_is at
    (gap_may_move (Gapped-before ring.laid c.requires.room) 0 c.args.index refl (omega arith) (omega arith)))

pub move_gap-requires-else-index-behind : goal.move_gap-requires-else-index-behind
move_gap-requires-else-index-behind g c =
    let ring = opened c.self.inside c.self.invariant c.self.view_is in
    gap_may_move (Gapped-behind ring.laid c.requires.room) _ _ ring.len (omega arith) (omega arith)

front : (g : Over) (c : goal.After-put-arg-1 g) → length (take c.args.index c.args.self.now.items) ≡ c.args.index
front g c = length-take-le c.args.index c.args.self.now.items c.requires.in_bounds

-- with the gap open
gap : (g : Over) (c : goal.After-put-arg-1 g) → let old = c.args.self.now in let now = c.if-index-behind.self-inside in
    Gapped old.capacity now.start (take c.args.index old.items) 1 (drop c.args.index old.items) now.slots.places
gap g c =
    let ring = opened c.self.inside c.self.invariant c.self.view_is in
    let items = c.args.self.now.items in
    elim c.if-index-behind.branch [
      | then-index-behind w ↦
          let was = Gapped-before ring.laid c.requires.room in
          let before = rw (c.capacity-capacity.ensures, ring.laid.length_is) at w.wrap_add-before.ensures in
          rw (w.self-inside-is, before) (gap_moves was 0 c.args.index refl _ _ (take-append-drop c.args.index items)
          (front g c) (omega arith) (rw before at w.move_gap.ensures.places))
      | else-index-behind w ↦ rw w.self-inside-is (gap_moves (Gapped-behind ring.laid c.requires.room) _ c.args.index
          ring.len _ _ (take-append-drop c.args.index items ∙ sym (append-nil items)) (front g c) (omega arith)
          w.move_gap-else-index-behind.ensures.places)
    ]

place : (g : Over) (c : goal.After-put-arg-1 g) → c.wrap_add-place.result
    ≡ place_of c.if-index-behind.self-inside.start c.args.index c.args.self.now.capacity
place g c = grind arith

pub put-requires : goal.put-requires
put-requires g c = rw (place g c) (IsEmpty-gap 1 c.args.index (gap g c) (front g c) (omega arith))

after : (g : Over) (c : After-put g) → let old = c.args.self.now in let now = c.if-index-behind.self-inside in
    Shows old.capacity now.start (now.len + 1) (insert old.items c.args.index c.args.element) c.put.new.self.places
after g c =
    let ring = opened c.self.inside c.self.invariant c.self.view_is in
    let same : c.if-index-behind.self-inside.len ≡ c.self.inside.len = grind arith in
    shows (rw (c.put.ensures.places, place g c.before) (LaidOut-put c.args.index c.args.element (gap g c.before)
    (front g c.before)))
    _ (omega (arith, length-insert c.args.self.now.items c.args.index c.args.element c.requires.in_bounds))

pub invariant_of-self : goal.invariant_of-self
invariant_of-self g c = let now = after g c in (now.1, now.2)

pub returns-clause-items : goal.returns-clause-items
returns-clause-items g c = (after g c).3

pub returns-clause-capacity : goal.returns-clause-capacity
returns-clause-capacity g c = (after g c).0

pub returns-clause-start : goal.returns-clause-start
returns-clause-start g c = grind (arith, ring_facts)

pub returns-clause-fewest : goal.returns-clause-fewest
returns-clause-fewest g c =
    let ring = opened c.self.inside c.self.invariant c.self.view_is in
    rw (returns-clause-start g c) (fewest_insert c.args.index _ _ _
    (omega arith) c.requires.in_bounds c.requires.room)
