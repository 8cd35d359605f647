-- The values that stand in the places, which the calls ask for.
use Rattle.std.proofs.{
  Common.{rules, refl, sym, ap, ◌∙◌, ◌≡◌, ℕ, List, [], ◌∷◌, map, Some, None, unwrap_or, inl, inr},
  Common.arith,
  lemmas.Bool.cases_lt,
}
use Rattle.arraydeque_ring_tests.proofs.slots.calls_of_a_region_1_request_4_bytes.Goals as goal

values : (xs : List ℕ) → map (λ held. unwrap_or held 0) (map Some xs) ≡ xs
values [] = refl
values (x ∷ xs) = ap (λ l. x ∷ l) (values xs)

-- the values of a run of two places
lent : (a b : ℕ) (xs : List ℕ) → Some a ∷ Some b ∷ [] ≡ map Some xs → xs ≡ a ∷ b ∷ []
lent a b xs same = sym (values xs) ∙ sym (ap (λ held. map (λ h. unwrap_or h 0) held) same)

pub shift-requires-clause-filled : goal.shift-requires-clause-filled
shift-requires-clause-filled g c = (20, search rules)

pub exchange-requires-clause-a_filled : goal.exchange-requires-clause-a_filled
exchange-requires-clause-a_filled g c = (10, search rules)

pub exchange-requires-clause-b_filled : goal.exchange-requires-clause-b_filled
exchange-requires-clause-b_filled g c = (20, search rules)

pub wrap_move-requires-clause-filled : goal.wrap_move-requires-clause-filled
wrap_move-requires-clause-filled g c =
    let now : c.exchange.new.self.places ≡ Some 20 ∷ None ∷ None ∷ Some 10 ∷ [] = search rules in
    λ k lt. elim (cases_lt k 1) [
      | inl a ↦ let same : k ≡ 0 = omega (arith, a) in rw (same, now) (10, refl)
      | inr b ↦ let same : k ≡ 1 = omega (arith, b, lt) in rw (same, now) (20, refl)
    ]

pub get-requires : goal.get-requires
get-requires g c =
    let before : c.exchange.new.self.places ≡ Some 20 ∷ None ∷ None ∷ Some 10 ∷ [] = search rules in
    let now : c.wrap_move.new.self.places ≡ None ∷ Some 10 ∷ Some 20 ∷ None ∷ [] =
    rw before at c.wrap_move.ensures.places in
    rw now (10, refl)

pub slice-requires : goal.slice-requires
slice-requires g c =
    let before : c.exchange.new.self.places ≡ Some 20 ∷ None ∷ None ∷ Some 10 ∷ [] = search rules in
    let now : c.wrap_move.new.self.places ≡ None ∷ Some 10 ∷ Some 20 ∷ None ∷ [] =
    rw before at c.wrap_move.ensures.places in
    rw now (omega arith, (10 ∷ 20 ∷ [], refl))

pub slice_mut-requires : goal.slice_mut-requires
slice_mut-requires g c =
    let before : c.exchange.new.self.places ≡ Some 20 ∷ None ∷ None ∷ Some 10 ∷ [] = search rules in
    let now : c.wrap_move.new.self.places ≡ None ∷ Some 10 ∷ Some 20 ∷ None ∷ [] =
    rw before at c.wrap_move.ensures.places in
    rw now (omega arith, (30 ∷ 20 ∷ [], refl))

pub take-requires : goal.take-requires
take-requires g c =
    let before : c.exchange.new.self.places ≡ Some 20 ∷ None ∷ None ∷ Some 10 ∷ [] = search rules in
    let now : c.wrap_move.new.self.places ≡ None ∷ Some 10 ∷ Some 20 ∷ None ∷ [] =
    rw before at c.wrap_move.ensures.places in
    rw (lent 30 20 c.slice_mut.result.now (rw now at c.slice_mut.ensures.values), now) (40, refl)

pub take-requires-then-eq : goal.take-requires-then-eq
take-requires-then-eq g c =
    let before : c.exchange.new.self.places ≡ Some 20 ∷ None ∷ None ∷ Some 10 ∷ [] = search rules in
    let now : c.wrap_move.new.self.places ≡ None ∷ Some 10 ∷ Some 20 ∷ None ∷ [] =
    rw before at c.wrap_move.ensures.places in
    rw (c.take.ensures.places, lent 30 20 c.slice_mut.result.now (rw now at c.slice_mut.ensures.values), now) (30, refl)
