-- A number that shares no bit with the one below it.
use Rattle.std.proofs.{
  Common.{◌≡◌, ℕ, suc, ◌-◌, ◌/◌, ◌%◌, ◌^◌, ◌<◌, ◌≤◌, inl, inr, bit_and, ap, ◌∙◌, arith},
  lemmas.{Bool.cases_lt, Nat.and_mask},
  Math.Pow.pow_mono,
}
use lib.{Arith.bin_ind, Bits.{and_step, and_self}}

-- such a number is a power of two
power_of_two : (n : ℕ) → 0 < n → bit_and n (n - 1) ≡ 0 → (k : ℕ) × (n ≡ 2 ^ k)
power_of_two = bin_ind (λ (n : ℕ). 0 < n → bit_and n (n - 1) ≡ 0 → (k : ℕ) × (n ≡ 2 ^ k))
    (λ some _. absurd (omega arith)) (λ n half some e.
    let step = and_step n (n - 1) in
    elim (cases_lt 0 (n % 2)) [
      | inl odd ↦
          let same : bit_and (n / 2) ((n - 1) / 2) ≡ n / 2 = ap (bit_and (n / 2)) (omega arith) ∙ and_self (n / 2) in
          (0, omega arith)
      | inr even ↦
          let below : bit_and (n / 2) ((n - 1) / 2) ≡ bit_and (n / 2) (n / 2 - 1) =
          ap (bit_and (n / 2)) (omega arith) in
          let k = half (omega arith) (omega arith) in
          (suc k.0, omega arith)
    ])

-- so it is 2 ^ 63 at most, where it is below 2 ^ 64
pub at_most_half : (n : ℕ) → 0 < n → n < 2 ^ 64 → bit_and n (n - 1) ≡ 0 → n ≤ 2 ^ 63
at_most_half n some within e = let k = power_of_two n some e in elim (cases_lt k.0 64) [
  | inl low ↦ omega (arith, pow_mono {i = k.0} {j = 63} (omega arith))
  | inr high ↦ absurd (omega (arith, pow_mono high))
]

-- and a number masked by the one below it is its remainder
pub masked : (x n : ℕ) → 0 < n → bit_and n (n - 1) ≡ 0 → bit_and x (n - 1) ≡ x % n
masked x n some e = grind (arith, power_of_two, and_mask)
