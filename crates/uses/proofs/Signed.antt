-- Signed numbers that are cast to more bits, and their products.
use Rattle.std.proofs.Common.{◌≡◌, ◌≤◌, ◌<◌, ◌*◌, ◌^◌, ℕ, ℤ, ◌*ℤ◌, to_z, of_z, arith}
use Rattle.std.proofs.lemmas.Int.{ints, fits_signed_from_abs, unsigned_abs-mul, to_z-of_z}
use Rattle.std.specs.Int.RustNames.{FitsSigned, unsigned_abs}
use mir.Syntax.{Width}
use mir.Val.{hbits}

abs-fits : (v : Width) (a : ℤ) → FitsSigned v a → unsigned_abs a ≤ 2 ^ hbits v
abs-fits v a f = omega (arith, ints, f)

mul-le : (a b m n : ℕ) → a ≤ m → b ≤ n → a * b ≤ m * n
mul-le a b m n p q = grind arith

abs-mul : (a b : ℤ) (m n : ℕ) → unsigned_abs a ≤ m → unsigned_abs b ≤ n → unsigned_abs (a *ℤ b) ≤ m * n
abs-mul a b m n p q = rw (unsigned_abs-mul a b) (mul-le _ _ m n p q)

fits_wider : (v w : Width) (a : ℤ) → 2 ^ hbits v ≤ 2 ^ hbits w → FitsSigned v a → FitsSigned w a
fits_wider v w a wider f = record { sfits = omega (arith, f.sfits) }

-- how large a product of two numbers is that fit v
pub abs-product : (v : Width) (a b : ℤ) → FitsSigned v a → FitsSigned v b
    → unsigned_abs (a *ℤ b) ≤ 2 ^ hbits v * 2 ^ hbits v
abs-product v a b f g = abs-mul a b _ _ (abs-fits v a f) (abs-fits v b g)

-- a cast from v to w changes no number
pub widened : (v w : Width) (a : ℤ) → 2 ^ hbits v ≤ 2 ^ hbits w → FitsSigned v a
    → to_z w (of_z w (to_z v (of_z v a))) ≡ a
widened v w a wider f = rw (to_z-of_z v a f) (to_z-of_z w a (fits_wider v w a wider f))

-- nor does it change a product, if w has twice as many bits
pub widened-product : (v w : Width) (a b : ℤ) → FitsSigned v a → FitsSigned v b → 2 ^ hbits v ≤ 2 ^ hbits w
    → 2 ^ hbits v * 2 ^ hbits v < 2 ^ hbits w
    → to_z w (of_z w (to_z w (of_z w (to_z v (of_z v a))) *ℤ to_z w (of_z w (to_z v (of_z v b))))) ≡ a *ℤ b
widened-product v w a b f g wider fits =
    rw (widened v w a wider f) (rw (widened v w b wider g)
    (to_z-of_z w _ (fits_signed_from_abs w (a *ℤ b) (omega (arith, abs-product v a b f g)))))
