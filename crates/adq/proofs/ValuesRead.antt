-- Words that were read as values, one after another.
use Rattle.std.{
  proofs.{
    Common.{◌≡◌, ℕ, ℤ, List, [], ◌∷◌, ◌++◌, map, sym, ◌∙◌, subst, append_assoc},
    lemmas.List.map-append,
  },
  specs.List.AllZip,
}
use Rattle.adq.specs.Line.{Spells, value}

-- the words are those that spell the values, and then those that are left
abbrev pub Parted : List (List ℕ) → List ℤ → List (List ℕ) → Type 0
Parted words xs left = (front : List (List ℕ)) × (words ≡ front ++ left) × AllZip Spells front (map value xs)

-- one pair more
pub zipped_more : {A B : Type 0} (R : A → B → Type 0) (xs : List A) (ys : List B) (x : A) (y : B) → AllZip R xs ys
    → R x y → AllZip R (xs ++ x ∷ []) (ys ++ y ∷ [])
zipped_more R [] [] x y z h = (h, tt)
zipped_more R [] (b ∷ ys) x y z h = absurd z
zipped_more R (a ∷ xs) [] x y z h = absurd z
zipped_more R (a ∷ xs) (b ∷ ys) x y z h = (z.0, zipped_more R xs ys x y z.1 h)

-- one value more
pub parted_more : (words : List (List ℕ)) (xs : List ℤ) (word : List ℕ) (left : List (List ℕ)) (x : ℤ)
    → Parted words xs (word ∷ left) → Spells word (value x) → Parted words (xs ++ x ∷ []) left
parted_more words xs word left x (front, e, z) h = (
  front ++ word ∷ [],
  e ∙ sym (append_assoc front (word ∷ []) left),
  rw (map-append value xs (x ∷ [])) (zipped_more Spells front (map value xs) word (value x) z h),
)

-- and a word that spells no value
zip_bad : (front : List (List ℕ)) (word : List ℕ) (left : List (List ℕ)) (ys : List ℤ)
    → ((x : ℤ) → ¬ (Spells word (value x))) → ¬ (AllZip Spells (front ++ word ∷ left) (map value ys))
zip_bad [] word left [] h z = z
zip_bad [] word left (y ∷ ys) h z = h y z.0
zip_bad (w ∷ front) word left [] h z = z
zip_bad (w ∷ front) word left (y ∷ ys) h z = zip_bad front word left ys h z.1

pub parted_bad : (words : List (List ℕ)) (xs : List ℤ) (word : List ℕ) (left : List (List ℕ)) (ys : List ℤ)
    → Parted words xs (word ∷ left) → ((x : ℤ) → ¬ (Spells word (value x))) → ¬ (AllZip Spells words (map value ys))
parted_bad words xs word left ys (front, e, z) h s =
    zip_bad front word left ys h (subst (λ ws. AllZip Spells ws (map value ys)) e s)
