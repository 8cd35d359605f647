-- Calls of `next` one after another: what a fused iterator gives is padded with zeros.
use Rattle.std.proofs.{
  Common.{◌≡◌, ℕ, suc, List, [], ◌∷◌, ◌++◌, length, drop, slice_get, replicate, Option, Some, None},
  Common.{unwrap_or, refl, sym, ap, ◌∙◌, subst, append_assoc, append-nil, arith},
}
use Rattle.uses.specs.Input.{InputState, ReadsRaw, HandsOut, IsFused, IsPadded}

first_of : (xs : List ℕ) (c : ℕ) → slice_get xs 0 ≡ Some c → xs ++ [] ≡ c ∷ drop 1 xs
first_of [] c is = absurd (cc is)
first_of (x ∷ xs) c is = let e : x ≡ c = cc is in rw (append-nil, e) refl

module _ {S : Type 0} (gives : S → Option ℕ → S → Type 0) where
  -- one more call
  pub ReadsRaw-push : (s : S) (cs : List ℕ) (t : S) (came : Option ℕ) (u : S) → ReadsRaw gives s cs t
      → gives t came u → ReadsRaw gives s (cs ++ unwrap_or came 0 ∷ []) u
  ReadsRaw-push s [] t came u same one = (came, u, subst (λ x. gives x came u) (sym same) one, refl, refl)
  ReadsRaw-push s (c ∷ cs) t came u (o, v, first, is, rest) one =
      (o, v, first, is, ReadsRaw-push v cs t came u rest one)

  -- calls and more calls
  ReadsRaw-append : (s : S) (xs : List ℕ) (t : S) (ys : List ℕ) (u : S) → ReadsRaw gives s xs t
      → ReadsRaw gives t ys u → ReadsRaw gives s (xs ++ ys) u
  ReadsRaw-append s [] t ys u same more = subst (λ x. ReadsRaw gives x ys u) (sym same) more
  ReadsRaw-append s (x ∷ xs) t ys u (o, v, one, is, rest) more =
      (o, v, one, is, ReadsRaw-append v xs t ys u rest more)

  -- once no character comes, all are zeros
  all_zeros : IsFused gives → (s : S) (cs : List ℕ) (t : S) → ((c : ℕ) (u : S) → ¬ (gives s (Some c) u))
      → ReadsRaw gives s cs t → cs ≡ replicate (length cs) 0
  all_zeros fused s [] t over reads = refl
  all_zeros fused s (c ∷ cs) t over (Some x, u, one, is, rest) = absurd (over x u one)
  all_zeros fused s (c ∷ cs) t over (None, u, one, is, rest) =
      let tail = all_zeros fused u cs t (λ x v. fused s u v x one) rest in grind (arith, is, tail)

  pub padded : IsFused gives → (s : S) (cs : List ℕ) (t : S) → ReadsRaw gives s cs t → IsPadded gives s cs t
  padded fused s [] t reads = record {
    chars = [];
    zeros = 0;
    is = refl;
    all_there = λ _. reads;
    ended = λ some. absurd (omega arith);
  }
  padded fused s (c ∷ cs) t (Some x, u, one, is, rest) =
      let more = padded fused u cs t rest in record {
        chars = x ∷ more.chars;
        zeros = more.zeros;
        is = grind (arith, is, more.is);
        all_there = λ none. (u, one, more.all_there none);
        ended = λ some. let d = more.ended some in (d.0, (d.1.0, (u, one, d.1.1), d.1.2));
      }
  padded fused s (c ∷ cs) t (None, u, one, is, rest) =
      let tail = all_zeros fused u cs t (λ x v. fused s u v x one) rest in record {
        chars = [];
        zeros = suc (length cs);
        is = grind (arith, is, tail);
        all_there = λ none. absurd (omega arith);
        ended = λ some. (u, (s, refl, one));
      }

  -- what one call hands out, and then another
  pub HandsOut-append : (a : InputState S) (cs : List ℕ) (b : InputState S) (ds : List ℕ) (c : InputState S)
      → HandsOut gives a cs b → HandsOut gives b ds c → HandsOut gives a (cs ++ ds) c
  HandsOut-append a cs b ds c (xs, first, is) (ys, more, then) = (
    xs ++ ys,
    ReadsRaw-append a.input xs b.input ys c.input first more,
    sym (append_assoc a.buffer xs ys) ∙ ap (λ l. l ++ ys) is ∙ append_assoc cs b.buffer ys
        ∙ ap (λ l. cs ++ l) then ∙ sym (append_assoc cs ds c.buffer),
  )

  -- the first character of the buffer goes
  pub HandsOut-skip : (s : InputState S) (c : ℕ) → slice_get s.buffer 0 ≡ Some c
      → HandsOut gives s (c ∷ []) (record s { buffer = drop 1 s.buffer })
  HandsOut-skip s c is = ([], refl, first_of s.buffer c is)
