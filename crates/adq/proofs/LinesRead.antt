-- Lines that were read, one after another.
use Rattle.std.{
  proofs.{
    Common.{◌≡◌, ℕ, ℤ, ◌+◌, ◌<◌, ◌≤◌, ◌⊎◌, List, [], ◌∷◌, ◌++◌, length, take, get_or, eqb, Option},
    Common.{Some, None, option_to_list, filter_map, IsUtf8, inl, inr, refl, ap, sym, ◌∙◌, subst},
    Common.{zero-add, arith},
    lemmas.List.{take_more, get_or-map, length-map, length_push, get_or_default, take_all},
    lemmas.List.{Elements.filter_map-append, FromFn.{length-enumerate_from, get_or-enumerate_from}},
  },
  specs.{
    List.{slice_split, enumerate_from, AllZip},
    Option.option_map_or,
    Str.Lines.strip_carriage_return,
  },
}
use Rattle.adq.{
  proofs.ValuesRead.zipped_more,
  specs.{
    declared.fault.Fault.{Fault, TheVariants.{Memory, Line}},
    Line.{lines_of, words_of, Spells, tokens_of, LineNames, LinesName, IsFirstBad},
  },
}
use Rattle.arraydeque.specs.declared.run.Call.{Call}

-- a line means what its text means
pub read : (line rest : List ℕ) (ws : List (List ℕ)) (o : Option (Call ℤ)) → rest ≡ line → IsUtf8 line
    → words_of rest ≡ ws → AllZip Spells ws (option_map_or tokens_of o []) → LineNames line o
read line rest ws o e u w h =
    (u, subst (λ ws. AllZip Spells ws (option_map_or tokens_of o [])) (sym w ∙ ap words_of e) h)

-- one line more
listed : (o : Option (Call ℤ)) → option_to_list o ≡ filter_map (λ o. o) (o ∷ [])
listed None = refl
listed (Some call) = refl

more : (lines : List (List ℕ)) (calls : List (Call ℤ)) (line : List ℕ) (o : Option (Call ℤ)) → LinesName lines calls
    → LineNames line o → LinesName (lines ++ line ∷ []) (calls ++ option_to_list o)
more lines calls line o (named, z, e) h = (
  named ++ o ∷ [],
  zipped_more LineNames lines named line o z h,
  ap (λ cs. cs ++ option_to_list o) e ∙ ap (λ cs. filter_map (λ o. o) named ++ cs) (listed o)
      ∙ sym (filter_map-append (λ o. o) named (o ∷ [])),
)

abbrev Turn : List ℕ → ℕ → ℕ × List ℕ → Type 0
Turn text k item = (k < length (enumerate_from 0 (slice_split (λ b. eqb b 10) text)))
    × (item ≡ get_or (enumerate_from 0 (slice_split (λ b. eqb b 10) text)) k item)

-- where the turn of an index stands
at_turn : (text : List ℕ) (k : ℕ) (item : ℕ × List ℕ) → Turn text k item
    → (item.0 ≡ k) × (k < length (lines_of text)) × (strip_carriage_return item.1 ≡ get_or (lines_of text) k [])
at_turn text k item h =
    let pieces = slice_split (λ b. eqb b 10) text in
    let l : k < length pieces = omega (arith, h.0, length-enumerate_from 0 pieces) in
    let e = h.1 ∙ get_or-enumerate_from 0 pieces k item l in (
      ap (λ p. p.0) e ∙ zero-add k,
      omega (arith, length-map pieces strip_carriage_return),
      ap (λ p. strip_carriage_return p.1) e ∙ sym (get_or-map strip_carriage_return pieces k item.1 [] l),
    )

-- a turn in which the line was read
pub read_more : {A : Type 0} (text : List ℕ) (xs : List A) (y : A) (calls then : List (Call ℤ))
    (item : ℕ × List ℕ) (o : Option (Call ℤ)) → then ≡ calls ++ option_to_list o → Turn text (length xs) item
    → LinesName (take (length xs) (lines_of text)) calls → LineNames (strip_carriage_return item.1) o
    → LinesName (take (length (xs ++ y ∷ [])) (lines_of text)) then
read_more text xs y calls then item o e turn so_far h =
    let at = at_turn text (length xs) item turn in
    rw (length_push xs y, take_more (lines_of text) (length xs) [] at.1) (rw (e, sym at.2) (more _ _ _ o so_far h))

-- one in which it was not
pub blamed : (text : List ℕ) (k : ℕ) (calls : List (Call ℤ)) (item : ℕ × List ℕ) (fault : Fault)
    → Turn text k item → LinesName (take k (lines_of text)) calls → (fault ≡ Memory)
    ⊎ ((fault ≡ Line (item.0 + 1)) × ((o : Option (Call ℤ)) → ¬ (LineNames (strip_carriage_return item.1) o)))
    → (fault ≡ Memory) ⊎ ((j : ℕ) × (fault ≡ Line (j + 1)) × IsFirstBad (lines_of text) j)
blamed text k calls item fault turn so_far (inl e) = inl e
blamed text k calls item fault turn so_far (inr h) =
    let at = at_turn text k item turn in
    inr (
      k,
      h.0 ∙ ap (λ n. Line (n + 1)) at.0,
      (
        at.1,
        (λ d. subst (λ line. (o : Option (Call ℤ)) → ¬ (LineNames line o))
            (at.2 ∙ get_or_default (lines_of text) k [] d at.1) h.1),
        (calls, so_far),
      ),
    )

-- and the end
pub read_all : {A : Type 0} (text : List ℕ) (xs : List A) (calls : List (Call ℤ))
    → length xs ≡ length (enumerate_from 0 (slice_split (λ b. eqb b 10) text))
    → LinesName (take (length xs) (lines_of text)) calls → LinesName (lines_of text) calls
read_all text xs calls e h =
    let pieces = slice_split (λ b. eqb b 10) text in
    let l : length (lines_of text) ≤ length xs =
    omega (arith, e, length-enumerate_from 0 pieces, length-map pieces strip_carriage_return) in
    subst (λ lines. LinesName lines calls) (take_all (length xs) (lines_of text) l) h
