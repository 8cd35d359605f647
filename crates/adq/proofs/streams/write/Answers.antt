use Rattle.std.{
  proofs.{
    Common.{◌≡◌, ◌∙◌, ◌-◌, ◌++◌, ℕ, List, ap, sym, append_assoc, drop, length, subst, take, take-append-drop},
    KnownBytes.{Appends-trans, Appends-kept},
    lemmas.List.take_rest,
  },
  specs.Io.KnownBytes.WriteAppends,
}
use Rattle.adq.proofs.streams.write.Goals.{in-Ok, in-Err}
use Rattle.adq.proofs.streams.write.Goals as goal

-- a write takes the first n bytes of the rest
taken : (all done rest : List ℕ) (n : ℕ) → all ≡ done ++ rest
    → all ≡ (done ++ take n rest) ++ take (length rest - n) (drop n rest)
taken all done rest n is = is ∙ ap (λ l. done ++ l) (sym (take-append-drop n rest)
    ∙ ap (λ l. take n rest ++ l) (sym (take_rest rest n)))
    ∙ sym (append_assoc done (take n rest) (take (length rest - n) (drop n rest)))

pub loop-preserved : goal.loop-preserved
loop-preserved g c =
    let (done, split, wrote) = c.loop.invariant in let rest = c.loop.rest.now in let held = g.W.Write.contents in
    elim c.match-write.branch [
      | in-Ok w ↦
          let count = w.in-Ok.count in
          let now = subst (λ r. WriteAppends (held c.loop.output) (held c.write.new.self) r rest) w.in-Ok.is
          c.write.ensures.bytes in (
            done ++ take count rest,
            taken _ done rest count split ∙ ap (λ s. (done ++ take count rest) ++ s.now) (sym w.rest-is),
            Appends-trans _ _ _ _ _ wrote now,
          )
      | in-Err w ↦
          let kept = subst (λ r. WriteAppends (held c.loop.output) (held c.write.new.self) r rest) w.in-Err.is
          c.write.ensures.bytes in
          (done, split ∙ ap (λ s. done ++ s.now) (sym w.rest-is), Appends-kept _ _ _ _ wrote kept)
    ]
