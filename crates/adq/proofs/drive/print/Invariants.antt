use Rattle.std.proofs.Common.{◌≡◌, ◌∷◌, ◌++◌, [], flat_map, string_bytes}
use Rattle.arraydeque.specs.Machine.{answer_of}
use Rattle.adq.specs.Text.{text_of}
use Rattle.adq.proofs.drive.print.Given as goal

-- the replies so far are printed
abbrev pub invariant-loop-reply : goal.invariant-loop-reply
invariant-loop-reply g l =
    string_bytes l.text ≡ flat_map (λ reply. text_of (answer_of reply) ++ 10 ∷ []) l.yielded
