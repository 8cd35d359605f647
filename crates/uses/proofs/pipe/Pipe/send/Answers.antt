use Rattle.std.{
  proofs.{
    Common.{◌≡◌, ◌++◌, take, drop, length, subst, append_assoc, rules, arith},
    lemmas.{Grind.common_steps, List.take-append-drop},
    Math.Seq.take-append_seam,
  },
  specs.Io.StartsWith,
}
use Rattle.uses.proofs.pipe.Pipe.send.Goals as goal

pub returns-in_err-read-clause-none_lost : goal.returns-in_err-read-clause-none_lost
returns-in_err-read-clause-none_lost g c =
    let sent = c.read.new.into.items ++ c.read.new.self in
    let rest = drop c.write-count.result c.loop-rest.rest.now in
    let all : sent ++ rest ≡ c.args.into.now.items ++ c.args.text.now =
    grind (arith, common_steps, append_assoc, take-append-drop) in
    let front : StartsWith (c.args.into.now.items ++ c.args.text.now) sent =
    subst (λ l. take (length sent) l ≡ sent) all (take-append_seam sent rest) in
    search rules
