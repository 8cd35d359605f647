use Rattle.std.proofs.Common.{sym, arith}
use Rattle.arraydeque.proofs.Scanned.{fresh_made, WholeRun-fresh}
use Rattle.arraydeque.proofs.lookahead.Scanner.new.Goals as goal

pub returns-in-Ok-clause-ok : goal.returns-in-Ok-clause-ok
returns-in-Ok-clause-ok g c = sym (fresh_made g.I.Iterator.remaining c.args.iter _ (grind arith))

pub returns-in-Ok-clause-rest : goal.returns-in-Ok-clause-rest
returns-in-Ok-clause-rest g c =
    WholeRun-fresh g.I.Iterator.next_gives g.I.Iterator.remaining _ c.args.iter (returns-in-Ok-clause-ok g c)
