use Rattle.std.{proofs.{Common.arith, lemmas.Grind.common_steps}, specs.Option.option_to_list}
use Rattle.arraydeque.proofs.Scanned.{TakesOff-from_out, HasRest-nothing}
use Rattle.arraydeque.proofs.lookahead.Scanner.next.Goals as goal

pub returns-in-None-clause-hands_out : goal.returns-in-None-clause-hands_out
returns-in-None-clause-hands_out g c =
    rw (← c.self.view_is) (option_to_list c.read.result, c.read.ensures.reads, grind (arith, common_steps))

pub returns-in-None-clause-rest : goal.returns-in-None-clause-rest
returns-in-None-clause-rest g c = TakesOff-from_out g.I.Iterator.next_gives _ _ _ (returns-in-None-clause-hands_out g c)

pub returns-in-None-clause-over : goal.returns-in-None-clause-over
returns-in-None-clause-over g c = grind (arith, HasRest-nothing)
