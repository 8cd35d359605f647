use Rattle.std.proofs.Common.{rules, [], Err}
use Rattle.adq.specs.declared.fault.Fault.TheVariants.{Arguments}
use Rattle.adq.proofs.drive.run_at.Goals as goal

-- no policy is named, and nothing is read
pub returns-in_default-clause-run : goal.returns-in_default-clause-run
returns-in_default-clause-run g c = ([], Err Arguments, search rules, search rules, search rules)
