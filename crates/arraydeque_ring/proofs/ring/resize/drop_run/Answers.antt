use Rattle.std.proofs.Common.{◌-◌, arith}
use Rattle.arraydeque_ring.proofs.places.{
  Emptied.{next_unchanged, next_emptied},
  Filled.filled_in_run,
}
use Rattle.arraydeque_ring.proofs.ring.resize.drop_run.Goals as goal

pub take-requires : goal.take-requires
take-requires g c =
    let some = filled_in_run _ _ _ (c.loop-place.place - c.args.from) c.requires (omega arith) in
    (some.0, grind (arith, next_unchanged c.args.slots.now.places c.args.from c.loop-place.place (omega arith)))

pub loop-place-preserved : goal.loop-place-preserved
loop-place-preserved g c = record {
  places = grind (arith, next_emptied c.args.slots.now.places c.args.from c.loop-place.place);
  steps = grind arith;
}
