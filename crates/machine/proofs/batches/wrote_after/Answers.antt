use Rattle.machine.proofs.Wrote.{found_entry, wrote_more}
use Rattle.machine.proofs.batches.wrote_after.Goals as goal

pub loop-place-preserved : goal.loop-place-preserved
loop-place-preserved c =
    let es = c.args.version.now.entries in
    let place = c.loop-place.place in
    let found = found_entry es place c.in_ok-call.field-0 c.in-Some.call c.in_ok-call.ensures c.in-Some.is in
    wrote_more es c.loop-place.calls.items c.in-Some.call _ place found.0 c.in_ok-push.ensures.items found.1 found.2 c.loop-place.invariant
