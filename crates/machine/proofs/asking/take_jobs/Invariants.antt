use Rattle.std.proofs.Common.{◌≡◌, ◌+◌, ◌≤◌, take, drop, deque_len}
use Rattle.std.specs.Prelude.{vec_len, vec_capacity}
use Rattle.machine.proofs.asking.take_jobs.Given as goal

abbrev pub invariant-loop-taken : goal.invariant-loop-taken
invariant-loop-taken l = record {
  batch : l.batch.items ≡ take l._taken l.initial.waiting.items;
  waiting : l.waiting.items ≡ drop l._taken l.initial.waiting.items;
  count : vec_len l.batch ≡ l._taken;
  left : deque_len l.waiting + l._taken ≡ deque_len l.initial.waiting;
  room : l.n ≤ vec_capacity l.batch;
}
