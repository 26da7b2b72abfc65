use Rattle.std.proofs.lemmas.Result.{IfErr-weaker}
use Rattle.model.specs.Command.{Compact}
use Rattle.sessions.specs.Compactions.{Leaves}
use Rattle.sessions.specs.Faults.{IsOfCompaction}
use Rattle.sessions.specs.declared.fault.Fault.TheVariants as fault
use Rattle.sessions.proofs.Looking.{receipt_then, leaves_of, leaves-of_compaction}
use Rattle.sessions.proofs.compacting.Session+Core+R+J+J+G.compact.Goals as goal

pub returns-clause-receipt : goal.returns-clause-receipt
returns-clause-receipt g c = receipt_then g.J.Naming.base c.compact_seen.result c.args.self.now c.refresh.new.self c.compact_seen.new.self Compact c.in_ok-refresh.ensures.looks c.compact_seen.ensures.receipt

pub returns-clause-refused : goal.returns-clause-refused
returns-clause-refused g c =
    let seen = c.refresh.new.self in
    IfErr-weaker c.compact_seen.result (λ e. Leaves g.J.Naming.base g.J.Opening.config e seen c.compact_seen.new.self) IsOfCompaction
    (λ e. leaves-of_compaction g.J.Naming.base g.J.Opening.config e seen c.compact_seen.new.self) c.compact_seen.ensures.fault

pub returns-clause-memory : goal.returns-clause-memory
returns-clause-memory g c = leaves_of g.J.Naming.base g.J.Opening.config c.compact_seen.result fault.Memory c.args.self.now c.refresh.new.self c.compact_seen.new.self c.in_ok-refresh.ensures.looks c.compact_seen.ensures.fault

pub returns-clause-behind : goal.returns-clause-behind
returns-clause-behind g c = λ is. (leaves_of g.J.Naming.base g.J.Opening.config c.compact_seen.result fault.Behind c.args.self.now c.refresh.new.self c.compact_seen.new.self c.in_ok-refresh.ensures.looks c.compact_seen.ensures.fault is).0

pub returns-clause-tried : goal.returns-clause-tried
returns-clause-tried g c = λ is. (leaves_of g.J.Naming.base g.J.Opening.config c.compact_seen.result fault.Behind c.args.self.now c.refresh.new.self c.compact_seen.new.self c.in_ok-refresh.ensures.looks c.compact_seen.ensures.fault is).1

pub returns-clause-overrun : goal.returns-clause-overrun
returns-clause-overrun g c = leaves_of g.J.Naming.base g.J.Opening.config c.compact_seen.result fault.Overrun c.args.self.now c.refresh.new.self c.compact_seen.new.self c.in_ok-refresh.ensures.looks c.compact_seen.ensures.fault

pub returns-clause-entry_refused : goal.returns-clause-entry_refused
returns-clause-entry_refused g c = leaves_of g.J.Naming.base g.J.Opening.config c.compact_seen.result fault.EntryRefused c.args.self.now c.refresh.new.self c.compact_seen.new.self c.in_ok-refresh.ensures.looks c.compact_seen.ensures.fault

pub returns-clause-full : goal.returns-clause-full
returns-clause-full g c = λ is. (leaves_of g.J.Naming.base g.J.Opening.config c.compact_seen.result fault.Full c.args.self.now c.refresh.new.self c.compact_seen.new.self c.in_ok-refresh.ensures.looks c.compact_seen.ensures.fault is).0

pub returns-clause-when_full : goal.returns-clause-when_full
returns-clause-when_full g c = λ is. (leaves_of g.J.Naming.base g.J.Opening.config c.compact_seen.result fault.Full c.args.self.now c.refresh.new.self c.compact_seen.new.self c.in_ok-refresh.ensures.looks c.compact_seen.ensures.fault is).1

pub returns-clause-lost : goal.returns-clause-lost
returns-clause-lost g c = leaves_of g.J.Naming.base g.J.Opening.config c.compact_seen.result fault.Lost c.args.self.now c.refresh.new.self c.compact_seen.new.self c.in_ok-refresh.ensures.looks c.compact_seen.ensures.fault
