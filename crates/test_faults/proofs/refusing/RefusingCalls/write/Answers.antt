use Rattle.std.proofs.Common.{[], inl, refl, sym, ◌∙◌, arith}
use Rattle.std.proofs.lemmas.List.{append-nil}
use Rattle.test_faults.specs.Refused.{refused}
use Rattle.test_faults.proofs.refusing.RefusingCalls.write.Goals as goal

pub returns-clause-learns : goal.returns-clause-learns
returns-clause-learns g c =
    let k = refused c.args.self.now.version c.args.self.now.lost in
    inl (record {
      looks = record { legal = c.place-recalled.ensures.legal; more = []; extends = (λ i. record k { seen = sym (append-nil k.seen) i }); none = refl };
      pushes = omega arith;
      lost = c.if-self.false ∙ sym c.fault_of.ensures.lost;
      reason = c.fault_of.ensures.refuses k c.args.command (record { there = c.if-self.false; queue = omega arith; full = refl }) (sym c.is_compaction.ensures);
    })
