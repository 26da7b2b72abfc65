use Rattle.std.specs.Prelude.{◌+◌, ℕ, List, refl}
use Rattle.std.proofs.Common.{arith, drop, sym}
use Rattle.std.proofs.lemmas.Bool.{true≢false}
use Rattle.document_id.proofs.Steps.{drop_at}
use Rattle.purge.specs.Log.{PurgedEntry}
use Rattle.purge.proofs.Logs.{few-numbered}
use Rattle.purge.proofs.Numbers.{IsLeft-next, not_left, none_left}
use Rattle.purge.proofs.log.listed.are_numbered.Goals as goal

pub returns-then-len-purge_seq : goal.returns-then-len-purge_seq
returns-then-len-purge_seq c = (λ e. absurd (true≢false (sym e)), λ h. absurd (omega (arith, few-numbered c.args.purge_seq c.args.purges.now h)))

pub loop-seq-preserved : goal.loop-seq-preserved
loop-seq-preserved c =
    let all : List (ℕ × PurgedEntry) = c.args.purges.now in
    let i = c.loop-seq.seq-index in
    let p : ℕ × PurgedEntry = c.loop-seq-item.result in
    IsLeft-next c.args.purge_seq c.loop-seq.last all (drop i all) (drop (i + 1) all) p (drop_at all i p (omega arith) c.loop-seq-item.is) c.loop-seq.invariant (omega arith)

pub returns-then-seq-last : goal.returns-then-seq-last
returns-then-seq-last c =
    let all : List (ℕ × PurgedEntry) = c.args.purges.now in
    let i = c.loop-seq.seq-index in
    let p : ℕ × PurgedEntry = c.loop-seq-item.result in (
      λ e. absurd (true≢false (sym e)),
      λ h. absurd (not_left c.args.purge_seq c.loop-seq.last all (drop i all) (drop (i + 1) all) p (drop_at all i p (omega arith) c.loop-seq-item.is) c.loop-seq.invariant (λ same. omega arith) h),
    )

pub returns : goal.returns
returns c = (λ _. none_left c.args.purge_seq c.loop-seq.last c.args.purges.now c.loop-seq.seq-index (omega arith) c.loop-seq.invariant, λ _. refl)
