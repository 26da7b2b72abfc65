use Rattle.std.proofs.Common.{ap, sym, ◌∙◌, ◌++◌, subst, append_assoc, inl, List, ℕ}
use Rattle.std.proofs.KnownBytes.{Consumes-trans}
use Rattle.http_client.specs.Response.{IsUnfinished, IsUnreadable}
use Rattle.http_client.proofs.Parts.{reads-fault, unfinished_before, unfinished_now}
use Rattle.http_client.proofs.incoming.Incoming.read_response.Goals as goal

pub returns-in-Unreadable-clause-response : goal.returns-in-Unreadable-clause-response
returns-in-Unreadable-clause-response g c = subst IsUnreadable c.bytes.ensures.bytes c.in-Unreadable.ensures

pub returns-in-Err-clause-response : goal.returns-in-Err-clause-response
returns-in-Err-clause-response g c =
    let same = c.bytes.ensures.bytes ∙ sym c.in-Err.ensures.err.0 in
    reads-fault c.read_once.new.self _ c.in-Err.fault c.in-Err.ensures.fault
    (subst IsUnfinished same (unfinished_now c.bytes.result.now c.in-More.more c.in-More.ensures))

pub returns-in-Ok-eq0-clause-needed : goal.returns-in-Ok-eq0-clause-needed
returns-in-Ok-eq0-clause-needed g c =
    let now = subst IsUnfinished c.bytes.ensures.bytes (unfinished_now c.bytes.result.now c.in-More.more c.in-More.ensures) in
    inl (unfinished_before _ _ _ _ c.reads.invariant.4 now)

pub returns-in-Err-clause-needed : goal.returns-in-Err-clause-needed
returns-in-Err-clause-needed g c =
    let now = subst IsUnfinished c.bytes.ensures.bytes (unfinished_now c.bytes.result.now c.in-More.more c.in-More.ensures) in
    inl (unfinished_before _ _ _ _ c.reads.invariant.4 now)

pub reads-preserved : goal.reads-preserved
reads-preserved g c =
    let read = c.in-Ok.ensures.piece in
    let now = subst IsUnfinished c.bytes.ensures.bytes (unfinished_now c.bytes.result.now c.in-More.more c.in-More.ensures) in (
      c.reads.invariant.0 ++ read.0,
      read.2 ∙ ap (λ (bytes : List ℕ). bytes ++ read.0) c.reads.invariant.1 ∙ append_assoc _ c.reads.invariant.0 read.0,
      Consumes-trans _ _ _ c.reads.invariant.0 read.0 c.reads.invariant.2 read.3,
      c.in-Ok.ensures.failures ∙ c.reads.invariant.3,
      inl (unfinished_before _ _ _ _ c.reads.invariant.4 now),
    )
