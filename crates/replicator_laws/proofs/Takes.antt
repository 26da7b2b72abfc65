-- Each call, as it is taken.
use Rattle.std.proofs.Common.{arith, None, Some}
use Rattle.replicator_http.specs.Connection.{Terms}
use Rattle.replicator_http.specs.Goes.{request_of}
use Rattle.replicator.specs.Call.{Call, Changes, Diff, OpenRevs, Bulk, LocalGet, LocalPut}
use Rattle.replicator_laws.specs.Calls.{CanBeTaken, IsTakenAs, asked_by}
use Rattle.replicator_laws.specs.Framing.{IsHost}
use Rattle.replicator_laws.proofs.Bulked.{bulk_taken}
use Rattle.replicator_laws.proofs.Bytes.{KeepsUnreserved}
use Rattle.replicator_laws.proofs.Checkpoints.{local_put_taken}
use Rattle.replicator_laws.proofs.Differing.{diff_taken}
use Rattle.replicator_laws.proofs.Filtered.{filtered_taken}
use Rattle.replicator_laws.proofs.Queried.{changes_taken, local_get_taken, open_revs_taken}

pub call_taken : KeepsUnreserved → (terms : Terms) (call : Call) → IsHost terms.host → CanBeTaken call → IsTakenAs (request_of terms call) (asked_by terms call)
call_taken keeps terms (Changes None since limit answer) is_host h = changes_taken terms.host is_host since limit h.0 h.1
call_taken keeps terms (Changes (Some ids) since limit answer) is_host h = filtered_taken terms.host is_host ids since limit h.0 h.1 h.2 h.3
call_taken keeps terms (Diff named answer) is_host h = diff_taken terms.host is_host named h.0 h.1
call_taken keeps terms (OpenRevs id revs answer) is_host h = open_revs_taken keeps terms.host is_host id revs h.0 h.1 h.2
call_taken keeps terms (Bulk documents answer) is_host h = bulk_taken terms.host is_host documents h.0 h.1 h.2
call_taken keeps terms (LocalGet id answer) is_host h = local_get_taken keeps terms.host is_host id h
call_taken keeps terms (LocalPut id named last_seq answer) is_host h = let low = h.2 in local_put_taken keeps terms.host terms.skips is_host id named last_seq h.0 h.1 (omega arith)
