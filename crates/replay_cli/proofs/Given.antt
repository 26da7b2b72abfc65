-- What a run of `replay base` writes where it reports a verdict.
use Rattle.std.proofs.Common.{◌≡◌, ◌⊎◌, ℕ, Bool, List, inl, inr, sym, subst}
use Rattle.std.specs.Io.KnownBytes.{Consumes, IsAtEnd}
use Rattle.streams.specs.Streams.{Streams}
use Rattle.replay_cli.specs.Run.{Told, Judged, NoMemory, IsFound}
use Rattle.replay_cli.specs.RunBase.{Instead, IsGiven, IsInstead}
use Rattle.replay_cli.specs.Successors.{IsRefused}
use Rattle.replay_cli.specs.Verdicts.{IsVerdict}
use Rattle.replay_cli.specs.declared.verdict.Verdict.{Verdict}

pub instead : (is_raised : Bool) (before after : Streams) (v : Verdict) (told : Told) → (told ≡ Judged v) ⊎ (told ≡ NoMemory)
    → ((text : List ℕ) × Consumes before.left after.left text × (IsVerdict text v × IsRefused v)) → IsAtEnd after.left → after.failed_reads ≡ before.failed_reads
    → IsGiven is_raised before after (Instead told)
instead is_raised before after v told (inl same) found end failures =
    subst (λ (t : Told). IsFound before after t × IsInstead t) (sym same) (((found.0, found.1, found.2.0), end, failures), found.2.1)
instead is_raised before after v told (inr same) found end failures =
    subst (λ (t : Told). IsFound before after t × IsInstead t) (sym same) (failures, tt)
