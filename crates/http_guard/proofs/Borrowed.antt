-- A guarded connection of a service that stands for something else.
use Rattle.std.proofs.Common.{List, [], ◌∷◌, ap}
use Rattle.std.specs.List.{FoldsTo}
use Rattle.streams.specs.Streams.{Streams}
use Rattle.http_connection.specs.Turn.{Turn}
use Rattle.http_connection.specs.declared.outcome.Ended.{Ended}
use Rattle.origin_policy.specs.declared.policy.Policy.{Policy}
use Rattle.http_guard.specs.Guarded.{Guarded, ServedAlone}

-- where each turn of the one is a turn of the other
module _ {T S : Type 0} (answers : T → Turn → T → Type 0) (means : S → Turn → S → Type 0) (now : T → S)
    (each : (old : T) (turn : Turn) (new : T) → answers old turn new → means (now old) turn (now new)) where
  all : (old : T) (turns : List Turn) (new : T) → FoldsTo answers old turns new → FoldsTo means (now old) turns (now new)
  all old [] new same = ap now same
  all old (turn ∷ turns) new (mid, answered, runs) = (now mid, each old turn mid answered, all mid turns new runs)

  alone-by : (taken : List Turn) (old new : T) → ServedAlone answers taken old new → ServedAlone means taken (now old) (now new)
  alone-by taken old new alone =
      let served = alone.served in
      record {
        before = alone.before;
        after = alone.after;
        ended = alone.ended;
        served = record {
          read = served.read;
          turns = served.turns;
          cut = served.cut;
          rest = served.rest;
          part = served.part;
          reads = served.reads;
          splits = served.splits;
          runs = all old _ new served.runs;
          whole = served.whole;
          not_whole = served.not_whole;
          writes = served.writes;
          is_part = served.is_part;
          answered = served.answered;
          ends = served.ends;
          failed_reads = served.failed_reads;
          failed_writes = served.failed_writes;
        };
        turns_are = alone.turns_are;
      }

  pub guarded-by : (policy : Policy) (before after : Streams) (old new : T) (ended : Ended) → Guarded policy answers before after old new ended → Guarded policy means before after (now old) (now new) ended
  guarded-by policy before after old new ended guarded = record {
    passages = guarded.passages;
    served = guarded.served;
    turns_are = guarded.turns_are;
    decided = guarded.decided;
    runs = all old _ new guarded.runs;
    keep_whole = guarded.keep_whole;
    alone = alone-by _ old new guarded.alone;
  }
