use Rattle.std.proofs.Common.{◌∙◌, Err, List, sym, map, ap, subst, inl, inr, codes, Some, option_map}
use Rattle.command_line.specs.Serve.{IsServingOf}
use Rattle.command_line.specs.declared.serving.Serving.{Serving}
use Rattle.command_line.specs.Repair.{IsRepairingOf}
use Rattle.command_line.specs.declared.repair.Repairing.{Repairing}
use Rattle.command_line.specs.Replicate.{IsReplicatingOf}
use Rattle.command_line.specs.declared.replicate.Replicating.{Replicating}
use Rattle.clap.specs.Kinds.{IsAmong}
use Rattle.clap.specs.declared.error.kind.ErrorKind.TheVariants.{DisplayVersion}
use Rattle.clap.specs.Words.{App, Row, Text, is_simple_and_free, fault_of, found_of, rows_of}
use Rattle.command_line.proofs.Parsed.{mapped_some, meets_one, names, rows_held, couchd_is_simple, couchd_is_simple_and_free}
use Rattle.command_line.proofs.Runs.{of_memory, no_run, no_repair, no_replication, only_version, some_kind, version_among}
use Rattle.command_line.proofs.read_arguments.Goals as goal

pub unreachable-requires : goal.unreachable-requires
unreachable-requires g c =
    let one = meets_one _ couchd_is_simple _ _ _ c.in_ok-couchd.ensures.app c.in-Ok.ensures.matches c.in_ok-couchd.ensures.local c.in_ok-couchd.ensures.subcommand c.in-Ok.ensures.parsed in
    let named = mapped_some (λ p. p.0.now) c.subcommand.result c.unwrap.result in
    elim one [
      | inl once ↦ c.in_default.not-once (named _ (c.subcommand.ensures.name ∙ once) c.unwrap.ensures)
      | inr other ↦ elim other [
        | inl dump ↦ c.in_default.not-dump (named _ (c.subcommand.ensures.name ∙ dump) c.unwrap.ensures)
        | inr later ↦ elim later [
          | inl serve ↦ c.in_default.not-serve (named _ (c.subcommand.ensures.name ∙ serve) c.unwrap.ensures)
          | inr last ↦ elim last [
            | inl replicate ↦ c.in_default.not-replicate (named _ (c.subcommand.ensures.name ∙ replicate) c.unwrap.ensures)
            | inr end ↦ elim end [
              | inl repair ↦ c.in_default.not-repair (named _ (c.subcommand.ensures.name ∙ repair) c.unwrap.ensures)
              | inr none ↦ absurd none
            ]
          ]
        ]
      ]
    ]

pub returns-in-Err-clause-faulty : goal.returns-in-Err-clause-faulty
returns-in-Err-clause-faulty g c = λ none.
    let app = c.in_ok-couchd.ensures.app in
    let kinds = c.in-Err.ensures.kinds (ap is_simple_and_free app ∙ couchd_is_simple_and_free) in
    inl (c.fault.ensures.memory (of_memory _ c.in-Err.error kinds (ap (λ (a : App). fault_of a (map g.S.AsStr.text c.args.arguments.now)) app ∙ none)))

pub returns-in-Err-clause-version : goal.returns-in-Err-clause-version
returns-in-Err-clause-version g c = λ asks.
    let app = c.in_ok-couchd.ensures.app in
    let kinds = c.in-Err.ensures.kinds (ap is_simple_and_free app ∙ couchd_is_simple_and_free) in
    subst (λ (a : App). IsAmong DisplayVersion (fault_of a (map g.S.AsStr.text c.args.arguments.now))) app
    (version_among _ c.in-Err.error kinds (c.fault.ensures.version_only asks))

pub returns-in-Err-clause-version_asked : goal.returns-in-Err-clause-version_asked
returns-in-Err-clause-version_asked g c = λ asked.
    let app = c.in_ok-couchd.ensures.app in
    let kinds = c.in-Err.ensures.kinds (ap is_simple_and_free app ∙ couchd_is_simple_and_free) in
    elim (only_version _ c.in-Err.error kinds (ap (λ (a : App). fault_of a (map g.S.AsStr.text c.args.arguments.now)) app ∙ asked)) [
      | inl memory ↦ inl (c.fault.ensures.memory memory)
      | inr version ↦ c.fault.ensures.version version
    ]

pub returns-in-once-clause-run : goal.returns-in-once-clause-run
returns-in-once-clause-run g c =
    let app = c.in_ok-couchd.ensures.app in
    let name = sym c.subcommand.ensures.name ∙ ap (option_map (λ p. p.0.now)) c.unwrap.ensures ∙ ap Some c.in-once.is in
    ap (option_map (λ (s : Text × List Row). s.0)) (names _ couchd_is_simple _ _ _ app c.in-Ok.ensures.matches (codes "once") name).1

pub returns-in-once-clause-faultless : goal.returns-in-once-clause-faultless
returns-in-once-clause-faultless g c =
    let app = c.in_ok-couchd.ensures.app in
    let h = c.in-Ok.ensures.kinds (ap is_simple_and_free app ∙ couchd_is_simple_and_free) in
    ap (λ (a : App). fault_of a (map g.S.AsStr.text c.args.arguments.now)) (sym app) ∙ h

pub returns-in-dump-clause-run : goal.returns-in-dump-clause-run
returns-in-dump-clause-run g c =
    let app = c.in_ok-couchd.ensures.app in
    let name = sym c.subcommand.ensures.name ∙ ap (option_map (λ p. p.0.now)) c.unwrap.ensures ∙ ap Some c.in-dump.is in
    ap (option_map (λ (s : Text × List Row). s.0)) (names _ couchd_is_simple _ _ _ app c.in-Ok.ensures.matches (codes "dump") name).1

pub returns-in-dump-clause-faultless : goal.returns-in-dump-clause-faultless
returns-in-dump-clause-faultless g c =
    let app = c.in_ok-couchd.ensures.app in
    let h = c.in-Ok.ensures.kinds (ap is_simple_and_free app ∙ couchd_is_simple_and_free) in
    ap (λ (a : App). fault_of a (map g.S.AsStr.text c.args.arguments.now)) (sym app) ∙ h

pub returns-in-Ok-serving_of-clause-faultless : goal.returns-in-Ok-serving_of-clause-faultless
returns-in-Ok-serving_of-clause-faultless g c =
    let app = c.in_ok-couchd.ensures.app in
    let h = c.in-Ok.ensures.kinds (ap is_simple_and_free app ∙ couchd_is_simple_and_free) in
    ap (λ (a : App). fault_of a (map g.S.AsStr.text c.args.arguments.now)) (sym app) ∙ h

pub returns-in-Ok-serving_of-clause-run : goal.returns-in-Ok-serving_of-clause-run
returns-in-Ok-serving_of-clause-run g c =
    let app = c.in_ok-couchd.ensures.app in
    let name = sym c.subcommand.ensures.name ∙ ap (option_map (λ p. p.0.now)) c.unwrap.ensures ∙ ap Some c.in-serve.is in
    let given = names _ couchd_is_simple _ _ _ app c.in-Ok.ensures.matches (codes "serve") name in
    let held = rows_held _ couchd_is_simple _ _ _ app c.in-Ok.ensures.matches (λ p. rows_of (found_of p.1.now)) c.subcommand.result c.unwrap.result c.subcommand.ensures.rows c.unwrap.ensures (codes "serve") given.0 given.1 in
    (given.0, given.1, subst (λ (rows : List Row). IsServingOf rows c.in-Ok-serving_of.serving) (sym held) c.in-Ok-serving_of.ensures.given)

pub returns-in-Err-Refused-clause-faulty : goal.returns-in-Err-Refused-clause-faulty
returns-in-Err-Refused-clause-faulty g c = λ none.
    let app = c.in_ok-couchd.ensures.app in
    let name = sym c.subcommand.ensures.name ∙ ap (option_map (λ p. p.0.now)) c.unwrap.ensures ∙ ap Some c.in-serve.is in
    let given = names _ couchd_is_simple _ _ _ app c.in-Ok.ensures.matches (codes "serve") name in
    let held = rows_held _ couchd_is_simple _ _ _ app c.in-Ok.ensures.matches (λ p. rows_of (found_of p.1.now)) c.subcommand.result c.unwrap.result c.subcommand.ensures.rows c.unwrap.ensures (codes "serve") given.0 given.1 in
    let refused = c.in-Err-Refused.ensures.none _ (ap Err c.in-Err-Refused.field-0-is) in
    inr (no_run (map g.S.AsStr.text c.args.arguments.now) given.0 given.1 (subst (λ (rows : List Row). (serving : Serving) → IsServingOf rows serving → ⊥) (sym held) refused))

pub returns-in-Err-Refused-clause-version_asked : goal.returns-in-Err-Refused-clause-version_asked
returns-in-Err-Refused-clause-version_asked g c = λ asked.
    let app = c.in_ok-couchd.ensures.app in
    let none = c.in-Ok.ensures.kinds (ap is_simple_and_free app ∙ couchd_is_simple_and_free) in
    absurd (some_kind _ _ (sym asked ∙ ap (λ (a : App). fault_of a (map g.S.AsStr.text c.args.arguments.now)) (sym app) ∙ none))

pub returns-in-Ok-replicating_of-clause-faultless : goal.returns-in-Ok-replicating_of-clause-faultless
returns-in-Ok-replicating_of-clause-faultless g c =
    let app = c.in_ok-couchd.ensures.app in
    let h = c.in-Ok.ensures.kinds (ap is_simple_and_free app ∙ couchd_is_simple_and_free) in
    ap (λ (a : App). fault_of a (map g.S.AsStr.text c.args.arguments.now)) (sym app) ∙ h

pub returns-in-Ok-replicating_of-clause-run : goal.returns-in-Ok-replicating_of-clause-run
returns-in-Ok-replicating_of-clause-run g c =
    let app = c.in_ok-couchd.ensures.app in
    let name = sym c.subcommand.ensures.name ∙ ap (option_map (λ p. p.0.now)) c.unwrap.ensures ∙ ap Some c.in-replicate.is in
    let given = names _ couchd_is_simple _ _ _ app c.in-Ok.ensures.matches (codes "replicate") name in
    let held = rows_held _ couchd_is_simple _ _ _ app c.in-Ok.ensures.matches (λ p. rows_of (found_of p.1.now)) c.subcommand.result c.unwrap.result c.subcommand.ensures.rows c.unwrap.ensures (codes "replicate") given.0 given.1 in
    (given.0, given.1, subst (λ (rows : List Row). IsReplicatingOf rows c.in-Ok-replicating_of.replicating) (sym held) c.in-Ok-replicating_of.ensures.given)

pub returns-in-Err-Refused-replicating_of-clause-faulty : goal.returns-in-Err-Refused-replicating_of-clause-faulty
returns-in-Err-Refused-replicating_of-clause-faulty g c = λ none.
    let app = c.in_ok-couchd.ensures.app in
    let name = sym c.subcommand.ensures.name ∙ ap (option_map (λ p. p.0.now)) c.unwrap.ensures ∙ ap Some c.in-replicate.is in
    let given = names _ couchd_is_simple _ _ _ app c.in-Ok.ensures.matches (codes "replicate") name in
    let held = rows_held _ couchd_is_simple _ _ _ app c.in-Ok.ensures.matches (λ p. rows_of (found_of p.1.now)) c.subcommand.result c.unwrap.result c.subcommand.ensures.rows c.unwrap.ensures (codes "replicate") given.0 given.1 in
    let refused = c.in-Err-Refused-replicating_of.ensures.none _ (ap Err c.in-Err-Refused-replicating_of.field-0-is) in
    inr (no_replication (map g.S.AsStr.text c.args.arguments.now) given.0 given.1 (subst (λ (rows : List Row). (replicating : Replicating) → IsReplicatingOf rows replicating → ⊥) (sym held) refused))

pub returns-in-Err-Refused-replicating_of-clause-version_asked : goal.returns-in-Err-Refused-replicating_of-clause-version_asked
returns-in-Err-Refused-replicating_of-clause-version_asked g c = λ asked.
    let app = c.in_ok-couchd.ensures.app in
    let none = c.in-Ok.ensures.kinds (ap is_simple_and_free app ∙ couchd_is_simple_and_free) in
    absurd (some_kind _ _ (sym asked ∙ ap (λ (a : App). fault_of a (map g.S.AsStr.text c.args.arguments.now)) (sym app) ∙ none))

pub returns-in-Ok-repairing_of-clause-faultless : goal.returns-in-Ok-repairing_of-clause-faultless
returns-in-Ok-repairing_of-clause-faultless g c =
    let app = c.in_ok-couchd.ensures.app in
    let h = c.in-Ok.ensures.kinds (ap is_simple_and_free app ∙ couchd_is_simple_and_free) in
    ap (λ (a : App). fault_of a (map g.S.AsStr.text c.args.arguments.now)) (sym app) ∙ h

pub returns-in-Ok-repairing_of-clause-run : goal.returns-in-Ok-repairing_of-clause-run
returns-in-Ok-repairing_of-clause-run g c =
    let app = c.in_ok-couchd.ensures.app in
    let name = sym c.subcommand.ensures.name ∙ ap (option_map (λ p. p.0.now)) c.unwrap.ensures ∙ ap Some c.in-repair.is in
    let given = names _ couchd_is_simple _ _ _ app c.in-Ok.ensures.matches (codes "repair") name in
    let held = rows_held _ couchd_is_simple _ _ _ app c.in-Ok.ensures.matches (λ p. rows_of (found_of p.1.now)) c.subcommand.result c.unwrap.result c.subcommand.ensures.rows c.unwrap.ensures (codes "repair") given.0 given.1 in
    (given.0, given.1, subst (λ (rows : List Row). IsRepairingOf rows c.in-Ok-repairing_of.repairing) (sym held) c.in-Ok-repairing_of.ensures.given)

pub returns-in-Err-Refused-repairing_of-clause-faulty : goal.returns-in-Err-Refused-repairing_of-clause-faulty
returns-in-Err-Refused-repairing_of-clause-faulty g c = λ none.
    let app = c.in_ok-couchd.ensures.app in
    let name = sym c.subcommand.ensures.name ∙ ap (option_map (λ p. p.0.now)) c.unwrap.ensures ∙ ap Some c.in-repair.is in
    let given = names _ couchd_is_simple _ _ _ app c.in-Ok.ensures.matches (codes "repair") name in
    let held = rows_held _ couchd_is_simple _ _ _ app c.in-Ok.ensures.matches (λ p. rows_of (found_of p.1.now)) c.subcommand.result c.unwrap.result c.subcommand.ensures.rows c.unwrap.ensures (codes "repair") given.0 given.1 in
    let refused = c.in-Err-Refused-repairing_of.ensures.none _ (ap Err c.in-Err-Refused-repairing_of.field-0-is) in
    inr (no_repair (map g.S.AsStr.text c.args.arguments.now) given.0 given.1 (subst (λ (rows : List Row). (repairing : Repairing) → IsRepairingOf rows repairing → ⊥) (sym held) refused))

pub returns-in-Err-Refused-repairing_of-clause-version_asked : goal.returns-in-Err-Refused-repairing_of-clause-version_asked
returns-in-Err-Refused-repairing_of-clause-version_asked g c = λ asked.
    let app = c.in_ok-couchd.ensures.app in
    let none = c.in-Ok.ensures.kinds (ap is_simple_and_free app ∙ couchd_is_simple_and_free) in
    absurd (some_kind _ _ (sym asked ∙ ap (λ (a : App). fault_of a (map g.S.AsStr.text c.args.arguments.now)) (sym app) ∙ none))
