use Rattle.std.proofs.Common.{◌∙◌, List, sym, map, ap, subst, inl, inr, codes, Some, option_map}
use Rattle.clap.specs.Kinds.{IsAmong}
use Rattle.clap.specs.declared.error.kind.ErrorKind.TheVariants.{DisplayVersion}
use Rattle.clap.specs.Words.{App, Row, Text, is_simple_and_free, fault_of, found_of, one_of, rows_of}
use Rattle.command_line.specs.Flags.{IsFlagOf}
use Rattle.command_line.proofs.Parsed.{mapped_some, meets_one, names, rows_held, replay_is_simple, replay_is_simple_and_free}
use Rattle.command_line.proofs.Runs.{of_memory, only_version, version_among}
use Rattle.command_line.proofs.replay.read_arguments.Goals as goal

pub unreachable-requires : goal.unreachable-requires
unreachable-requires g c =
    let one = meets_one _ replay_is_simple _ _ _ c.in_ok-command.ensures.app c.in-Ok.ensures.matches c.in_ok-command.ensures.local c.in_ok-command.ensures.subcommand c.in-Ok.ensures.parsed in
    let named = mapped_some (λ p. p.0.now) c.subcommand.result c.unwrap.result in
    elim one [
      | inl check ↦ c.in_default.not-check (named _ (c.subcommand.ensures.name ∙ check) c.unwrap.ensures)
      | inr other ↦ elim other [
        | inl base ↦ c.in_default.not-base (named _ (c.subcommand.ensures.name ∙ base) c.unwrap.ensures)
        | inr none ↦ absurd none
      ]
    ]

pub returns-in-Err-clause-faulty : goal.returns-in-Err-clause-faulty
returns-in-Err-clause-faulty g c = λ none.
    let app = c.in_ok-command.ensures.app in
    let kinds = c.in-Err.ensures.kinds (ap is_simple_and_free app ∙ replay_is_simple_and_free) in
    c.fault.ensures.memory (of_memory _ c.in-Err.error kinds (ap (λ (a : App). fault_of a (map g.S.AsStr.text c.args.arguments.now)) app ∙ none))

pub returns-in-Err-clause-version : goal.returns-in-Err-clause-version
returns-in-Err-clause-version g c = λ asks.
    let app = c.in_ok-command.ensures.app in
    let kinds = c.in-Err.ensures.kinds (ap is_simple_and_free app ∙ replay_is_simple_and_free) in
    subst (λ (a : App). IsAmong DisplayVersion (fault_of a (map g.S.AsStr.text c.args.arguments.now))) app
    (version_among _ c.in-Err.error kinds (c.fault.ensures.version_only asks))

pub returns-in-Err-clause-version_asked : goal.returns-in-Err-clause-version_asked
returns-in-Err-clause-version_asked g c = λ asked.
    let app = c.in_ok-command.ensures.app in
    let kinds = c.in-Err.ensures.kinds (ap is_simple_and_free app ∙ replay_is_simple_and_free) in
    elim (only_version _ c.in-Err.error kinds (ap (λ (a : App). fault_of a (map g.S.AsStr.text c.args.arguments.now)) app ∙ asked)) [
      | inl memory ↦ inl (c.fault.ensures.memory memory)
      | inr version ↦ c.fault.ensures.version version
    ]

pub returns-in-check-clause-run : goal.returns-in-check-clause-run
returns-in-check-clause-run g c =
    let app = c.in_ok-command.ensures.app in
    let name = sym c.subcommand.ensures.name ∙ ap (option_map (λ p. p.0.now)) c.unwrap.ensures ∙ ap Some c.in-check.is in
    ap (option_map (λ (s : Text × List Row). s.0)) (names _ replay_is_simple _ _ _ app c.in-Ok.ensures.matches (codes "check") name).1

pub returns-in-check-clause-faultless : goal.returns-in-check-clause-faultless
returns-in-check-clause-faultless g c =
    let app = c.in_ok-command.ensures.app in
    let h = c.in-Ok.ensures.kinds (ap is_simple_and_free app ∙ replay_is_simple_and_free) in
    ap (λ (a : App). fault_of a (map g.S.AsStr.text c.args.arguments.now)) (sym app) ∙ h

pub returns-in-base-clause-run : goal.returns-in-base-clause-run
returns-in-base-clause-run g c =
    let app = c.in_ok-command.ensures.app in
    let name = sym c.subcommand.ensures.name ∙ ap (option_map (λ p. p.0.now)) c.unwrap.ensures ∙ ap Some c.in-base.is in
    let given = names _ replay_is_simple _ _ _ app c.in-Ok.ensures.matches (codes "base") name in
    let held = rows_held _ replay_is_simple _ _ _ app c.in-Ok.ensures.matches (λ p. rows_of (found_of p.1.now)) c.subcommand.result c.unwrap.result c.subcommand.ensures.rows c.unwrap.ensures (codes "base") given.0 given.1 in
    (given.0, given.1, subst (λ (rows : List Row). IsFlagOf (one_of (codes "raised") rows) c.flag_of.result) (sym held) c.flag_of.ensures)

pub returns-in-base-clause-faultless : goal.returns-in-base-clause-faultless
returns-in-base-clause-faultless g c =
    let app = c.in_ok-command.ensures.app in
    let h = c.in-Ok.ensures.kinds (ap is_simple_and_free app ∙ replay_is_simple_and_free) in
    ap (λ (a : App). fault_of a (map g.S.AsStr.text c.args.arguments.now)) (sym app) ∙ h
