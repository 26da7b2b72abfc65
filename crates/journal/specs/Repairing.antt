-- What a repair cuts.
use Rattle.std.specs.Prelude.{ℕ, ◌-◌}
use Rattle.replay_cli.specs.declared.verdict.Verdict.{Verdict}
use Rattle.replay_cli.specs.declared.verdict.Verdict.TheVariants as verdict

-- the place of the entry whose line is refused, or 0 for the first line, which has none
abbrev pub refused_place : Verdict → ℕ
refused_place (verdict.Legal places) = 0
refused_place (verdict.WrongAt place) = place
refused_place (verdict.UnreadableLine number) = number - 1
