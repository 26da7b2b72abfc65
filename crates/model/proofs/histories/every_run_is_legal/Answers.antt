use Rattle.model.proofs.RunLaws.{each_run}
use Rattle.model.proofs.PlaceLaws.{places_never_fall}
use Rattle.model.proofs.histories.every_run_is_legal.Goals as goal

pub returns-clause-legal : goal.returns-clause-legal
returns-clause-legal c base config es = (each_run base config es).calls.legal

pub returns-clause-told : goal.returns-clause-told
returns-clause-told c base config es = (each_run base config es).calls.told

pub returns-clause-only : goal.returns-clause-only
returns-clause-only c base config es = (each_run base config es).calls.only

pub returns-clause-places : goal.returns-clause-places
returns-clause-places c base config es s = places_never_fall base s config es
