use Rattle.updater_state.proofs.outcomes.tell.Goals as goal

pub returns : goal.returns
returns g c = c.exchange-older.ensures
