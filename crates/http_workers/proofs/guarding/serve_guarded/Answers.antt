use Rattle.http_guard.proofs.Borrowed.{guarded-by}
use Rattle.http_turns.proofs.Told.{all_lent, same_name, served_by}
use Rattle.http_workers.proofs.guarding.serve_guarded.Goals as goal

pub returns-clause-same : goal.returns-clause-same
returns-clause-same g c =
    same_name _ _ _ g.T.Borrows.session_now g.T.Borrows.session_name _ _ _
    (all_lent _ _ _ g.T.Borrows.session_now g.T.Borrows.session_name c.requires.answers _ _ _ c.serve-writer.ensures.runs)

pub returns-clause-decided : goal.returns-clause-decided
returns-clause-decided g c =
    guarded-by _ _ g.T.Borrows.session_now (λ old turn new answers. (c.requires.answers old turn new answers).0) _ _ _ _ _ _ c.serve-writer.ensures

pub returns-clause-serves : goal.returns-clause-serves
returns-clause-serves g c =
    let alone = c.serve-writer.ensures.alone in (
      alone.ended,
      record {
        before = alone.before;
        after = alone.after;
        connection = served_by _ _ _ g.T.Borrows.session_now g.T.Borrows.session_name c.requires.answers _ _ _ _ _ alone.served c.place-recalled.ensures.legal;
      },
    )
