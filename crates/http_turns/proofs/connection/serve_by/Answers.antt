use Rattle.http_turns.proofs.Told.{all_lent, same_name, served_by}
use Rattle.http_turns.proofs.connection.serve_by.Goals as goal

pub returns-clause-same : goal.returns-clause-same
returns-clause-same g c =
    same_name _ _ _ g.T.Borrows.session_now g.T.Borrows.session_name _ _ _
    (all_lent _ _ _ g.T.Borrows.session_now g.T.Borrows.session_name c.requires.answers _ _ _ c.serve-ended.ensures.runs)

pub returns-clause-connection : goal.returns-clause-connection
returns-clause-connection g c =
    served_by _ _ _ g.T.Borrows.session_now g.T.Borrows.session_name c.requires.answers _ _ _ _ _ c.serve-ended.ensures c.place-recalled.ensures.legal
