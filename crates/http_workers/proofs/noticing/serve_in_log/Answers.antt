use Rattle.http_workers.proofs.noticing.serve_in_log.Goals as goal

pub serve_by-requires : goal.serve_by-requires
serve_by-requires g c = record { answers = λ old turn new answers. answers }
