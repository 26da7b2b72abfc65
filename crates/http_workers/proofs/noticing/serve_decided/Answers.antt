use Rattle.http_workers.proofs.noticing.serve_decided.Goals as goal

pub serve_guarded-requires : goal.serve_guarded-requires
serve_guarded-requires g c = record { answers = λ old turn new answers. answers }
