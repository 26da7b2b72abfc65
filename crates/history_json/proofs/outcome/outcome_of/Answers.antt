use Rattle.std.proofs.Common.{◌≡◌, Result, Ok, Err, Some, sym, ◌∙◌}
use Rattle.serde_json.specs.Data.{string}
use Rattle.model.specs.Command.{FitsEdit}
use Rattle.model.specs.declared.refusal.Refusal.{Refusal}
use Rattle.model.specs.Revision.{Rev, rev_text}
use Rattle.history_json.specs.Replies.{outcome_data, refusal_name}
use Rattle.history_json.proofs.Revs.{no_name}
use Rattle.history_json.proofs.outcome.outcome_of.Goals as goal

pub returns-in-Some-clause-found : goal.returns-in-Some-clause-found
returns-in-Some-clause-found c = λ outcome fits is. at outcome fits is
  where
    at : (o : Result Rev Refusal) → FitsEdit o → string c.args.text.now ≡ outcome_data o → Some (Err c.in-Some.refusal) ≡ Some o
    at (Ok rev) fits is = let same : c.args.text.now ≡ rev_text rev = cc in absurd (no_name rev c.in-Some.refusal fits (sym same ∙ c.in-Some.ensures.named))
    at (Err e) fits is =
        let same : c.args.text.now ≡ refusal_name e = cc in
        let found : Some c.in-Some.refusal ≡ Some e = sym c.in-Some.is ∙ c.refusal_named.ensures.found e same in
        cc
