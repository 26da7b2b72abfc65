use Rattle.std.specs.Prelude.{◌≡◌}
use Rattle.std.proofs.lemmas.Result.{IfOk-weaker}
use Rattle.model.specs.Map.{put}
use Rattle.model.specs.Command.{numbers}
use Rattle.model.specs.Database.{counted}
use Rattle.snapshots.specs.Database.{database_with}
use Rattle.snapshots.proofs.Calls.{database-counted}
use Rattle.snapshots.proofs.database.Database.count_call.Goals as goal

pub returns : goal.returns
returns c =
    let is = c.self.inside in
    IfOk-weaker c.put.result
    (λ _. c.put.new.self ≡ put {O = numbers} is.calls c.args.session c.args.call)
    (λ _. database_with is.documents is.locals is.purges is.revs_limit c.put.new.self ≡ counted c.args.self.now c.args.session)
    (λ _ later. database-counted is.documents is.locals is.purges is.revs_limit is.calls c.put.new.self c.args.self.now c.args.session c.args.call c.self.view_is later c.requires)
    c.put.ensures
