use Rattle.std.proofs.Common.{◌≡◌, ◌∙◌, ◌++◌, ℕ, List, All, ap, subst, string_bytes}
use Rattle.std.specs.List.{concat}
use Rattle.replicator_http.specs.Ahead.{AsksRevisions}
use Rattle.replicator_http.specs.Connection.{Connection}
use Rattle.replicator_http.proofs.peer.HttpPeer.add_ahead.Goals as goal

pub returns-clause-adds : goal.returns-clause-adds
returns-clause-adds g c =
    let inside = c.self.inside in
    let old : Connection = record {
      left = g.R.Source.left inside.reader;
      failed_reads = g.R.Source.failed_reads inside.reader;
      taken = g.W.Sink.taken inside.writer;
      failed_writes = g.W.Sink.failed_writes inside.writer;
      come = inside.incoming;
      ahead = inside.ahead;
      state = inside.state;
      failed_calls = inside.failures;
      terms = record { host = string_bytes inside.host; skips = inside.skips };
    } in
    let adds = c.add.ensures.adds in
    let Adds : Connection → Type 0 = λ (k : Connection). (more : List (List ℕ)) × (record old { ahead = c.add.new.self } ≡ record k { ahead = k.ahead ++ more })
    × All (AsksRevisions k.terms.host) more × (c.add.new.text.items ≡ concat more) in
    let added : Adds old = (
      adds.0,
      ap (λ (a : List (List ℕ)). record old { ahead = a }) adds.1,
      subst (λ (host : List ℕ). All (AsksRevisions host) adds.0) c.as_str.ensures.value adds.2,
      adds.3 ∙ ap (λ (t : List ℕ). t ++ concat adds.0) c.new-text.ensures.items,
    ) in
    subst Adds c.self.view_is added
