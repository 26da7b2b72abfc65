use Rattle.std.proofs.Common.{◌∙◌, refl}
use Rattle.session_calls.proofs.Seen.{same_entry}
use Rattle.test_faults.specs.Refused.{refused}
use Rattle.test_faults.proofs.refusing.RefusingViewer.entry.Goals as goal

pub returns : goal.returns
returns c =
    let version = c.args.self.now.version in
    record { entry = c.entry.ensures ∙ same_entry (refused version c.args.self.now.lost) version c.args.place refl }
