use Rattle.std.proofs.Common.{◌≡◌, Err}
use Rattle.serde_json.specs.Data.{Data}
use Rattle.json_profile.specs.declared.fault.JsonFault.{JsonFault}
use Rattle.json_profile.specs.declared.fault.JsonFault.TheVariants as json
use Rattle.document_json.specs.Steps.{Decides}
use Rattle.document_json.specs.Text.{fault_of, json_of}
use Rattle.document_json.proofs.Checks.{passed-fault}
use Rattle.document_json.proofs.JsonTexts.{json_of-value, json_of-malformed, json_of-number, json_of-depth}
use Rattle.document_json.proofs.text.read_json.Goals as goal

pub returns : goal.returns
returns c = let h = c.in_ok-read.ensures.value in json_of-value c.in_ok-read.field-0 c.args.bytes.now h.0 h.1 h.2

pub returns-in_err-read : goal.returns-in_err-read
returns-in_err-read c =
    passed-fault c.from_residual.result c.in_err-read.field-0.0 (json_of c.args.bytes.now) c.from_residual.ensures.0 c.from_residual.ensures.1
    (refused_by c.in_err-read.field-0.0 c.in_err-read.was)
  where
    refused_by : (f : JsonFault) → c.read.result ≡ Err f → Decides {X = Data} (Err (fault_of f)) (json_of c.args.bytes.now)
    refused_by json.Malformed is = json_of-malformed c.args.bytes.now (c.read.ensures.malformed is)
    refused_by json.Number is = let h = c.read.ensures.number is in json_of-number h.0 c.args.bytes.now h.1.0 h.1.1
    refused_by json.Depth is = let h = c.read.ensures.depth is in json_of-depth h.0 c.args.bytes.now h.1.0 h.1.1 h.1.2
    refused_by json.NotAnObject is = absurd (c.read.ensures.of_text is)
    refused_by json.Memory is = tt
