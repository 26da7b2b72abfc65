use Rattle.std.proofs.Common.{◌++◌, ℕ, List, codes, decimal, string_bytes, sym, ap, subst, ◌∙◌, arith}
use Rattle.percent_encoding.specs.Percent.{percent_encode}
use Rattle.request_log.specs.Line.{IsOneLine}
use Rattle.request_log.specs.Written.{written}
use Rattle.request_log.specs.declared.line.TheConstants.{UNSAFE}
use Rattle.request_log.proofs.OneLine.{one_line, written_behind}
use Rattle.request_log.proofs.line.line_text.Goals as goal

pub returns-clause-text : goal.returns-clause-text
returns-clause-text c =
    let w = written c.args.line in
    written_behind (string_bytes c.new-text.result) _ _ _ _ _ _ _ _ (percent_encode UNSAFE w.time) (decimal w.worker) (percent_encode UNSAFE w.method) (percent_encode UNSAFE w.target) (decimal w.status) (decimal w.place) (decimal w.bytes) (decimal w.microseconds)
    c.new-text.ensures.bytes
    (c.in_ok-push_text.ensures ∙ ap (λ (bytes : List ℕ). string_bytes c.new-text.result ++ (percent_encode UNSAFE bytes ++ codes " ")) c.as_bytes.ensures.value)
    c.in_ok-push_number.ensures c.in_ok-push_text-2.ensures c.in_ok-push_text-3.ensures c.in_ok-push_number-2.ensures c.in_ok-push_number-3.ensures c.in_ok-push_number-4.ensures c.in_ok-push_number-5.ensures

pub returns-clause-one_line : goal.returns-clause-one_line
returns-clause-one_line c =
    subst IsOneLine (sym (returns-clause-text c)) (one_line (written c.args.line) (omega arith) (omega arith) (omega arith) (omega arith) (omega arith))
