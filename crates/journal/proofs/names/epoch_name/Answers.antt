use Rattle.std.proofs.Common.{◌≡◌, ◌++◌, ◌-◌, ◌^◌, [], false, decimal, rules}
use Rattle.std.specs.Prelude.{codes, string_bytes, IfOk}
use Rattle.std.specs.Fmt.{format_spec, padded_integral}
use Rattle.journal.proofs.Named.{written}
use Rattle.journal.proofs.names.epoch_name.Goals as goal

pub returns : goal.returns
returns c = λ low.
    let text : IfOk c.format.result (λ s. string_bytes s ≡ padded_integral (format_spec 32 0 4 10 (2 ^ 64 - 1)) false [] (decimal c.args.epoch) ++ codes ".dump") = search rules in
    written c.args.epoch c.format.result low text
