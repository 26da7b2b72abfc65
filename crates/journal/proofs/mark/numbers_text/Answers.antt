use Rattle.std.proofs.Common.{◌≡◌, ◌++◌, ◌-◌, ◌^◌, [], false, decimal, codes, rules}
use Rattle.std.specs.Prelude.{string_bytes, IfOk}
use Rattle.std.specs.Fmt.{format_spec, padded_integral}
use Rattle.journal.proofs.Named.{numbered}
use Rattle.journal.proofs.mark.numbers_text.Goals as goal

pub returns : goal.returns
returns c = λ low small.
    let text : IfOk c.format.result (λ s. string_bytes s ≡ padded_integral (format_spec 32 0 4 10 (2 ^ 64 - 1)) false [] (decimal c.args.epoch)
    ++ (codes " " ++ padded_integral (format_spec 32 0 4 18 (2 ^ 64 - 1)) false [] (decimal c.args.synced))) = search rules in
    numbered c.args.epoch c.args.synced c.format.result low small text
