use Rattle.std.proofs.Common.{◌≤◌, ℕ, refl, sym, subst, Option}
use Rattle.std.specs.Prelude.{IfNone, IfSome}
use Rattle.clap.specs.Words.{Text, found_of}
use Rattle.command_line.specs.Numbers.{IsNumberOf}
use Rattle.command_line.proofs.Given.{not_given, was_given}
use Rattle.command_line.proofs.numbers.number_of.Goals as goal

pub returns-in_default-clause-number : goal.returns-in_default-clause-number
returns-in_default-clause-number c =
    let none = not_given (λ s. s.now) (found_of c.args.options.now) c.args.name.now c.get_str.result c.get_str.ensures c.in_default.is in
    subst (λ (given : Option Text). IsNumberOf given c.args.default c.args.default) (sym none) refl

pub returns-clause-number : goal.returns-clause-number
returns-clause-number c =
    let given = was_given (λ s. s.now) (found_of c.args.options.now) c.args.name.now c.get_str.result c.get_str.ensures c.in-Some.text c.in-Some.is in
    subst (λ (given : Option Text). IfSome c.number_in.result (IsNumberOf given c.args.default)) (sym given) c.number_in.ensures.number

pub returns-clause-no_number : goal.returns-clause-no_number
returns-clause-no_number c =
    let given = was_given (λ s. s.now) (found_of c.args.options.now) c.args.name.now c.get_str.result c.get_str.ensures c.in-Some.text c.in-Some.is in
    subst (λ (given : Option Text). IfNone c.number_in.result ((number : ℕ) → IsNumberOf given c.args.default number → c.args.least ≤ number → number ≤ c.args.most → ⊥)) (sym given) c.number_in.ensures.no_number
