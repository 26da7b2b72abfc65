use Rattle.std.proofs.Common.{◌∙◌, ◌≤◌, length, sym, arith}
use Rattle.replicator.proofs.Passes.{all-done}
use Rattle.replicator.proofs.pass.Pass.due.Goals as goal

pub returns-then-self : goal.returns-then-self
returns-then-self c =
    let p = c.self.inside in
    let no_more : length p.wanted.items ≤ p.asked = omega (arith, p.wanted.ok) in
    let none_left : length p.given.items ≤ p.taken = omega (arith, p.given.ok) in
    let done = all-done c.args.self.now p.ends p.page p.differences p.wanted.items p.asked p.given.items p.absent.items p.taken p.marked c.self.view_is c.self.invariant no_more none_left in
    (done.0, done.1, sym done.2 ∙ c.if-self.true)

pub returns : goal.returns
returns c =
    let p = c.self.inside in
    let no_more : length p.wanted.items ≤ p.asked = omega (arith, p.wanted.ok) in
    let none_left : length p.given.items ≤ p.taken = omega (arith, p.given.ok) in
    let done = all-done c.args.self.now p.ends p.page p.differences p.wanted.items p.asked p.given.items p.absent.items p.taken p.marked c.self.view_is c.self.invariant no_more none_left in
    (done.0, done.1, sym done.2 ∙ c.if-self.false)
