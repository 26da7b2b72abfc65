use Rattle.std.proofs.Common.{◌≡◌, length, subst, sym, refl, rules}
use Rattle.journal.specs.Marks.{AreNumbers}
use Rattle.journal.proofs.Marked.{front_by}
use Rattle.journal.proofs.mark.front_text.Goals as goal

pub returns-in_err-numbers : goal.returns-in_err-numbers
returns-in_err-numbers c = λ low small. search rules

pub returns : goal.returns
returns c = λ low small.
    let mark = c.args.mark.now in
    let len : length mark.boot.text ≡ 36 = search rules in
    let numbers = subst (λ t. AreNumbers t mark.epoch mark.synced) (sym c.as_bytes.ensures.value) (c.in_ok-numbers.ensures low small) in
    front_by _ c.joined.result mark _ _ _ c.joined.ensures numbers c.word_of.ensures refl len
