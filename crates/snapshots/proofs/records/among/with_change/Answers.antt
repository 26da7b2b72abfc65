use Rattle.std.proofs.Common.{◌≡◌, ◌<◌, ℕ, List, Option, Some, IfOk, option_copied, if◌then◌else◌, nat_lt, true, sym, ap, ◌∙◌, subst, lt-ltb}
use Rattle.std.specs.Ordering.{nat_cmp}
use Rattle.std.specs.FinMap.Entries.{put}
use Rattle.model.specs.Command.{Id}
use Rattle.model.specs.Database.{Record}
use Rattle.snapshots.specs.Among.{with_change}
use Rattle.snapshots.proofs.records.among.with_change.Goals as goal

-- a record with a number above `since` is put under it
changed : (since seq : ℕ) (id : Id) (stored : Option Record) (r : Record) (es : List (ℕ × (Id × Record))) → stored ≡ Some r → seq ≡ r.seq → since < seq
    → put nat_cmp seq (id, r) es ≡ with_change since id stored es
changed since seq id stored r es is at less =
    let above : nat_lt since r.seq ≡ true = lt-ltb since r.seq (subst (λ n. since < n) at less) in
    ap (λ n. put nat_cmp n (id, r) es) at
    ∙ ap (λ b. if b then put nat_cmp r.seq (id, r) es else es) (sym above)
    ∙ ap (λ s. with_change since id s es) (sym is)

pub returns-then-since-seq : goal.returns-then-since-seq
returns-then-since-seq c =
    let is : option_copied c.args.stored ≡ Some c.in-Some.stored.now = ap option_copied c.in-Some.is in
    let same = changed c.args.since c.seq-seq.result c.args.id.now (option_copied c.args.stored) c.in-Some.stored.now c.args.changed.entries is
    (c.seq-seq.ensures ∙ ap (λ (r : Record). r.seq) c.get.ensures) c.if-since-seq.true in
    subst (λ x. IfOk c.with_document.result (λ m. m.entries ≡ x)) same c.with_document.ensures
