use Rattle.std.proofs.Common.{◌≡◌, ◌<◌, sym, ◌∙◌, ap, [], ◌∷◌, ◌++◌, List, length, arith}
use Rattle.model.specs.Command.{Entry}
use Rattle.version_log.specs.Histories.{newest, Lengthens, GoesOn}
use Rattle.version_log.proofs.Publishing.{adds_moves}
use Rattle.version_log.proofs.Growing.{found_old, grows_by, goes_on, few-publications}
use Rattle.version_log.proofs.front.Front.publish.Goals as goal

pub overflow_add-next : goal.overflow_add-next
overflow_add-next g c =
    let log = c.self.inside.seen.log in
    let longer : length (newest log) < length c.args.version.now.entries = rw c.self.view_is c.requires.longer in
    omega (arith, few-publications g.J.Naming.base log c.self.invariant.2, longer, c.place-recalled.ensures.history.few, c.self.invariant.0)

pub compare_exchange-found-requires : goal.compare_exchange-found-requires
compare_exchange-found-requires g c =
    let h = c.args.book.now.head_is in
    let seen = c.again-seen.ensures in
    let offer = c.plain-offer.ensures in
    let pen = c.no_pen-pen.ensures in
    let log = c.self.inside.seen.log in
    let book = ap (λ s. s.book) seen ∙ c.self.invariant.1 ∙ sym (ap (λ w. w.book) h) in
    let longer : Lengthens (newest log) c.args.version.now.entries = record { extends = rw c.self.view_is c.requires.extends; longer = rw c.self.view_is c.requires.longer } in (
      ap (λ w. w.tracked) h,
      book,
      pen.0 ∙ book,
      offer.0,
      rw (ap (λ w. w.key) h, ap (λ s. s.log) seen, pen.1, offer.1, offer.3) (adds_moves log c.args.version.now.entries c.self.inside.count (sym c.self.invariant.0) longer),
    )

pub invariant_of-self : goal.invariant_of-self
invariant_of-self g c =
    let log = c.self.inside.seen.log in
    let seen = c.again-seen.ensures in
    let found = c.compare_exchange-found in
    let e = c.args.version.now.entries in
    let on : GoesOn g.J.Naming.base (newest log) e = goes_on g.J.Naming.base (newest log) c.args.version.now c.requires.base c.place-recalled.ensures.history.legal (rw c.self.view_is c.requires.extends) (rw c.self.view_is c.requires.longer) in
    let said = found_old _ _ _ _ c.if-found-count.false found.ensures.7 in
    let is : found.new.seen.log ≡ log ++ e ∷ [] = said ∙ ap (λ (l : List (List Entry)). l ++ c.plain-offer.result.ask ∷ []) (ap (λ s. s.log) seen) ∙ ap (λ (x : List Entry). log ++ x ∷ []) c.plain-offer.ensures.1 in
    let more = grows_by g.J.Naming.base log found.new.seen.log e c.self.inside.count c.self.invariant.0 is on c.self.invariant.2 in
    (more.0, found.ensures.0 ∙ ap (λ s. s.book) seen ∙ c.self.invariant.1, more.1)
