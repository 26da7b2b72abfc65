-- Histories that go on: replay by `act`, legality entry by entry, and what one history has of another.
use Rattle.std.specs.Prelude.{◌≡◌, ◌↔◌, ◌+◌, List, [], ◌∷◌, ◌++◌, map, refl}
use Rattle.std.proofs.Common.{sym, ap, ◌∙◌, append_assoc}
use Rattle.std.proofs.lemmas.List.{append-nil}
use Rattle.model.specs.Command.{Command, Seat, Job, Entry}
use Rattle.model.specs.Database.{Database, act, calls_of}
use Rattle.model.specs.History.{replay, IsNext, IsLegal, entry_of, batch_entries, job_of, Chronicle, base_of, now, extended, Extends, Follows, extends, reopened}

pub replay-append : (base : Database) (es more : List Entry) → replay base (es ++ more) ≡ replay (replay base es) more
replay-append base [] more = refl
replay-append base (e ∷ es) more = replay-append (act base e.seat e.command) es more

pub replay-push : (base : Database) (es : List Entry) (e : Entry) → replay base (es ++ e ∷ []) ≡ act (replay base es) e.seat e.command
replay-push base es e = replay-append base es (e ∷ [])

pub IsLegal-append : (base : Database) (es more : List Entry) → IsLegal base (es ++ more) ↔ (IsLegal base es × IsLegal (replay base es) more)
IsLegal-append base [] more = (λ h. (tt, h), λ h. h.1)
IsLegal-append base (e ∷ es) more =
    let rest = IsLegal-append (act base e.seat e.command) es more in
    (λ h. ((h.0, (rest.0 h.1).0), (rest.0 h.1).1), λ h. (h.0.0, rest.1 (h.0.1, h.1)))

pub IsLegal-push : (base : Database) (es : List Entry) (e : Entry) → IsLegal base (es ++ e ∷ []) ↔ (IsLegal base es × IsNext (replay base es) e)
IsLegal-push base es e =
    let both = IsLegal-append base es (e ∷ []) in
    (λ h. ((both.0 h).0, (both.0 h).1.0), λ h. both.1 (h.0, (h.1, tt)))

-- the entry of a seat that is next
pub IsNext-entry_of : (d : Database) (seat : Seat) (command : Command) → seat.call ≡ calls_of d seat.session + 1 → IsNext d (entry_of d seat command)
IsNext-entry_of d seat command h = record { seat = h; reply = refl }

pub batch_entries-append : (d : Database) (js ks : List Job) → batch_entries d (js ++ ks) ≡ batch_entries d js ++ batch_entries (replay d (batch_entries d js)) ks
batch_entries-append d [] ks = refl
batch_entries-append d (j ∷ js) ks = ap (λ es. entry_of d j.seat j.command ∷ es) (batch_entries-append (act d j.seat j.command) js ks)

-- the replies are the database's, so a legal history is determined by its jobs
pub IsLegal-entries : (base : Database) (es : List Entry) → IsLegal base es → es ≡ batch_entries base (map job_of es)
IsLegal-entries base [] h = refl
IsLegal-entries base (e ∷ es) h =
    let rest = IsLegal-entries (act base e.seat e.command) es h.1 in
    λ i. record { seat = e.seat; command = e.command; reply = h.0.reply i } ∷ rest i

-- ---- one history begins with another

pub Extends-itself : (v : Chronicle) → Extends v v
Extends-itself v = record { base = refl; more = []; entries = sym (append-nil v.entries) }

pub Extends-through : (u v w : Chronicle) → Extends u v → Extends v w → Extends u w
Extends-through u v w g h = record { base = g.base ∙ h.base; more = h.more ++ g.more; entries = g.entries ∙ ap (λ es. es ++ g.more) h.entries ∙ append_assoc w.entries h.more g.more }

pub Extends-extended : (v : Chronicle) (es : List Entry) → Extends (extended v es) v
Extends-extended v es = record { base = refl; more = es; entries = refl }

pub now-extended : (v : Chronicle) (es : List Entry) → now (extended v es) ≡ replay (now v) es
now-extended v es = replay-append (base_of v.base) v.entries es

pub Follows-itself : (v : Chronicle) → Follows v v
Follows-itself v = extends v v (Extends-itself v)

Follows-extends : (u v w : Chronicle) → Extends u v → Follows v w → Follows u w
Follows-extends u v w e (extends _ _ f) = extends u w (Extends-through u v w e f)
Follows-extends u v w e (reopened _ m _ f is) = reopened u m w f (e.base ∙ is)

pub Follows-through : (u v w : Chronicle) → Follows u v → Follows v w → Follows u w
Follows-through u v w (extends _ _ e) g = Follows-extends u v w e g
Follows-through u v w (reopened _ m _ f is) g = reopened u m w (Follows-through m v w f g) is
