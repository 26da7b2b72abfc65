-- The terms of a connection stay.
use Rattle.std.proofs.Common.{◌≡◌, ◌∙◌, ap, sym, List, [], ◌∷◌, ℕ}
use Rattle.std.specs.List.{FoldsTo}
use Rattle.replicator_http.specs.Ahead.{CutAhead, Dropped, Event, Happens, Sent}
use Rattle.replicator_http.specs.Connection.{Connection, Exchange, Unmade, GivenUp, Cut, Answered, Unanswered, Exchanges}

terms-exchanged : (request : List ℕ) (old new : Connection) (exchange : Exchange) → Exchanges request old exchange new → new.terms ≡ old.terms
terms-exchanged request old new Unmade made = ap (λ (c : Connection). c.terms) made
terms-exchanged request old new (GivenUp why) (given, made) = ap (λ (c : Connection). c.terms) made
terms-exchanged request old new Cut (none, made) = made.terms
terms-exchanged request old new (Unanswered come why) made = made.is_written.terms
terms-exchanged request old new (Answered response behind) made = made.is_written.terms

terms-event : (old new : Connection) (event : Event) → Happens old event new → new.terms ≡ old.terms
terms-event old new (Sent requests) sent = sent.terms
terms-event old new (CutAhead requests) (asks, cut) = cut.terms
terms-event old new (Dropped request exchange) (next, read, made) = terms-exchanged request old new exchange made

pub terms-events : (old new : Connection) (events : List Event) → FoldsTo Happens old events new → new.terms ≡ old.terms
terms-events old new [] same = ap (λ (c : Connection). c.terms) (sym same)
terms-events old new (event ∷ events) (mid, one, rest) = terms-events mid new events rest ∙ terms-event old mid event one
