-- Calls that are asked again.
use Rattle.std.proofs.Common.{◌≡◌, ℕ, Bool, List, refl, subst, sym, inl, inr}
use Rattle.std.specs.Prelude.{Result, Ok, Err}
use Rattle.replicator.specs.declared.fault.PeerFault.{PeerFault}
use Rattle.replicator.specs.declared.fault.PeerFault.TheVariants as fault
use Rattle.replicator.specs.Call.{Call, CountsFailed}
use Rattle.replicator_http.specs.Connection.{Connection, Terms}
use Rattle.replicator_http.specs.Goes.{Goes}
use Rattle.replicator_run.specs.Reopened.{CanBeAskedTwice, GoesOver, IsAskedAgain, IsNew, Reopened, failed}

-- the terms with this host that skip or don't are these
pub same_terms : (terms : Terms) (host : List ℕ) (skips : Bool) → host ≡ terms.host → skips ≡ terms.skips → record { host = host; skips = skips } ≡ terms
same_terms terms host skips is_host does_skip = λ i. record { host = is_host i; skips = does_skip i }

-- what is no failure is not counted
pub counts_other : {A : Type 0} (n : ℕ) (r : Result A PeerFault) → (r ≡ Err fault.Failed → ⊥) → CountsFailed n n r
counts_other n (Ok x) other = refl
counts_other n (Err fault.Failed) other = absurd (other refl)
counts_other n (Err fault.Unreadable) other = refl
counts_other n (Err fault.Memory) other = refl
counts_other n (Err fault.Refused) other = refl

-- a call that failed over one connection, and then went over the next
pub again : (call first : Call) (old gone next new : Connection) → CanBeAskedTwice call → first ≡ failed call → Goes old first gone → IsNew gone.terms next → Goes next call new
    → IsAskedAgain call old new
again call first old gone next new twice is went opened goes = record {
  twice = twice;
  gone = gone;
  next = next;
  failed_first = subst (λ (c : Call). Goes old c gone) is went;
  opened = opened;
  goes = goes;
}

-- what goes over a connection goes over the one before it, where each call does
pub over_the_same : (old new : Connection) (failed_calls : ℕ) (call : Call) (after : Reopened)
    → ((call : Call) (gone : Connection) → Goes new call gone → Goes old call gone)
    → GoesOver (record { connection = new; failed_calls = failed_calls }) call after → GoesOver (record { connection = old; failed_calls = failed_calls }) call after
over_the_same old new failed_calls call after each (inl went) = inl (each call after.connection went)
over_the_same old new failed_calls call after each (inr asked) = inr (record {
  twice = asked.twice;
  gone = asked.gone;
  next = asked.next;
  failed_first = each (failed call) asked.gone asked.failed_first;
  opened = asked.opened;
  goes = asked.goes;
})

-- a call that failed, and then is answered over the next connection
pub asked_twice : (inside old : Reopened) (gone last : Connection) (opened second new : Reopened) (first told call : Call) → inside ≡ old
    → CanBeAskedTwice call → Goes inside.connection first gone → first ≡ failed call → IsNew gone.terms opened.connection → second ≡ opened
    → Goes second.connection told last → new.connection ≡ last → told ≡ call → GoesOver old call new
asked_twice inside old gone last opened second new first told call is can went failed_first is_new is_second goes stays same =
    let over : Goes opened.connection told last = subst (λ (r : Reopened). Goes r.connection told last) is_second goes in
    inr (again call first old.connection gone opened.connection new.connection can failed_first
    (subst (λ (r : Reopened). Goes r.connection first gone) is went) is_new
    (subst (λ (c : Connection). Goes opened.connection call c) (sym stays) (subst (λ (k : Call). Goes opened.connection k last) same over)))
