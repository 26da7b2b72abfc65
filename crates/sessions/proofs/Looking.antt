-- Looks one after another, and a call after a look.
use Rattle.std.proofs.Common.{◌≡◌, ℕ, ◌+◌, ◌-◌, ◌^◌, min, Bool, true, [], ◌∷◌, ◌++◌, length, refl, ap, sym, ◌∙◌, subst, add-one}
use Rattle.std.proofs.lemmas.List.{append-nil}
use Rattle.std.specs.Prelude.{Result, Ok, Err, Option, Some, None, IfOk, IfErr, IfSome, IfNone, IsErrAnd}
use Rattle.model.specs.Command.{Command}
use Rattle.model.specs.Database.{Database}
use Rattle.model.specs.History.{IsLegal, Chronicle, Extends, base_of}
use Rattle.model.specs.World.{Config}
use Rattle.version_log.proofs.Prefixes.{prefix_self, prefix_trans}
use Rattle.sessions.specs.Known.{Known, seen, SeesOwn}
use Rattle.sessions.specs.Calls.{Looks, Told, Writes, next_seat}
use Rattle.updater_state.specs.Callers.{risen}
use Rattle.sessions.specs.Compactions.{OnlyLooks, Leaves, LeavesTry}
use Rattle.sessions.specs.Faults.{IsOfCompaction, IsOfCopy}
use Rattle.sessions.specs.declared.fault.Fault.{Fault}
use Rattle.sessions.specs.declared.fault.Fault.TheVariants as fault

pub looks_self : (base : Option Database) (k : Known) → IsLegal (base_of base) (seen k) → SeesOwn k → Looks base k k
looks_self base k legal own = record { legal = legal; extends = prefix_self (seen k); own = own; same = refl }

pub looks_then : (base : Option Database) (a b c : Known) → Looks base a b → Looks base b c → Looks base a c
looks_then base a b c p q = record {
  legal = q.legal;
  extends = prefix_trans (seen a) (seen b) (seen c) p.extends q.extends;
  own = q.own;
  same = q.same ∙ ap (λ (k : Known). record k { published = c.published; waited = c.waited }) p.same;
}

-- a look that a wait counts
pub looks_counted : (base : Option Database) (a b : Known) (looks : ℕ) → Looks base a b → Looks base a (record b { waited = looks })
looks_counted base a b looks p = record {
  legal = p.legal;
  extends = p.extends;
  own = p.own;
  same = ap (λ (k : Known). record k { waited = looks }) p.same;
}

-- the same of sessions whose calls came to this
with_calls : (base : Option Database) (a b : Known) (tried entered : ℕ) (lost : Bool) → Looks base a b → Looks base (record a { tried = tried; entered = entered; lost = lost }) (record b { tried = tried; entered = entered; lost = lost })
with_calls base a b tried entered lost p = record {
  legal = p.legal;
  extends = p.extends;
  own = p.own;
  same = ap (λ (k : Known). record k { tried = tried; entered = entered; lost = lost }) p.same;
}

with_tries : (base : Option Database) (a b : Known) (tried : ℕ) → Looks base a b → Looks base (record a { tried = tried }) (record b { tried = tried })
with_tries base a b tried p = record {
  legal = p.legal;
  extends = p.extends;
  own = p.own;
  same = ap (λ (k : Known). record k { tried = tried }) p.same;
}

tried_as : (base : Option Database) (a b : Known) → Looks base a b → b.tried ≡ a.tried
tried_as base a b p = ap (λ (k : Known). k.tried) p.same

pub only_looks_then : (base : Option Database) (a b c : Known) → Looks base a b → OnlyLooks base b c → OnlyLooks base a c
only_looks_then base a b c p q = looks_then base (record a { tried = c.tried }) (record b { tried = c.tried }) c (with_tries base a b c.tried p) q

-- ---- tries

-- a look, and a try that was behind
pub tried_then : (base : Option Database) (a b c : Known) → Looks base a b → c ≡ record b { tried = risen b.tried 1 } → Looks base (record a { tried = risen a.tried 1 }) c
tried_then base a b c p is =
    let this : record b { tried = risen a.tried 1 } ≡ c = (λ i. record b { tried = risen (sym (tried_as base a b p) i) 1 }) ∙ sym is in
    subst (Looks base (record a { tried = risen a.tried 1 })) this (with_tries base a b (risen a.tried 1) p)

pub try_behind : (base : Option Database) (r : Result (Option Told) Fault) (a b c : Known) → Looks base a b → IfOk r (λ found. IfNone found (c ≡ record b { tried = risen b.tried 1 })) → IfOk r (λ found. IfNone found (Looks base (record a { tried = risen a.tried 1 }) c))
try_behind base (Ok (Some t)) a b c p is = tt
try_behind base (Ok None) a b c p is = tried_then base a b c p is
try_behind base (Err e) a b c p is = tt

-- after a try that was behind, which had only looked before
pub only_looks_more : (base : Option Database) (a b c : Known) → OnlyLooks base a b → Looks base (record b { tried = risen b.tried 1 }) c → OnlyLooks base a c
only_looks_more base a b c p q =
    let counted = tried_as base (record b { tried = risen b.tried 1 }) c q in
    only_looks_then base (record a { tried = b.tried }) b c p (subst (λ (n : ℕ). Looks base (record b { tried = n }) c) (sym counted) q)

-- a count that rose as often as there were tries, and once more
pub risen_more : (count times n : ℕ) → n ≡ risen count times → risen n 1 ≡ risen count (times + 1)
risen_more count times n is = ap (λ (m : ℕ). min (m + 1) (2 ^ 64 - 1)) is ∙ sym (ap (risen count) (add-one times))

lost_then : (base : Option Database) (a b c : Known) → Looks base a b → Looks base (record b { tried = c.tried; entered = c.entered; lost = true }) c → Looks base (record a { tried = c.tried; entered = c.entered; lost = true }) c
lost_then base a b c p q =
    looks_then base (record a { tried = c.tried; entered = c.entered; lost = true }) (record b { tried = c.tried; entered = c.entered; lost = true }) c (with_calls base a b c.tried c.entered true p) q

-- a fault of a try after a look
pub leaves_try_then : (base : Option Database) (config : Config) (e : Fault) (a b c : Known) → Looks base a b → LeavesTry base config e b c → LeavesTry base config e a c
leaves_try_then base config fault.Busy a b c p q = q
leaves_try_then base config fault.Behind a b c p q = q
leaves_try_then base config fault.Lost a b c p q = lost_then base a b c p q
leaves_try_then base config fault.Full a b c p q = (only_looks_then base a b c p q.0, q.1)
leaves_try_then base config fault.Memory a b c p q = only_looks_then base a b c p q
leaves_try_then base config fault.EntryRefused a b c p q = only_looks_then base a b c p q
leaves_try_then base config fault.Overrun a b c p q = only_looks_then base a b c p q

-- a fault of a try after tries that were behind is one of the compaction
pub leaves_tried : (base : Option Database) (config : Config) (e : Fault) (a b c : Known) → OnlyLooks base a b → LeavesTry base config e b c → Leaves base config e a c
leaves_tried base config fault.Busy a b c p q = q
leaves_tried base config fault.Behind a b c p q = absurd q
leaves_tried base config fault.Lost a b c p q = lost_then base (record a { tried = b.tried }) b c p q
leaves_tried base config fault.Full a b c p q = (only_looks_then base (record a { tried = b.tried }) b c p q.0, q.1)
leaves_tried base config fault.Memory a b c p q = only_looks_then base (record a { tried = b.tried }) b c p q
leaves_tried base config fault.EntryRefused a b c p q = only_looks_then base (record a { tried = b.tried }) b c p q
leaves_tried base config fault.Overrun a b c p q = only_looks_then base (record a { tried = b.tried }) b c p q

-- a fault of a compaction after a look
pub leaves_then : (base : Option Database) (config : Config) (e : Fault) (a b c : Known) → Looks base a b → Leaves base config e b c → Leaves base config e a c
leaves_then base config fault.Busy a b c p q = q
leaves_then base config fault.Lost a b c p q = lost_then base a b c p q
leaves_then base config fault.Full a b c p q = (only_looks_then base a b c p q.0, q.1)
leaves_then base config fault.Memory a b c p q = only_looks_then base a b c p q
leaves_then base config fault.EntryRefused a b c p q = only_looks_then base a b c p q
leaves_then base config fault.Behind a b c p q = (only_looks_then base a b c p q.0, q.1 ∙ ap (λ (n : ℕ). risen n config.tries) (tried_as base a b p))
leaves_then base config fault.Overrun a b c p q = only_looks_then base a b c p q

pub leaves-of_compaction : (base : Option Database) (config : Config) (e : Fault) (a b : Known) → Leaves base config e a b → IsOfCompaction e
leaves-of_compaction base config fault.Busy a b q = absurd q
leaves-of_compaction base config fault.Lost a b q = tt
leaves-of_compaction base config fault.Full a b q = tt
leaves-of_compaction base config fault.Memory a b q = tt
leaves-of_compaction base config fault.EntryRefused a b q = tt
leaves-of_compaction base config fault.Behind a b q = tt
leaves-of_compaction base config fault.Overrun a b q = tt

pub writes_then : (base : Option Database) (a b c : Known) (command : Command) (receipt : Told) → Looks base a b → Writes base b command receipt c → Writes base a command receipt c
writes_then base a b c command receipt p w = record {
  legal = w.legal;
  extends = prefix_trans (seen a) (seen b) (seen c) p.extends w.extends;
  seat = w.seat ∙ ap next_seat p.same;
  told = w.told;
  receipts = w.receipts ∙ ap (λ (k : Known). k.receipts ++ record { seat = receipt.seat; command = command; reply = receipt.reply } ∷ []) p.same;
  only = w.only;
  first = w.first;
  bound = w.bound;
  counted = w.counted;
  same = w.same ∙ ap (λ (k : Known). record k { published = c.published; receipts = c.receipts; pushes = c.pushes; waited = c.waited; tried = c.tried; entered = length c.receipts }) p.same;
}

-- a fault that is answered, after a look
pub leaves_of : {X : Type 0} (base : Option Database) (config : Config) (r : Result X Fault) (e : Fault) (a b c : Known) → Looks base a b → IfErr r (λ f. Leaves base config f b c) → r ≡ Err e → Leaves base config e a c
leaves_of base config (Ok x) e a b c p fault is = absurd (cc)
leaves_of base config (Err f) e a b c p fault is = let same : f ≡ e = cc in leaves_then base config e a b c p (subst (λ (q : Fault). Leaves base config q b c) same fault)

-- ---- faults of a copy

pub of_copy-leaves : (base : Option Database) (config : Config) (e : Fault) (a b : Known) → IsOfCopy e → OnlyLooks base a b → LeavesTry base config e a b
of_copy-leaves base config fault.Busy a b h p = absurd h
of_copy-leaves base config fault.Lost a b h p = absurd h
of_copy-leaves base config fault.Full a b h p = absurd h
of_copy-leaves base config fault.EntryRefused a b h p = absurd h
of_copy-leaves base config fault.Behind a b h p = absurd h
of_copy-leaves base config fault.Memory a b h p = p
of_copy-leaves base config fault.Overrun a b h p = p

-- ---- faults that are passed on

pub passed_with : {X : Type 0} (P : Fault → Type 0) (r : Result X Fault) (e : Fault) → IsErrAnd r (λ f. f ≡ e) → P e → IfErr r P
passed_with P (Ok x) e is p = absurd is
passed_with P (Err f) e is p = subst P (sym is) p

-- ---- a try after a look

pub try_receipt : (base : Option Database) (r : Result (Option Told) Fault) (a b c : Known) (command : Command) → Looks base a b → IfOk r (λ found. IfSome found (λ t. Writes base b command t c)) → IfOk r (λ found. IfSome found (λ t. Writes base a command t c))
try_receipt base (Ok (Some t)) a b c command p w = writes_then base a b c command t p w
try_receipt base (Ok None) a b c command p w = tt
try_receipt base (Err e) a b c command p w = tt

pub receipt_then : (base : Option Database) (r : Result Told Fault) (a b c : Known) (command : Command) → Looks base a b → IfOk r (λ t. Writes base b command t c) → IfOk r (λ t. Writes base a command t c)
receipt_then base (Ok t) a b c command p w = writes_then base a b c command t p w
receipt_then base (Err e) a b c command p w = tt

-- a history goes on from itself
pub Extends-same : (later earlier : Chronicle) → earlier ≡ later → Extends later earlier
Extends-same later earlier is = record {
  base = ap (λ (h : Chronicle). h.base) (sym is);
  more = [];
  entries = ap (λ (h : Chronicle). h.entries) (sym is) ∙ sym (append-nil earlier.entries);
}

pub try_follows : (r : Result (Option Told) Fault) (h now : Chronicle) → IfOk r (λ found. IfNone found (h ≡ now)) → IfOk r (λ found. IfNone found (Extends now h))
try_follows (Ok (Some t)) h now is = tt
try_follows (Ok None) h now is = Extends-same now h is
try_follows (Err e) h now is = tt
