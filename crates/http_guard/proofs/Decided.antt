-- What became of the items of an input stays when more bytes have come, and one more item is read.
use Rattle.std.proofs.Common.{◌≡◌, ℕ, ◌<◌, Bool, true, List, [], ◌∷◌, ◌++◌, length, take, refl, ap, sym, subst, append_assoc, arith, is_ok, IfOk, OnErr, ◌∙◌, Option, Result, Ok, Err}
use Rattle.std.specs.Prelude.{All, IsFalse}
use Rattle.std.specs.List.{FoldsTo}
use Rattle.std.specs.Io.KnownBytes.{Appends}
use Rattle.streams.specs.Counts.{CountRose, CountsFailure}
use Rattle.streams.specs.Writes.{Writes}
use Rattle.std.proofs.lemmas.List.Elements.{All-head, All-tail}
use Rattle.http_framing.specs.Request.{BeginsWithHead}
use Rattle.http_framing.specs.Input.{Item, Requested, Refused, Begins, closes_connection}
use Rattle.http_framing.proofs.More.{BeginsWithHead-append}
use Rattle.origin_policy.specs.Verdict.{Decision}
use Rattle.origin_policy.specs.declared.policy.Policy.{Policy}
use Rattle.http_guard.specs.Passage.{Passage, IsDecided, SplitsDecided, decision_by, turn_of}

-- the connection goes on after the item
abbrev pub IsOpen : Passage → Type 0
IsOpen passage = IsFalse (closes_connection (turn_of passage).item)

abbrev pub AreOpen : List Passage → Type 0
AreOpen passages = All IsOpen passages

-- what is decided is there
pub begins-decided : (policy : Policy) (bytes : List ℕ) (item : Item) (decision : Decision) (after : List ℕ) → IsDecided policy bytes item decision after → Begins bytes item after
begins-decided policy bytes (Requested request) decision after (head, begins, asked, is) = (head, begins, asked)
begins-decided policy bytes (Refused fault) decision after (refused, none, is) = (refused, none)

IsDecided-append : (policy : Policy) (bytes more : List ℕ) (item : Item) (decision : Decision) (after : List ℕ) → IsFalse (closes_connection item)
    → IsDecided policy bytes item decision after → IsDecided policy (bytes ++ more) item decision (after ++ more)
IsDecided-append policy bytes more (Requested request) decision after opens (head, begins, asked, is) =
    let P : List ℕ → Type 0 = BeginsWithHead (bytes ++ more) head in
    (head, subst P (append_assoc request.body after more) (BeginsWithHead-append bytes head (request.body ++ after) more begins), asked, is)
IsDecided-append policy bytes more (Refused fault) decision after opens decided = absurd (cc)

pub SplitsDecided-append : (policy : Policy) (bytes more : List ℕ) (passages : List Passage) (rest : List ℕ) → AreOpen passages
    → SplitsDecided policy bytes passages rest → SplitsDecided policy (bytes ++ more) passages (rest ++ more)
SplitsDecided-append policy bytes more [] rest are_open splits = ap (λ (x : List ℕ). x ++ more) splits
SplitsDecided-append policy bytes more (passage ∷ passages) rest are_open (after, decided, last, splits) = (
  after ++ more,
  IsDecided-append policy bytes more (turn_of passage).item (decision_by passage) after (All-head IsOpen passage passages are_open) decided,
  last,
  SplitsDecided-append policy after more passages rest (All-tail IsOpen passage passages are_open) splits,
)

pub SplitsDecided-push : (policy : Policy) (bytes : List ℕ) (passages : List Passage) (rest : List ℕ) (passage : Passage) (after : List ℕ) → AreOpen passages
    → SplitsDecided policy bytes passages rest → IsDecided policy rest (turn_of passage).item (decision_by passage) after
    → SplitsDecided policy bytes (passages ++ passage ∷ []) after
SplitsDecided-push policy bytes [] rest passage after are_open splits decided =
    (after, subst (λ (x : List ℕ). IsDecided policy x (turn_of passage).item (decision_by passage) after) (sym splits) decided, λ last. refl, refl)
SplitsDecided-push policy bytes (first ∷ passages) rest passage after are_open (middle, starts, last, splits) decided =
    let opens = All-head IsOpen first passages are_open in (
      middle,
      starts,
      λ closes. absurd (cc (opens, closes)),
      SplitsDecided-push policy middle passages rest passage after (All-tail IsOpen first passages are_open) splits decided,
    )

-- steps behind steps
pub FoldsTo-append : {P A : Type 0} (R : P → A → P → Type 0) (xs ys : List A) (p q r : P) → FoldsTo R p xs q → FoldsTo R q ys r → FoldsTo R p (xs ++ ys) r
FoldsTo-append R [] ys p q r same more = subst (λ (s : _). FoldsTo R s ys r) (sym same) more
FoldsTo-append R (x ∷ xs) ys p q r (mid, step, steps) more = (mid, step, FoldsTo-append R xs ys mid q r steps more)

-- ---- a response that was cut is not empty

pub never_cut : {whole : Bool} {n : ℕ} → whole ≡ true → IsFalse whole → 0 < n
never_cut is cut = absurd (cc)

pub cut_of_some : {A E : Type 0} {whole : Bool} (before after : Option (List ℕ)) (text : List ℕ) (r : Result A E) → OnErr r ((n : ℕ) × (n < length text) × Appends before after (take n text)) → whole ≡ is_ok r → IsFalse whole → 0 < length text
cut_of_some before after text (Ok x) part is cut = never_cut is cut
cut_of_some before after text (Err e) part is cut = omega (arith, part.1)

-- ---- what was answered here

-- what says whether the connection closes fails where the write does
pub writes-too : {A B E F : Type 0} (before after : Option (List ℕ)) (text : List ℕ) (written : Result A E) (r : Result B F) → is_ok r ≡ is_ok written → Writes before after written text
    → Writes before after r text
writes-too before after text (Ok x) (Ok y) same writes = writes
writes-too before after text (Ok x) (Err f) same writes = absurd (cc)
writes-too before after text (Err e) (Ok y) same writes = absurd (cc)
writes-too before after text (Err e) (Err f) same writes = writes

-- ---- by what a call answered

pub whole-here : {A E : Type 0} (before after : Option (List ℕ)) (text : List ℕ) (r : Result A E) (x : A) → r ≡ Ok x → Writes before after r text → Appends before after text
whole-here before after text (Ok y) x is writes = writes.0
whole-here before after text (Err e) x is writes = absurd (cc)

pub cut-here : {A E : Type 0} (before after : Option (List ℕ)) (text : List ℕ) (r : Result A E) (e : E) → r ≡ Err e → Writes before after r text
    → (n : ℕ) × (n < length text) × Appends before after (take n text)
cut-here before after text (Ok x) e is writes = absurd (cc)
cut-here before after text (Err y) e is writes = writes.1

pub same-here : {A E : Type 0} (old new : ℕ) (r : Result A E) (x : A) → r ≡ Ok x → CountsFailure old new r → new ≡ old
same-here old new (Ok y) x is counts = counts.0
same-here old new (Err e) x is counts = absurd (cc)

pub rose-here : {A E : Type 0} (old new : ℕ) (r : Result A E) (e : E) → r ≡ Err e → CountsFailure old new r → CountRose old new
rose-here old new (Ok x) e is counts = absurd (cc)
rose-here old new (Err y) e is counts = counts.1

ok-is : {E : Type 0} (x y : Bool) (r : Result Bool E) → r ≡ Ok x → r ≡ Ok y → x ≡ y
ok-is x y r one two = cc

pub closes-here : {E : Type 0} (r : Result Bool E) (b closes : Bool) → r ≡ Ok b → IfOk r (λ c. c ≡ closes) → b ≡ closes
closes-here (Ok c) b closes is same = ok-is b c (Ok c) is refl ∙ same
closes-here (Err e) b closes is same = absurd (cc)
