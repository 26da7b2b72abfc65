-- An input is read in one way.
use Rattle.std.proofs.Common.{◌≡◌, ℕ, ◌+◌, ◌-◌, List, [], ◌∷◌, ◌++◌, length, take, drop, refl, ap, sym, ◌∙◌, subst, arith, Result, Ok, inl, inr, ◌⊎◌}
use Rattle.std.proofs.Math.Seq.{take-append_seam, drop-append_seam, take-append-add}
use Rattle.httparse.specs.Grammar.{RequestHead, print_request, ReadsRequest, MayBecomeRequest}
use Rattle.httparse.proofs.GrammarLemmas.{request_unique, ReadsRequest-append}
use Rattle.http_framing.specs.Headers.{headers_of}
use Rattle.http_framing.specs.Body.{body_length}
use Rattle.http_framing.specs.Request.{head_limit, header_limit, Request, IsAskedBy, BeginsWithHead, BeginsWithRequest}
use Rattle.http_framing.specs.Refusal.{head_window, HasLargeHead, HasNoHead, HasBadBody, IsRefused}
use Rattle.http_framing.specs.Input.{Item, Requested, Refused, Begins, Splits, EndsInHead, IsUnfinished}
use Rattle.http_framing.proofs.Heads.{head_window-short}
use Rattle.http_framing.proofs.ManyHeaders.{no_head_with_room}
use Rattle.http_framing.specs.declared.FramingFault.{FramingFault}
use Rattle.http_framing.specs.declared.FramingFault.TheVariants.{Head, LargeHead, TransferEncoding, ContentLength, LargeBody}

-- two lists that are as long begin the same list alike
same_front : (a b x y : List ℕ) → length a ≡ length b → a ++ x ≡ b ++ y → (a ≡ b) × (x ≡ y)
same_front a b x y n e = (
  sym (take-append_seam a x) ∙ ap (λ (k : ℕ). take k (a ++ x)) n ∙ ap (take (length b)) e ∙ take-append_seam b y,
  sym (drop-append_seam a x) ∙ ap (λ (k : ℕ). drop k (a ++ x)) n ∙ ap (drop (length b)) e ∙ drop-append_seam b y,
)

one_length : (m n : ℕ) (length : Result ℕ FramingFault) → length ≡ Ok m → length ≡ Ok n → m ≡ n
one_length m n length e f = cc

same_request : (r q : Request) → r.method ≡ q.method → r.target ≡ q.target → r.body ≡ q.body → r.closes ≡ q.closes → r ≡ q
same_request r q method target body closes =
    λ i. record { method = method i; target = target i; body = body i; closes = closes i }

-- the bytes begin with one request
pub one_request : (bytes : List ℕ) (r q : Request) (x y : List ℕ) → BeginsWithRequest bytes r x → BeginsWithRequest bytes q y
    → (r ≡ q) × (x ≡ y)
one_request bytes r q x y (h, b, of_h) (k, c, of_k) =
    let heads = request_unique bytes h k (r.body ++ x) (q.body ++ y) b.reads c.reads in
    let P : RequestHead → Type 0 = λ head. IsAskedBy head r in
    let of_k' = subst P heads.0 of_h in
    let size = one_length (length r.body) (length q.body) (body_length (headers_of k)) of_k'.body of_k.body in
    let parts = same_front r.body q.body x y size heads.1 in
    (same_request r q (of_k'.method ∙ sym of_k.method) (of_k'.target ∙ sym of_k.target) parts.0 (of_k'.closes ∙ sym of_k.closes), parts.1)

-- a head that keeps the limits is in the first bytes
pub head_in_window : (bytes : List ℕ) (head : RequestHead) (after : List ℕ) → BeginsWithHead bytes head after
    → (rest : List ℕ) × ReadsRequest (head_window bytes) head rest
head_in_window bytes head after begins =
    let left : ℕ = head_limit - length (print_request head) in
    let fits : length (print_request head) + left ≡ head_limit = omega (arith, begins.size) in
    let P : ℕ → Type 0 = λ n. take n (print_request head ++ after) ≡ print_request head ++ take left after in
    (take left after, (begins.reads.0, ap (take head_limit) begins.reads.1 ∙ subst P fits (take-append-add (print_request head) after left)))

-- the fault is about the head
abbrev IsHeadFault : FramingFault → Type 0
IsHeadFault fault = (fault ≡ Head) ⊎ (fault ≡ LargeHead)

-- a head that keeps the limits is not refused
head_not_refused : (bytes : List ℕ) (head : RequestHead) (after : List ℕ) (fault : FramingFault) → BeginsWithHead bytes head after
    → IsHeadFault fault → IsRefused bytes fault → ⊥
head_not_refused bytes head after fault begins (inl never) refused =
    let inner = head_in_window bytes head after begins in
    (subst (IsRefused bytes) never refused).0 [] head _ (ReadsRequest-append _ head inner.0 [] inner.1)
head_not_refused bytes head after fault begins (inr large) refused =
    no_large (subst (IsRefused bytes) large refused)
  where
    no_large : HasLargeHead bytes → ⊥
    no_large (inl (full, none, may)) = let inner = head_in_window bytes head after begins in none head inner.0 inner.1
    no_large (inr exceeds) =
        let inner = head_in_window bytes head after begins in
        no_head_with_room header_limit _ head inner.0 inner.1 begins.headers exceeds

-- a fault is of the head, or of the body after one
head_or_body : (bytes : List ℕ) (fault : FramingFault) → IsRefused bytes fault → IsHeadFault fault ⊎ HasBadBody bytes fault
head_or_body bytes Head refused = inl (inl refl)
head_or_body bytes LargeHead refused = inl (inr refl)
head_or_body bytes TransferEncoding refused = inr refused
head_or_body bytes ContentLength refused = inr refused
head_or_body bytes LargeBody refused = inr refused

one_answer : {A : Type 0} (x y : A) (answer : A) → answer ≡ x → answer ≡ y → x ≡ y
one_answer x y answer e f = sym e ∙ f

-- the length of the body after one head
same_length : (bytes : List ℕ) (h k : RequestHead) (x y : List ℕ) → BeginsWithHead bytes h x → BeginsWithHead bytes k y
    → body_length (headers_of h) ≡ body_length (headers_of k)
same_length bytes h k x y b c = ap (λ (head : RequestHead). body_length (headers_of head)) (request_unique bytes h k x y b.reads c.reads).0

-- what begins with a request is not refused
pub request_not_refused : (bytes : List ℕ) (request : Request) (after : List ℕ) (fault : FramingFault) → BeginsWithRequest bytes request after
    → IsRefused bytes fault → ⊥
request_not_refused bytes request after fault (h, begins, asked) refused =
    not_both (head_or_body bytes fault refused)
  where
    not_both : IsHeadFault fault ⊎ HasBadBody bytes fault → ⊥
    not_both (inl of_head) = head_not_refused bytes h _ fault begins of_head refused
    not_both (inr (k, x, other, bad)) =
        let same = sym asked.body ∙ same_length bytes h k _ x begins other ∙ bad in absurd (cc)

-- no head is too large where there is none
not_large : (bytes : List ℕ) → HasNoHead bytes → HasLargeHead bytes → ⊥
not_large bytes (never, past, few) (inl (full, none, inl (more, head, reads))) = never more head [] reads
not_large bytes (never, past, few) (inl (full, none, inr in_target)) = past in_target
not_large bytes (never, past, few) (inr exceeds) = few exceeds

one_head_fault : (bytes : List ℕ) (f g : FramingFault) → IsHeadFault f → IsHeadFault g → IsRefused bytes f → IsRefused bytes g → f ≡ g
one_head_fault bytes f g (inl e) (inl k) x y = e ∙ sym k
one_head_fault bytes f g (inl e) (inr k) x y = absurd (not_large bytes (subst (IsRefused bytes) e x) (subst (IsRefused bytes) k y))
one_head_fault bytes f g (inr e) (inl k) x y = absurd (not_large bytes (subst (IsRefused bytes) k y) (subst (IsRefused bytes) e x))
one_head_fault bytes f g (inr e) (inr k) x y = e ∙ sym k

-- the bytes are refused for one fault
pub one_fault : (bytes : List ℕ) (f g : FramingFault) → IsRefused bytes f → IsRefused bytes g → f ≡ g
one_fault bytes f g x y = either (head_or_body bytes f x) (head_or_body bytes g y)
  where
    either : IsHeadFault f ⊎ HasBadBody bytes f → IsHeadFault g ⊎ HasBadBody bytes g → f ≡ g
    either (inl of_head) (inl also) = one_head_fault bytes f g of_head also x y
    either (inl of_head) (inr (k, q, begins, bad)) = absurd (head_not_refused bytes k q f begins of_head x)
    either (inr (h, r, begins, bad)) (inl of_head) = absurd (head_not_refused bytes h r g begins of_head y)
    either (inr (h, r, b, bad)) (inr (k, q, c, worse)) =
        let same = sym bad ∙ same_length bytes h k r q b c ∙ worse in cc

-- ---- what is unfinished

-- what begins with a head is not refused but for its body
head_and_fault : (bytes : List ℕ) (head : RequestHead) (after : List ℕ) (len : ℕ) (fault : FramingFault) → BeginsWithHead bytes head after
    → body_length (headers_of head) ≡ Ok len → IsRefused bytes fault → ⊥
head_and_fault bytes head after len fault begins said refused =
    not_both (head_or_body bytes fault refused)
  where
    not_both : IsHeadFault fault ⊎ HasBadBody bytes fault → ⊥
    not_both (inl of_head) = head_not_refused bytes head after fault begins of_head refused
    not_both (inr (k, x, other, bad)) = let same = sym said ∙ same_length bytes head k after x begins other ∙ bad in absurd (cc)

-- what may become a head is not refused
part_and_fault : (bytes : List ℕ) (fault : FramingFault) → EndsInHead bytes → IsHeadFault fault ⊎ HasBadBody bytes fault → IsRefused bytes fault → ⊥
part_and_fault bytes fault (short, none, may, few) (inr (head, after, begins, bad)) refused = none head after begins.reads
part_and_fault bytes fault (short, none, may, few) (inl (inr large)) refused =
    not_full (subst (IsRefused bytes) large refused)
  where
    not_full : HasLargeHead bytes → ⊥
    not_full (inl (full, nothing, more)) = absurd (omega (arith, full, short))
    not_full (inr exceeds) = few exceeds
part_and_fault bytes fault (short, none, may, few) (inl (inl of_head)) refused =
    let none_begins = subst (IsRefused bytes) of_head refused in
    let whole = head_window-short bytes short in
    not_part none_begins (subst MayBecomeRequest (sym whole) may)
  where
    not_part : HasNoHead bytes → MayBecomeRequest (head_window bytes) → ⊥
    not_part (never, past, few) (inl (more, head, reads)) = never more head [] reads
    not_part (never, past, few) (inr in_target) = past in_target

pub unfinished_refused : (bytes : List ℕ) (fault : FramingFault) → IsUnfinished bytes → IsRefused bytes fault → ⊥
unfinished_refused bytes fault (inl part) refused = part_and_fault bytes fault part (head_or_body bytes fault refused) refused
unfinished_refused bytes fault (inr (head, after, len, begins, said, short)) refused =
    head_and_fault bytes head after len fault begins said refused

one_item : (bytes : List ℕ) (item other : Item) (x y : List ℕ) → Begins bytes item x → Begins bytes other y → (item ≡ other) × (x ≡ y)
one_item bytes (Requested r) (Requested q) x y b c = let one = one_request bytes r q x y b c in (ap Requested one.0, one.1)
one_item bytes (Requested r) (Refused g) x y b c = absurd (request_not_refused bytes r x g b c.0)
one_item bytes (Refused f) (Requested q) x y b c = absurd (request_not_refused bytes q y f c b.0)
one_item bytes (Refused f) (Refused g) x y b c = (ap Refused (one_fault bytes f g b.0 c.0), b.1 ∙ sym c.1)

pub one_reading : (bytes : List ℕ) (items others : List Item) (rest after : List ℕ) → Splits bytes items rest → Splits bytes others after
    → length items ≡ length others → (items ≡ others) × (rest ≡ after)
one_reading bytes [] [] rest after s t n = (refl, sym s ∙ t)
one_reading bytes [] (other ∷ others) rest after s t n = absurd (omega arith)
one_reading bytes (item ∷ items) [] rest after s t n = absurd (omega arith)
one_reading bytes (item ∷ items) (other ∷ others) rest after (x, b, last, s) (y, c, end, t) n =
    let one = one_item bytes item other x y b c in
    let P : List ℕ → Type 0 = λ z. Splits z items rest in
    let more = one_reading y items others rest after (subst P one.1 s) t (omega arith) in
    ((λ i. one.0 i ∷ more.0 i), more.1)
