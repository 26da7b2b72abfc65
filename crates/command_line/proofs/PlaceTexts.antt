-- Places, and what names them.
use Rattle.std.proofs.Common.{◌≡◌, ◌≢◌, ◌∙◌, refl, sym, ap, subst, ℕ, suc, ◌<◌, ◌≤◌, arith, Bool, true, false, [], ◌∷◌, ◌++◌, length, drop, get_or, All, Option, Some, None, inl, inr}
use Rattle.std.specs.Borrow.{Bor}
use Rattle.std.specs.Prelude.{codes, IfSome, IfNone, IsTrue, MatchOption, is_some}
use Rattle.std.proofs.lemmas.List.{append_cancel_right}
use Rattle.std.proofs.lemmas.Str.Pattern.{IsSplitOnceResult, split_after, split_parts}
use Rattle.clap.specs.Words.{Text}
use Rattle.command_line.specs.Numbers.{IsNumber}
use Rattle.command_line.specs.Places.{is_name_byte, IsName, IsNamed, IsPlace, NamesPlace}

-- a URL is no place, since it has the byte `/`
url-slash : (rest : Text) → All (λ byte. byte ≢ 47) (codes "http://" ++ rest) → ⊥
url-slash rest none = none 5 0 (omega arith) refl

url-behind : (a b : Text) → codes "http://" ++ a ≡ codes "http://" ++ b → a ≡ b
url-behind a b same = ap (drop 7) same

-- a URL without the path of a database names what is behind its scheme, where that is a place
pub no-place-behind : (text url place : Text) → text ≡ codes "http://" ++ url → ((front : Text) → url ≢ front ++ codes "/db") → (IsPlace url → ⊥) → NamesPlace text place → ⊥
no-place-behind text url place is none refused (is_place, inl same) =
    url-slash url (subst (All (λ byte. byte ≢ 47)) (sym same ∙ is) is_place.no_path)
no-place-behind text url place is none refused (is_place, inr (inl same)) =
    refused (subst IsPlace (url-behind place url (sym same ∙ is)) is_place)
no-place-behind text url place is none refused (is_place, inr (inr same)) =
    none place (url-behind url (place ++ codes "/db") (sym is ∙ same))

-- ---- one place

place-slash : (front : Text) → All (λ byte. byte ≢ 47) (front ++ codes "/db") → ⊥
place-slash [] none = none 0 0 (omega arith) refl
place-slash (byte ∷ front) none = place-slash front (λ k d less. none (suc k) d (omega (arith, less)))

-- a text names one place
pub one-place : (text a b : Text) → NamesPlace text a → NamesPlace text b → a ≡ b
one-place text a b (is_a, inl one) (is_b, inl two) = sym one ∙ two
one-place text a b (is_a, inl one) (is_b, inr (inl two)) = absurd (url-slash b (subst (All (λ byte. byte ≢ 47)) (sym one ∙ two) is_a.no_path))
one-place text a b (is_a, inl one) (is_b, inr (inr two)) = absurd (url-slash (b ++ codes "/db") (subst (All (λ byte. byte ≢ 47)) (sym one ∙ two) is_a.no_path))
one-place text a b (is_a, inr (inl one)) (is_b, inl two) = absurd (url-slash a (subst (All (λ byte. byte ≢ 47)) (sym two ∙ one) is_b.no_path))
one-place text a b (is_a, inr (inl one)) (is_b, inr (inl two)) = url-behind a b (sym one ∙ two)
one-place text a b (is_a, inr (inl one)) (is_b, inr (inr two)) =
    absurd (place-slash b (subst (All (λ byte. byte ≢ 47)) (url-behind a (b ++ codes "/db") (sym one ∙ two)) is_a.no_path))
one-place text a b (is_a, inr (inr one)) (is_b, inl two) = absurd (url-slash (a ++ codes "/db") (subst (All (λ byte. byte ≢ 47)) (sym two ∙ one) is_b.no_path))
one-place text a b (is_a, inr (inr one)) (is_b, inr (inl two)) =
    absurd (place-slash a (subst (All (λ byte. byte ≢ 47)) (url-behind b (a ++ codes "/db") (sym two ∙ one)) is_b.no_path))
one-place text a b (is_a, inr (inr one)) (is_b, inr (inr two)) =
    append_cancel_right a b (codes "/db") (url-behind (a ++ codes "/db") (b ++ codes "/db") (sym one ∙ two))

-- ---- the name of a host and a port

colon-is-no-name : is_name_byte 58 ≡ true → ⊥
colon-is-no-name h = cc

at-place : (bytes : Text) (i : ℕ) → All (λ byte. is_name_byte byte ≡ true) bytes → i < length bytes → is_name_byte (get_or bytes i 0) ≡ true
at-place bytes i all less = all i 0 less

no-colon : (host : Text) → IsName host → (i : ℕ) → i < length host → get_or host i 0 ≢ 58
no-colon host name i less = λ same. colon-is-no-name (subst (λ (b : ℕ). is_name_byte b ≡ true) same (at-place host i name.bytes less))

-- where no colon is, there is no name with a port
pub not-named : (text : Text) (r : Option (Bor Text × Bor Text)) → IsSplitOnceResult 58 text r → r ≡ None → IsNamed text → ⊥
not-named text r split none named =
    subst (λ (r : Option (Bor Text × Bor Text)). MatchOption r ⊥ (λ x. (x.0.now ≡ named.host) × (x.1.now ≡ named.port))) none
    (split_after 58 text named.host named.port r split (omega arith) named.written (no-colon named.host named.name))

-- the host and the port are what the first colon parts
pub parts-are : (text : Text) (r : Option (Bor Text × Bor Text)) (x : Bor Text × Bor Text) → IsSplitOnceResult 58 text r → r ≡ Some x → (named : IsNamed text)
    → (x.0.now ≡ named.host) × (x.1.now ≡ named.port)
parts-are text r x split some named =
    subst (λ (r : Option (Bor Text × Bor Text)). MatchOption r ⊥ (λ x. (x.0.now ≡ named.host) × (x.1.now ≡ named.port))) some
    (split_after 58 text named.host named.port r split (omega arith) named.written (no-colon named.host named.name))

pub parted : (text : Text) (r : Option (Bor Text × Bor Text)) (x : Bor Text × Bor Text) → IsSplitOnceResult 58 text r → r ≡ Some x → text ≡ x.0.now ++ 58 ∷ x.1.now
parted text r x split some =
    (subst (λ (r : Option (Bor Text × Bor Text)). MatchOption r ((i : ℕ) → i < length text → get_or text i 0 ≢ 58) (λ x. (text ≡ x.0.now ++ 58 ∷ x.1.now) × ((i : ℕ) → i < length x.0.now → get_or x.0.now i 0 ≢ 58))) some
    (split_parts 58 text r split (omega arith))).0

-- a text whose first colon has a host before it is named just where a number of a port is behind it
pub named-is : (text : Text) (r : Option (Bor Text × Bor Text)) (x : Bor Text × Bor Text) (n : Option ℕ) → IsSplitOnceResult 58 text r → r ≡ Some x → IsName x.0.now
    → IfSome n (IsNumber x.1.now) → IfSome n (λ number. (0 ≤ number) × (number ≤ 65535))
    → IfNone n ((number : ℕ) → IsNumber x.1.now number → 0 ≤ number → number ≤ 65535 → ⊥)
    → (IsTrue (is_some n) → IsNamed text) × (IsNamed text → IsTrue (is_some n))
named-is text r x (Some k) split some name is within none = (
  λ _. record {
    host = x.0.now;
    port = x.1.now;
    written = parted text r x split some;
    name = name;
    number = (k, is, within.1);
  },
  λ _. refl,
)
named-is text r x None split some name is within none = (
  λ t. cc,
  λ named. absurd (none named.number.0 (subst (λ (port : Text). IsNumber port named.number.0) (sym (parts-are text r x split some named).1) named.number.1) (omega arith) named.number.2),
)

-- a text whose first colon has no host before it isn't named
pub no-host : (text : Text) (r : Option (Bor Text × Bor Text)) (x : Bor Text × Bor Text) → IsSplitOnceResult 58 text r → r ≡ Some x → (IsName x.0.now → ⊥) → IsNamed text → ⊥
no-host text r x split some none named = none (subst IsName (sym (parts-are text r x split some named).0) named.name)

pub either : (b : Bool) → b ≡ false → b ≡ true → ⊥
either b is_false is_true = cc

-- what refutes one thing refutes what comes of it
pub none-more : {T : Type 0} (A B : Type 0) (r : Option T) → (A → B) → IfNone r A → IfNone r B
none-more A B None more none = more none
none-more A B (Some x) more none = none
