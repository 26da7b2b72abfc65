-- Query strings, and the parameters in them.
use Rattle.std.proofs.Common.{◌≡◌, List, [], ◌∷◌, ℕ, map, refl, ap, ◌∙◌, All, IsUtf8}
use Rattle.std.proofs.lemmas.List.Elements.{All-head, All-tail, All-weaker}
use Rattle.std.proofs.lemmas.Str.{utf8_lossy-IsUtf8}
use Rattle.std.specs.Str.Lossy.{utf8_lossy}
use Rattle.form_urlencoded.specs.Form.{decode, extend_pairs, raw_pairs}
use Rattle.form_urlencoded.proofs.FormLemmas.{IsBytePair, round_trip}
use Rattle.http_routing.specs.Query.{decoded_pair, parameters_of}
use Rattle.replicator_laws.proofs.Bytes.{bytes_of_text}

abbrev Pair : Type 0
Pair = List ℕ × List ℕ

-- both are texts
abbrev pub AreTexts : List ℕ × List ℕ → Type 0
AreTexts pair = IsUtf8 pair.0 × IsUtf8 pair.1

abbrev lossy_pair : Pair → Pair
lossy_pair pair = (utf8_lossy pair.0, utf8_lossy pair.1)

in_two : (pairs : List Pair) → map decoded_pair pairs ≡ map lossy_pair (map (λ p. (decode p.0, decode p.1)) pairs)
in_two [] = refl
in_two (pair ∷ pairs) = ap (λ (rest : List Pair). decoded_pair pair ∷ rest) (in_two pairs)

kept : (pairs : List Pair) → All AreTexts pairs → map lossy_pair pairs ≡ pairs
kept [] texts = refl
kept (pair ∷ pairs) texts =
    let here = All-head AreTexts pair pairs texts in
    λ i. (utf8_lossy-IsUtf8 pair.0 here.0 i, utf8_lossy-IsUtf8 pair.1 here.1 i) ∷ kept pairs (All-tail AreTexts pair pairs texts) i

pub read_pairs : (pairs : List (List ℕ × List ℕ)) → All AreTexts pairs → parameters_of (extend_pairs [] pairs) ≡ pairs
unfolding parameters_of
read_pairs pairs texts =
    in_two (raw_pairs (extend_pairs [] pairs))
    ∙ ap (map lossy_pair) (round_trip pairs (All-weaker AreTexts IsBytePair (λ pair h. (bytes_of_text pair.0 h.0, bytes_of_text pair.1 h.1)) pairs texts))
    ∙ kept pairs texts
