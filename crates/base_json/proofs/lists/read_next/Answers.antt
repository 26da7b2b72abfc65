use Rattle.std.proofs.Common.{◌≡◌, ℕ, List, ◌++◌, Some, sym, ap, ◌∙◌}
use Rattle.std.proofs.lemmas.List.{append_cancel_right}
use Rattle.serde_json.specs.Data.{Data}
use Rattle.serde_json.specs.Written.{compact_text}
use Rattle.model.specs.Profile.{is_whole}
use Rattle.document_json.specs.Text.{json_of}
use Rattle.base_json.specs.Pieces.{IsPiece, behind}
use Rattle.base_json.specs.declared.scan.Place.TheVariants.{Outside}
use Rattle.base_json.proofs.Scans.{scan-object}
use Rattle.base_json.proofs.lists.read_next.Goals as goal

-- what is behind a piece
behind-piece : (d : Data) (text rest : List ℕ) → IsPiece d → text ≡ compact_text d ++ rest → behind Outside 0 text ≡ Some rest
behind-piece d text rest piece is =
    ap (behind Outside 0) (is ∙ ap (λ v. compact_text v ++ rest) piece.is) ∙ scan-object piece.members rest (sym (ap is_whole piece.is) ∙ piece.whole)

-- the text of a piece
piece-text : (d : Data) (text front back rest : List ℕ) → text ≡ compact_text d ++ rest → text ≡ front ++ back → back ≡ rest → front ≡ compact_text d
piece-text d text front back rest is parts same = append_cancel_right front (compact_text d) rest (ap (λ t. front ++ t) (sym same) ∙ sym parts ∙ is)

pub returns-in_default-split_value-clause-found : goal.returns-in_default-split_value-clause-found
returns-in_default-split_value-clause-found g c = λ it rest keeps piece is.
    let left : c.in-Some.text.now ≡ compact_text (g.T.ListItem.data_of it) ++ rest = (let h = c.in-Some.ensures.found (compact_text (g.T.ListItem.data_of it) ++ rest) is in cc) in
    let h = c.in_default-split_value.ensures.behind ∙ behind-piece (g.T.ListItem.data_of it) c.in-Some.text.now rest piece left in
    absurd (cc)

pub returns-in_default-2-clause-found : goal.returns-in_default-2-clause-found
returns-in_default-2-clause-found g c = λ it rest keeps piece is.
    let d = g.T.ListItem.data_of it in
    let left : c.in-Some.text.now ≡ compact_text d ++ rest = (let h = c.in-Some.ensures.found (compact_text d ++ rest) is in cc) in
    let back : c.in-Some-split_value.rest.now ≡ rest = (let h = c.in-Some-split_value.ensures.behind ∙ behind-piece d c.in-Some.text.now rest piece left in cc) in
    let text : c.in-Some-split_value.piece.now ≡ compact_text d = piece-text d c.in-Some.text.now c.in-Some-split_value.piece.now c.in-Some-split_value.rest.now rest left c.in-Some-split_value.ensures.parts back in
    let none = rw c.in_default-2.is at (c.in_ok-value.ensures d (ap json_of text ∙ piece.reads)) in
    absurd (cc)

pub returns-in-Some-3-clause-found : goal.returns-in-Some-3-clause-found
returns-in-Some-3-clause-found g c = λ it rest keeps piece is.
    let d = g.T.ListItem.data_of it in
    let left : c.in-Some.text.now ≡ compact_text d ++ rest = (let h = c.in-Some.ensures.found (compact_text d ++ rest) is in cc) in
    let back : c.in-Some-split_value.rest.now ≡ rest = (let h = c.in-Some-split_value.ensures.behind ∙ behind-piece d c.in-Some.text.now rest piece left in cc) in
    let text : c.in-Some-split_value.piece.now ≡ compact_text d = piece-text d c.in-Some.text.now c.in-Some-split_value.piece.now c.in-Some-split_value.rest.now rest left c.in-Some-split_value.ensures.parts back in
    let value : c.in-Some-2.value ≡ d = (let h = rw c.in-Some-2.is at (c.in_ok-value.ensures d (ap json_of text ∙ piece.reads)) in cc) in
    ((let h = rw c.in-Some-3.is at (c.in_ok-item.ensures it keeps value) in cc), back)

pub returns-in-None-clause-found : goal.returns-in-None-clause-found
returns-in-None-clause-found g c = λ it rest keeps piece is.
    let d = g.T.ListItem.data_of it in
    let left : c.in-Some.text.now ≡ compact_text d ++ rest = (let h = c.in-Some.ensures.found (compact_text d ++ rest) is in cc) in
    let back : c.in-Some-split_value.rest.now ≡ rest = (let h = c.in-Some-split_value.ensures.behind ∙ behind-piece d c.in-Some.text.now rest piece left in cc) in
    let text : c.in-Some-split_value.piece.now ≡ compact_text d = piece-text d c.in-Some.text.now c.in-Some-split_value.piece.now c.in-Some-split_value.rest.now rest left c.in-Some-split_value.ensures.parts back in
    let value : c.in-Some-2.value ≡ d = (let h = rw c.in-Some-2.is at (c.in_ok-value.ensures d (ap json_of text ∙ piece.reads)) in cc) in
    let none = rw c.in-None.is at (c.in_ok-item.ensures it keeps value) in
    absurd (cc)
