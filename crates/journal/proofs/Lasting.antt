-- Why what is answered is there after any end.
use Rattle.std.proofs.Common.{◌≡◌, ◌⊎◌, inl, inr, ℕ, ◌+◌, ◌<◌, ◌≤◌, List, [], ◌∷◌, ◌++◌, length, take, drop, All, Bool, true, false, refl, sym, ap, subst, ◌∙◌, arith, length-append}
use Rattle.std.specs.Prelude.{◌==◌, not, Option, Some, MatchBool}
use Rattle.std.specs.List.{flat_map}
use Rattle.std.proofs.lemmas.Bool.{and_parts, cases_lt, eqb-true}
use Rattle.std.proofs.lemmas.List.{append-nil, append_assoc, length-take-le, nil_from_length, take-append-drop, take-append-le, take-take}
use Rattle.std.proofs.lemmas.List.Elements.{All-cons, All-head, All-nil, All-tail, All-take}
use Rattle.std.proofs.Math.Seq.{take-append_seam}
use Rattle.model.specs.Command.{Entry}
use Rattle.model.specs.Database.{Database}
use Rattle.model.specs.History.{Chronicle, Extends, IsLegal, IsNext, base_of, now, replay}
use Rattle.model.proofs.HistoryLaws.{IsLegal-append}
use Rattle.model.proofs.LastLaws.{later_entries}
use Rattle.model.proofs.NumberLaws.{update_seq-replay}
use Rattle.history_json.specs.Line.{IsLine, line_text}
use Rattle.history_json.specs.Lines.{is_one_line}
use Rattle.history_json.proofs.InProfile.{line-one}
use Rattle.history_dump.specs.Dump.{dump_text, entry_line, first_line, first_text}
use Rattle.history_dump.proofs.Begun.{first-one}
use Rattle.replay_cli.specs.Successors.{IsDumpOfLegal, base_after, raise}
use Rattle.replay_cli.specs.Verdicts.{begun_with}
use Rattle.replay_cli.specs.declared.verdict.Verdict.{Verdict}
use Rattle.journal.specs.Held.{AreDump, begun, up_to}
use Rattle.journal.specs.Kept.{Kept}
use Rattle.journal.specs.Refusing.{IsDamaged, IsEndedBy, IsNoFirst}
use Rattle.journal.specs.Replaying.{CanBeNext, IsEnd, IsOnly, IsOnlyDump, IsWhole}
use Rattle.journal.specs.Restoring.{IsRestored, is_first_alone, keeps_epoch, raises}
use Rattle.journal.specs.Survives.{HoldsLegal, IsLeft, Survives, SurvivesInOrder}
use Rattle.journal.specs.declared.restored.End.{End}
use Rattle.journal.specs.declared.restored.End.TheVariants.{Whole, Cut, Torn}
use Rattle.journal.specs.declared.restored.Raise.{Raise}
use Rattle.journal.specs.declared.restored.Restored.{Restored}
use Rattle.journal.proofs.Texts.{dump-push}

-- ---- a line ends at the first line feed

-- a line with no line feed doesn't begin with one
not_here : (n : ℕ) (rest : List ℕ) → is_one_line (n ∷ rest) ≡ true → 10 ≡ n → ⊥
not_here n rest one same =
    let none : not (n == 10) ≡ true = (and_parts (not (n == 10)) (is_one_line rest) one).0 in
    let there : not (10 == 10) ≡ true = subst (λ m. not (m == 10) ≡ true) (sym same) none in
    cc

feeds : (a b x y : List ℕ) → is_one_line a ≡ true → is_one_line b ≡ true → a ++ 10 ∷ x ≡ b ++ 10 ∷ y → (a ≡ b) × (x ≡ y)
feeds [] [] x y one other is = (refl, cc)
feeds [] (n ∷ b) x y one other is = let head : 10 ≡ n = cc in absurd (not_here n b other head)
feeds (n ∷ a) [] x y one other is = let head : 10 ≡ n = cc in absurd (not_here n a one head)
feeds (n ∷ a) (m ∷ b) x y one other is =
    let head : n ≡ m = cc in
    let tails : a ++ 10 ∷ x ≡ b ++ 10 ∷ y = cc in
    let rest = feeds a b x y (and_parts (not (n == 10)) (is_one_line a) one).1 (and_parts (not (m == 10)) (is_one_line b) other).1 tails in
    let same : a ≡ b = rest.0 in
    (cc, rest.1)

-- a text with a line feed has one
fed : (a x : List ℕ) → is_one_line (a ++ 10 ∷ x) ≡ true → ⊥
fed [] x one = not_here 10 x one refl
fed (n ∷ a) x one = fed a x (and_parts (not (n == 10)) (is_one_line (a ++ 10 ∷ x)) one).1

-- ---- two dumps that a text begins with

spread : (e : Entry) (x : List ℕ) → entry_line e ++ x ≡ line_text e ++ 10 ∷ x
spread e x = append_assoc (line_text e) (10 ∷ []) x

spread_all : (e : Entry) (es : List Entry) (x : List ℕ) → flat_map entry_line (e ∷ es) ++ x ≡ line_text e ++ 10 ∷ (flat_map entry_line es ++ x)
spread_all e es x = append_assoc (entry_line e) (flat_map entry_line es) x ∙ spread e (flat_map entry_line es ++ x)

spread_first : (h : Chronicle) (x : List ℕ) → dump_text h ++ x ≡ first_text h.base ++ 10 ∷ (flat_map entry_line h.entries ++ x)
spread_first h x = append_assoc (first_line h.base) (flat_map entry_line h.entries) x ∙ append_assoc (first_text h.base) (10 ∷ []) (flat_map entry_line h.entries ++ x)

-- the first list goes on, or ends, before the other
abbrev Longer : List Entry → List Entry → List ℕ → List ℕ → Type 0
Longer gs cs tail rest = (more : List Entry) × (gs ≡ cs ++ more) × (rest ≡ flat_map entry_line more ++ tail)

abbrev Shorter : List Entry → List Entry → List ℕ → List ℕ → Type 0
Shorter gs cs tail rest = (e : Entry) × (more : List Entry) × (cs ≡ gs ++ e ∷ more) × (tail ≡ entry_line e ++ (flat_map entry_line more ++ rest))

entries_meet : (gs cs : List Entry) (tail rest : List ℕ) → All IsOnly gs → All IsLine gs → All IsLine cs → flat_map entry_line gs ++ tail ≡ flat_map entry_line cs ++ rest
    → Longer gs cs tail rest ⊎ Shorter gs cs tail rest
entries_meet gs [] tail rest only mine theirs is = inl (gs, refl, sym is)
entries_meet [] (e ∷ cs) tail rest only mine theirs is = inr (e, cs, refl, is ∙ append_assoc (entry_line e) (flat_map entry_line cs) rest)
entries_meet (g ∷ gs) (e ∷ cs) tail rest only mine theirs is =
    let joined : line_text g ++ 10 ∷ (flat_map entry_line gs ++ tail) ≡ line_text e ++ 10 ∷ (flat_map entry_line cs ++ rest) =
    sym (spread_all g gs tail) ∙ is ∙ spread_all e cs rest in
    let within : IsLine e = All-head IsLine e cs theirs in
    let same = feeds (line_text g) (line_text e) _ _ (line-one g (All-head IsLine g gs mine)) (line-one e within) joined in
    let one : e ≡ g = All-head IsOnly g gs only e within (ap (λ t. t ++ 10 ∷ []) (sym same.0)) in
    elim (entries_meet gs cs tail rest (All-tail IsOnly g gs only) (All-tail IsLine g gs mine) (All-tail IsLine e cs theirs) same.1) [
      | inl longer ↦ let goes : gs ≡ cs ++ longer.0 = longer.1 in inl (longer.0, cc, longer.2)
      | inr shorter ↦ let goes : cs ≡ gs ++ shorter.0 ∷ shorter.1 = shorter.2 in inr (shorter.0, shorter.1, cc, shorter.3)
    ]

-- a text that begins with the dumps of two histories, of which the first is read
module _ (text : List ℕ) (g : Chronicle) (tail : List ℕ) (read : IsDumpOfLegal (dump_text g) g) (only : IsOnlyDump g) (text_is : text ≡ dump_text g ++ tail)
    (c : Chronicle) (rest : List ℕ) (legal : IsDumpOfLegal (dump_text c) c) (is_too : text ≡ dump_text c ++ rest) where
  both : (first_text g.base ≡ first_text c.base) × (flat_map entry_line g.entries ++ tail ≡ flat_map entry_line c.entries ++ rest)
  both = feeds (first_text g.base) (first_text c.base) (flat_map entry_line g.entries ++ tail) (flat_map entry_line c.entries ++ rest)
      (first-one g.base read.dump.first) (first-one c.base legal.dump.first) (sym (spread_first g tail) ∙ sym text_is ∙ is_too ∙ spread_first c rest)

  base_same : c.base ≡ g.base
  base_same = only.base c.base legal.dump.first (ap (λ t. t ++ 10 ∷ []) (sym both.0))

  meets : Longer g.entries c.entries tail rest ⊎ Shorter g.entries c.entries tail rest
  meets = entries_meet g.entries c.entries tail rest only.entries read.dump.within legal.dump.within both.1

  -- the entry behind a shorter one is its next
  next_is : (shorter : Shorter g.entries c.entries tail rest) → CanBeNext (entry_line shorter.0) (now g) (length g.entries)
  next_is (e, more, goes, behind) =
      let lines : All IsLine (g.entries ++ e ∷ more) = subst (All IsLine) goes legal.dump.within in
      let legal_too : IsLegal (base_of g.base) (g.entries ++ e ∷ more) =
      subst (λ (b : Option Database). IsLegal (base_of b) (g.entries ++ e ∷ more)) base_same (subst (IsLegal (base_of c.base)) goes legal.legal) in
      let next = ((IsLegal-append (base_of g.base) g.entries (e ∷ more)).0 legal_too).1.0 in
      (e, line_of g.entries lines, refl, omega (arith, legal.dump.places, ap length goes, length-append g.entries (e ∷ more)), next)
    where
      line_of : (es : List Entry) → All IsLine (es ++ e ∷ more) → IsLine e
      line_of [] all = All-head IsLine e more all
      line_of (x ∷ es) all = line_of es (All-tail IsLine x (es ++ e ∷ more) all)

  -- no whole line that is refused is where it begins
  not_refused : (shorter : Shorter g.entries c.entries tail rest) (line behind : List ℕ) → IsWhole line → tail ≡ line ++ behind
      → (CanBeNext line (now g) (length g.entries) → ⊥) → ⊥
  unfolding next_is
  not_refused shorter line behind whole is refused =
      let e = shorter.0 in
      let here : whole.front ++ 10 ∷ behind ≡ line_text e ++ 10 ∷ (flat_map entry_line shorter.1 ++ rest) =
      sym (append_assoc whole.front (10 ∷ []) behind) ∙ ap (λ t. t ++ behind) (sym whole.line_is) ∙ sym is ∙ shorter.3 ∙ spread e (flat_map entry_line shorter.1 ++ rest) in
      let can = next_is shorter in
      let same = feeds whole.front (line_text e) _ _ whole.one (line-one e can.1) here in
      refused (subst (λ (l : List ℕ). CanBeNext l (now g) (length g.entries)) (ap (λ t. t ++ 10 ∷ []) (sym same.0) ∙ sym whole.line_is) can)

  -- what was read doesn't end before a next entry
  no_end : (synced taken : ℕ) (end : End) → IsEnd synced (now g) (length g.entries) taken tail end → Shorter g.entries c.entries tail rest → ⊥
  no_end synced taken Whole none shorter =
      omega (
        arith,
        ap length (sym none ∙ shorter.3 ∙ spread shorter.0 (flat_map entry_line shorter.1 ++ rest)),
        length-append (line_text shorter.0) (10 ∷ (flat_map entry_line shorter.1 ++ rest)),
      )
  no_end synced taken Cut cut shorter =
      fed (line_text shorter.0) (flat_map entry_line shorter.1 ++ rest)
      (subst (λ (t : List ℕ). is_one_line t ≡ true) (shorter.3 ∙ spread shorter.0 (flat_map entry_line shorter.1 ++ rest)) cut.1)
  no_end synced taken Torn torn shorter = not_refused shorter torn.line torn.rest torn.whole torn.tail_is torn.refused

  -- so it goes on from the other
  goes_on_from : (synced taken : ℕ) (end : End) → IsEnd synced (now g) (length g.entries) taken tail end → Longer g.entries c.entries tail rest
  goes_on_from synced taken end is = elim meets [ inl longer ↦ longer | inr shorter ↦ absurd (no_end synced taken end is shorter) ]

  extends : Longer g.entries c.entries tail rest → Extends g c
  extends longer = record { base = sym base_same; more = longer.0; entries = longer.1 }

  -- and has no fewer bytes
  no_fewer : Longer g.entries c.entries tail rest → length (dump_text c) ≤ length (dump_text g)
  no_fewer longer =
      omega (
        arith,
        ap length (sym text_is ∙ is_too),
        length-append (dump_text g) tail,
        length-append (dump_text c) rest,
        ap length longer.2,
        length-append (flat_map entry_line longer.0) tail,
      )

-- ---- beginnings of a legal history

-- one entry less, and that entry
legal_front : (base : Option Database) (es : List Entry) (e : Entry) → IsDumpOfLegal (dump_text (begun_with base (es ++ e ∷ []))) (begun_with base (es ++ e ∷ []))
    → IsDumpOfLegal (dump_text (begun_with base es)) (begun_with base es) × IsLine e × IsNext (replay (base_of base) es) e
legal_front base es e legal =
    let parts = (IsLegal-append (base_of base) es (e ∷ [])).0 legal.legal in
    let lines = front_lines es legal.dump.within in (
      record {
        dump = record { text_is = refl; first = legal.dump.first; within = lines.0; places = omega (arith, legal.dump.places, length-append es (e ∷ [])) };
        legal = parts.0;
      },
      lines.1,
      parts.1.0,
    )
  where
    front_lines : (xs : List Entry) → All IsLine (xs ++ e ∷ []) → All IsLine xs × IsLine e
    front_lines [] all = (All-nil IsLine, All-head IsLine e [] all)
    front_lines (x ∷ xs) all =
        let rest = front_lines xs (All-tail IsLine x (xs ++ e ∷ []) all) in
        (All-cons IsLine x xs (All-head IsLine x (xs ++ e ∷ []) all) rest.0, rest.1)

-- a list has a last element, or none
last_entry : (es : List Entry) → (es ≡ []) ⊎ ((front : List Entry) × (e : Entry) × (es ≡ front ++ e ∷ []))
last_entry [] = inl refl
last_entry (x ∷ es) = elim (last_entry es) [
  | inl none ↦ inr ([], x, ap (λ (xs : List Entry). x ∷ xs) none)
  | inr some ↦ inr (x ∷ some.0, some.1, ap (λ (xs : List Entry). x ∷ xs) some.2)
]

-- numbers don't fall
grows : (later earlier : Chronicle) → Extends later earlier → (now earlier).update_seq ≤ (now later).update_seq
grows later earlier on =
    let more = later_entries later earlier on in
    subst (λ (d : Database). (now earlier).update_seq ≤ d.update_seq) (sym more.1) (update_seq-replay (now earlier) more.0)

-- ---- what a sync covered

-- a beginning of a history whose dump is that of a legal one
legal_up_to : (h : Chronicle) (place : ℕ) → IsDumpOfLegal (dump_text h) h → IsDumpOfLegal (dump_text (up_to h place)) (up_to h place)
legal_up_to h place legal = record {
  dump = record {
    text_is = refl;
    first = legal.dump.first;
    within = All-take IsLine place h.entries legal.dump.within;
    places = omega (arith, legal.dump.places, ap length (take-append-drop place h.entries), length-append (take place h.entries) (drop place h.entries));
  };
  legal = ((IsLegal-append (base_of h.base) (take place h.entries) (drop place h.entries)).0
      (subst (IsLegal (base_of h.base)) (sym (take-append-drop place h.entries)) legal.legal)).0;
}

known_dump : (known : Option (List ℕ)) (text : List ℕ) (h : Chronicle) → known ≡ Some text → AreDump known h → text ≡ dump_text h
known_dump known text h is dump = subst (λ (o : Option (List ℕ)). AreDump o h) is dump

module _ (k : Kept) (h : Chronicle) (text : List ℕ) (holds : HoldsLegal k h) where
  abbrev synced_part : Chronicle
  synced_part = up_to h k.synced

  synced_legal : IsDumpOfLegal (dump_text synced_part) synced_part
  synced_legal = legal_up_to h k.synced holds.legal

  covered_part : (left : Survives k text) → left.covered ≡ dump_text synced_part
  covered_part left = known_dump k.covered left.covered synced_part left.covered_is holds.held.covered_is

  begins_with : (left : Survives k text) → text ≡ dump_text synced_part ++ left.tail
  begins_with left = left.text_is ∙ ap (λ t. t ++ left.tail) (covered_part left)

  -- ---- no verdict

  pub none_refused : (synced : ℕ) (left : Survives k text) → synced ≤ length left.covered → (v : Verdict) (at : ℕ) → IsEndedBy synced v at text → ⊥
  none_refused synced left low v at ended = elim ended.why [ inl first ↦ no_first first | inr damaged ↦ no_damage damaged ]
    where
      no_damage : IsDamaged synced ended.front ended.line → ⊥
      no_damage damaged =
          let g = damaged.history in
          let front_is : ended.front ≡ dump_text g = damaged.legal.dump.text_is in
          let read : IsDumpOfLegal (dump_text g) g = subst (λ (t : List ℕ). IsDumpOfLegal t g) front_is damaged.legal in
          let tail = ended.line ++ ended.rest in
          let is : text ≡ dump_text g ++ tail = ended.text_is ∙ ap (λ t. t ++ tail) front_is in
          elim (meets text g tail read damaged.only is synced_part left.tail synced_legal (begins_with left)) [
            | inl longer ↦
                let most = no_fewer text g tail read damaged.only is synced_part left.tail synced_legal (begins_with left) longer in
                omega (arith, most, damaged.synced_behind, low, ap length front_is, ap length (covered_part left))
            | inr shorter ↦
                not_refused text g tail read damaged.only is synced_part left.tail synced_legal (begins_with left) shorter ended.line ended.rest damaged.whole refl damaged.refused
          ]

      no_first : IsNoFirst ended.front ended.line ended.rest → ⊥
      no_first first =
          let base = h.base in
          let behind = flat_map entry_line (take k.synced h.entries) ++ left.tail in
          let is : ended.line ++ ended.rest ≡ first_text base ++ 10 ∷ behind =
          ap (λ f. f ++ (ended.line ++ ended.rest)) (sym first.at_first) ∙ sym ended.text_is ∙ begins_with left ∙ spread_first synced_part left.tail in
          let one = first-one base holds.legal.dump.first in
          elim first.alone [
            | inl whole ↦
                let here : whole.front ++ 10 ∷ ended.rest ≡ first_text base ++ 10 ∷ behind =
                sym (append_assoc whole.front (10 ∷ []) ended.rest) ∙ ap (λ l. l ++ ended.rest) (sym whole.line_is) ∙ is in
                let same = feeds whole.front (first_text base) _ _ whole.one one here in
                first.none (begun base) (record { entries = refl; first = holds.legal.dump.first; line_is = whole.line_is ∙ ap (λ t. t ++ 10 ∷ []) same.0 })
            | inr cut ↦
                let all : ended.line ≡ first_text base ++ 10 ∷ behind = sym (append-nil ended.line) ∙ ap (λ r. ended.line ++ r) (sym cut.1) ∙ is in
                fed (first_text base) behind (subst (λ (t : List ℕ). is_one_line t ≡ true) all cut.0)
          ]

  -- ---- what is read of it

  module _ (synced : ℕ) (raising : Raise) (r : Restored) (restored : IsRestored text synced raising r) where
    abbrev g : Chronicle
    g = restored.history

    ends : IsEnd synced (now g) (length g.entries) r.taken restored.tail r.end
    ends = subst (λ n. IsEnd synced (now g) n r.taken restored.tail r.end) restored.places_is restored.end_is

    pub all_synced : Survives k text → Extends g synced_part
    all_synced left =
        extends text g restored.tail restored.legal restored.only restored.text_is synced_part left.tail synced_legal (begins_with left)
        (goes_on_from text g restored.tail restored.legal restored.only restored.text_is synced_part left.tail synced_legal (begins_with left) synced r.taken r.end ends)

    whole_text : IsLeft k text → text ≡ dump_text h ++ []
    whole_text left = known_dump k.taken text h left holds.held.taken_is ∙ sym (append-nil (dump_text h))

    all_behind : (left : IsLeft k text) → Longer g.entries h.entries restored.tail []
    all_behind left =
        goes_on_from text g restored.tail restored.legal restored.only restored.text_is h [] holds.legal (whole_text left) synced r.taken r.end ends

    none_behind : (left : IsLeft k text) → restored.tail ≡ []
    none_behind left =
        let more = all_behind left in
        nil_from_length restored.tail (omega (arith, ap length more.2, length-append (flat_map entry_line more.0) restored.tail))

    no_more : (es : List Entry) (x : List ℕ) → [] ≡ flat_map entry_line es ++ x → es ≡ []
    no_more [] x is = refl
    no_more (e ∷ es) x is =
        absurd (omega (arith, ap length (is ∙ spread_all e es x), length-append (line_text e) (10 ∷ (flat_map entry_line es ++ x))))

    pub all_appended : IsLeft k text → g ≡ h
    all_appended left =
        let more = all_behind left in
        let base : g.base ≡ h.base = sym (base_same text g restored.tail restored.legal restored.only restored.text_is h [] holds.legal (whole_text left)) in
        let entries : g.entries ≡ h.entries = more.1 ∙ ap (λ (es : List Entry). h.entries ++ es) (no_more more.0 restored.tail more.2) ∙ append-nil h.entries in
        λ i. record { base = base i; entries = entries i }

    pub ends_whole : IsLeft k text → r.end ≡ Whole
    ends_whole left = go r.end ends (none_behind left)
      where
        go : (end : End) → IsEnd synced (now g) (length g.entries) r.taken restored.tail end → restored.tail ≡ [] → end ≡ Whole
        go Whole is none = refl
        go Cut is none = absurd (omega (arith, is.0, ap length none))
        go Torn is none =
            absurd (omega (arith, ap length (sym none ∙ is.tail_is), length-append is.line is.rest, ap length is.whole.line_is, length-append is.whole.front (10 ∷ [])))

    -- ---- numbers

    none_taken : (end : End) (places : ℕ) → is_first_alone end places ≡ true → places ≡ 0
    none_taken Whole places is = eqb-true places 0 is
    none_taken Cut places is = cc
    none_taken Torn places is = cc

    -- what goes on in its file has no entries
    none_there : r.goes_on ≡ true → g.entries ≡ []
    none_there goes =
        let parts = and_parts (keeps_epoch raising) (is_first_alone r.end r.places) (sym restored.begun_is.goes_on_is ∙ goes) in
        nil_from_length g.entries (sym restored.places_is ∙ none_taken r.end r.places parts.1)

    abbrev Begins : Bool → Bool → Type 0
    Begins goes raised = MatchBool goes (r.version ≡ begun g.base) (r.version ≡ begun (Some (base_after raised (now g))))

    begins_above : (now g).update_seq ≤ (now r.version).update_seq
    begins_above = go r.goes_on r.raised restored.begun_is.version_is none_there
      where
        go : (goes is_raised : Bool) → Begins goes is_raised → (goes ≡ true → g.entries ≡ []) → (now g).update_seq ≤ (now r.version).update_seq
        go true is_raised is none =
            let here : (now g).update_seq ≡ (base_of g.base).update_seq = ap (λ (es : List Entry). (replay (base_of g.base) es).update_seq) (none refl) in
            omega (arith, here, ap (λ (v : Chronicle). (now v).update_seq) is)
        go false true is none = omega (arith, ap (λ (v : Chronicle). (now v).update_seq) is)
        go false false is none = omega (arith, ap (λ (v : Chronicle). (now v).update_seq) is)

    raised_above : r.raised ≡ true → (now g).update_seq + raise ≤ (now r.version).update_seq
    raised_above rose =
        let parts = and_parts (raises raising r.end) (not r.goes_on) (sym restored.begun_is.raised_is ∙ rose) in
        go r.goes_on r.raised restored.begun_is.version_is parts.1 rose
      where
        go : (goes is_raised : Bool) → Begins goes is_raised → not goes ≡ true → is_raised ≡ true → (now g).update_seq + raise ≤ (now r.version).update_seq
        go true is_raised is none up = cc
        go false false is none up = cc
        go false true is none up = omega (arith, ap (λ (v : Chronicle). (now v).update_seq) is)

    pub synced_numbers : Survives k text → (n : ℕ) → n ≤ (now synced_part).update_seq → n ≤ (now r.version).update_seq
    synced_numbers left n low = omega (arith, low, grows g synced_part (all_synced left), begins_above)

    pub raised_numbers : Survives k text → r.raised ≡ true → (n : ℕ) → n ≤ (now synced_part).update_seq + raise → n ≤ (now r.version).update_seq
    raised_numbers left rose n low = omega (arith, low, grows g synced_part (all_synced left), raised_above rose)

    pub appended_numbers : IsLeft k text → (n : ℕ) → n ≤ (now h).update_seq → n ≤ (now r.version).update_seq
    appended_numbers left n low = omega (arith, low, ap (λ (v : Chronicle). (now v).update_seq) (all_appended left), begins_above)

    -- ---- a beginning

    module _ (s : SurvivesInOrder k text) where
      taken_dump : s.taken ≡ dump_text h
      taken_dump = known_dump k.taken s.taken h s.taken_is holds.held.taken_is

      not_behind : (es : List Entry) (e : Entry) → g.entries ≡ es ++ e ∷ [] → s.count < length (dump_text g) → ⊥
      not_behind es e is behind =
          let whole : g ≡ begun_with g.base (es ++ e ∷ []) = ap (begun_with g.base) is in
          let legal = subst (λ (c : Chronicle). IsDumpOfLegal (dump_text c) c) whole restored.legal in
          let dumped : dump_text g ≡ dump_text (begun_with g.base es) ++ entry_line e = ap dump_text whole ∙ sym (dump-push g.base es e) in
          let parts = legal_front g.base es e legal in
          s.none (begun_with g.base es) e restored.tail parts.0 parts.1 parts.2
          (restored.text_is ∙ ap (λ t. t ++ restored.tail) dumped ∙ append_assoc (dump_text (begun_with g.base es)) (entry_line e) restored.tail)
          (subst (λ (t : List ℕ). s.count < length t) dumped behind)

      -- what was read doesn't go beyond what was written in order
      not_beyond : length (dump_text g) ≤ s.count
      not_beyond = elim (cases_lt s.count (length (dump_text g))) [
        | inl behind ↦ elim (last_entry g.entries) [
          | inl none ↦
              let base : g.base ≡ h.base = (all_synced s.survives).base in
              let first : length (dump_text g) ≡ length (first_line g.base) =
              ap (λ (es : List Entry). length (first_line g.base ++ flat_map entry_line es)) none ∙ ap length (append-nil (first_line g.base)) in
              omega (
                arith,
                first,
                ap (λ (b : Option Database). length (first_line b)) base,
                s.more,
                ap length (covered_part s.survives),
                length-append (first_line h.base) (flat_map entry_line (take k.synced h.entries)),
              )
          | inr some ↦ absurd (not_behind some.0 some.1 some.2 behind)
        ]
        | inr low ↦ low
      ]

      -- so it begins what was appended
      begins_taken : s.taken ≡ dump_text g ++ drop (length (dump_text g)) s.taken
      begins_taken =
          let m = length (dump_text g) in
          let size : length (take s.count s.taken) ≡ s.count = length-take-le s.count s.taken s.most in
          let front : dump_text g ≡ take m s.taken =
          sym (take-append_seam (dump_text g) restored.tail) ∙ ap (take m) (sym restored.text_is ∙ s.text_is)
          ∙ take-append-le m (take s.count s.taken) s.torn (omega (arith, not_beyond, size)) ∙ take-take m s.count s.taken not_beyond in
          sym (take-append-drop m s.taken) ∙ ap (λ t. t ++ drop m s.taken) (sym front)

      pub is_beginning : Extends h g
      is_beginning =
          let tail = drop (length (dump_text g)) s.taken in
          let all : s.taken ≡ dump_text h ++ [] = taken_dump ∙ sym (append-nil (dump_text h)) in
          let base = base_same s.taken g tail restored.legal restored.only begins_taken h [] holds.legal all in
          elim (meets s.taken g tail restored.legal restored.only begins_taken h [] holds.legal all) [
            | inl longer ↦
                let entries : g.entries ≡ h.entries = longer.1 ∙ ap (λ (es : List Entry). h.entries ++ es) (no_more longer.0 tail longer.2) ∙ append-nil h.entries in
                record { base = base; more = []; entries = sym entries ∙ sym (append-nil g.entries) }
            | inr shorter ↦ record { base = base; more = shorter.0 ∷ shorter.1; entries = shorter.2 }
          ]
