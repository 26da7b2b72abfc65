-- What is known after each line that was replayed.
use Rattle.std.proofs.Common.{◌≡◌, ◌↔◌, ◌⊎◌, inl, inr, ℕ, suc, ◌+◌, ◌<◌, ◌≤◌, List, [], ◌∷◌, ◌++◌, length, map, All, refl, sym, ap, subst, ◌∙◌, arith, length-append}
use Rattle.std.specs.Prelude.{Bool, true, false, Option, Some, None, IfSome, MatchBool}
use Rattle.std.specs.Io.KnownBytes.{Consumes, IsAtEnd}
use Rattle.std.proofs.lemmas.List.{append-nil, append_assoc, length-map}
use Rattle.std.proofs.lemmas.Option.{none-some}
use Rattle.std.proofs.lemmas.List.Elements.{All-append, All-cons, All-nil, All-head, All-tail}
use Rattle.std.proofs.KnownBytes.{Consumes-trans}
use Rattle.model.specs.Command.{Entry, IsCommand}
use Rattle.model.specs.Database.{Database, IsDatabase, act}
use Rattle.model.specs.History.{Chronicle, IsBase, IsNext, base_of, now, replay}
use Rattle.model.proofs.BaseLaws.{IsBase-empty}
use Rattle.model.proofs.HistoryLaws.{replay-push, IsLegal-push}
use Rattle.model.proofs.KeptLaws.{IsDatabase-replay}
use Rattle.history_json.specs.Line.{IsLine}
use Rattle.history_json.specs.Lines.{is_one_line}
use Rattle.history_dump.specs.Dump.{BeginsAt, dump_text, entry_line, first_line, IsFirst}
use Rattle.replay_cli.specs.Lines.{lines_or_one}
use Rattle.replay_cli.specs.Places.{last_place}
use Rattle.replay_cli.specs.Readable.{AreReadable, IsReadable}
use Rattle.replay_cli.specs.Successors.{AreTooLarge, IsDumpOfLegal, IsLastEpoch}
use Rattle.replay_cli.specs.Successors as dumps
use Rattle.replay_cli.specs.Verdicts.{IsUnreadable, IsVerdict, IsWrongDump, begun_with}
use Rattle.replay_cli.specs.declared.verdict.Verdict.{Verdict}
use Rattle.replay_cli.specs.declared.verdict.Verdict.TheVariants as verdict
use Rattle.journal.specs.Replaying.{CanBeNext, IsCut, IsDamagedAt, IsNextLine, IsOnly, IsRefused, IsReplayed, IsWhole}
use Rattle.journal.specs.Reading.{IsRead}
use Rattle.journal.specs.Refusing.{IsEndedBy}
use Rattle.journal.proofs.Texts.{alone-one, alone-whole, dump-behind, dump-push}

-- ---- the first line

pub begins : (old new : Option (List ℕ)) (line : List ℕ) (v : Chronicle) → Consumes old new line → BeginsAt line v → ((w : Chronicle) → BeginsAt line w → w ≡ v)
    → IsReplayed v.base old new (now v) 0 (length line)
begins old new line v consumed at once =
    let whole : line ≡ dump_text (begun_with v.base []) = at.line_is ∙ sym (append-nil (first_line v.base)) in
    record {
      entries = [];
      consumed = subst (Consumes old new) whole consumed;
      first = at.first;
      within = All-nil IsLine;
      places = omega arith;
      legal = tt;
      only = record {
        base = λ other first same. ap (λ (h : Chronicle). h.base) (once (begun_with other []) (record { entries = refl; first = first; line_is = at.line_is ∙ sym same }));
        entries = All-nil IsOnly;
      };
      database = ap (replay (base_of v.base)) at.entries;
      place_is = refl;
      taken_is = ap length whole;
    }

-- a line that begins no dump is the first that can't be read
pub unreadable_first : (line : List ℕ) → lines_or_one line ≡ line ∷ [] → ((v : Chronicle) → BeginsAt line v → ⊥) → IsUnreadable line 1
unreadable_first line alone none = record {
  before = [];
  line = line;
  after = [];
  lines_are = alone;
  readable = tt;
  unreadable = λ readable. none (begun_with readable.0 []) (record { entries = refl; first = readable.1; line_is = readable.2 });
  number_is = omega arith;
}

-- the first line is the only one of what was read
pub alone : (old new : Option (List ℕ)) (line : List ℕ) (whole : Bool) → MatchBool whole (IsWhole line) (IsCut old new line) → lines_or_one line ≡ line ∷ []
alone old new line true is = alone-whole line is
alone old new line false cut = alone-one line cut.one

-- it is all that was read, and ends the start
no_first : (synced : ℕ) (line rest : List ℕ) → lines_or_one line ≡ line ∷ [] → IsWhole line ⊎ ((is_one_line line ≡ true) × (rest ≡ [])) → ((v : Chronicle) → BeginsAt line v → ⊥)
    → IsEndedBy synced (verdict.UnreadableLine 1) 0 (line ++ rest)
no_first synced line rest one alone none = record {
  front = [];
  line = line;
  rest = rest;
  text_is = refl;
  at_is = refl;
  verdict = unreadable_first line one none;
  refused = tt;
  why = inl (record { at_first = refl; alone = alone; none = none });
}

-- nothing is left behind a first line that was cut
alone_in : (old new : Option (List ℕ)) (line rest : List ℕ) (whole : Bool) → MatchBool whole (IsWhole line) (IsCut old new line) → (IfSome old (λ _. IsAtEnd new) → rest ≡ [])
    → IsWhole line ⊎ ((is_one_line line ≡ true) × (rest ≡ []))
alone_in old new line rest true is end = inl is
alone_in old new line rest false cut end = inr (cut.one, end cut.end)

pub first_refused : (synced : ℕ) (old new : Option (List ℕ)) (line : List ℕ) (whole : Bool) → MatchBool whole (IsWhole line) (IsCut old new line) → Consumes old new line
    → ((v : Chronicle) → BeginsAt line v → ⊥)
    → IsRead old new (IsEndedBy synced (verdict.UnreadableLine 1) 0) × IfSome old (IsEndedBy synced (verdict.UnreadableLine 1) 0)
first_refused synced old new line whole kind consumed none =
    let one = alone old new line whole kind in (
      record {
        text = line ++ [];
        consumed = subst (Consumes old new) (sym (append-nil line)) consumed;
        holds = no_first synced line [] one (alone_in old new line [] whole kind (λ _. refl)) none;
      },
      all old new consumed kind one,
    )
  where
    all : (a b : Option (List ℕ)) → Consumes a b line → MatchBool whole (IsWhole line) (IsCut a b line) → lines_or_one line ≡ line ∷ []
        → IfSome a (IsEndedBy synced (verdict.UnreadableLine 1) 0)
    all None b consumed kind one = tt
    all (Some text) None consumed kind one = absurd consumed
    all (Some text) (Some rest) consumed kind one =
        subst (IsEndedBy synced (verdict.UnreadableLine 1) 0) (sym consumed) (no_first synced line rest one (alone_in (Some text) (Some rest) line rest whole kind (λ end. end)) none)

pub one_begun : (v w : Chronicle) → Some v ≡ Some w → v ≡ w
one_begun v w is = cc

pub no_entries : (line : List ℕ) (v : Chronicle) → BeginsAt line v → v ≡ begun_with v.base []
no_entries line v at = ap (begun_with v.base) at.entries

-- ---- the lines behind it

pub next : (base : Option Database) (start mid new : Option (List ℕ)) (old d : Database) (place more taken more_taken : ℕ) (line : List ℕ)
    → IsReplayed base start mid old place taken → Consumes mid new line → IsNextLine line old d place more → more_taken ≡ taken + length line
    → IsReplayed base start new d more more_taken
next base start mid new old d place more taken more_taken line so_far consumed line_is grown =
    let es = so_far.entries in
    let e = line_is.entry in
    let dumped = dump_text (begun_with base es) in
    let text : dumped ++ line ≡ dump_text (begun_with base (es ++ e ∷ [])) = ap (λ t. dumped ++ t) line_is.line_is ∙ dump-push base es e in
    let was : old ≡ replay (base_of base) es = so_far.database in
    record {
      entries = es ++ e ∷ [];
      consumed = subst (Consumes start new) text (Consumes-trans start mid new dumped line so_far.consumed consumed);
      first = so_far.first;
      within = All-append IsLine es (e ∷ []) so_far.within (All-cons IsLine e [] line_is.within (All-nil IsLine));
      places = omega (arith, length-append es (e ∷ []), so_far.place_is, line_is.room);
      legal = (IsLegal-push (base_of base) es e).1 (so_far.legal, subst (λ (x : Database). IsNext x e) was line_is.next);
      only = record {
        base = so_far.only.base;
        entries = All-append IsOnly es (e ∷ []) so_far.only.entries (All-cons IsOnly e [] line_is.only (All-nil IsOnly));
      };
      database = line_is.database ∙ ap (λ (x : Database). act x e.seat e.command) was ∙ sym (replay-push (base_of base) es e);
      place_is = omega (arith, length-append es (e ∷ []), so_far.place_is, line_is.place_is);
      taken_is = omega (arith, grown, so_far.taken_is, length-append dumped line, ap length text);
    }

-- the lines of entries are readable where the last has a place
readable-entries : (n : ℕ) (es : List Entry) → All IsLine es → n + length es ≤ last_place → AreReadable (suc (suc n)) (map entry_line es)
readable-entries n [] within few = tt
readable-entries n (e ∷ es) within few =
    ((omega arith, e, All-head IsLine e es within, refl), readable-entries (suc n) es (All-tail IsLine e es within) (omega arith))

module _ (base : Option Database) (start mid new : Option (List ℕ)) (d : Database) (place taken : ℕ) (so_far : IsReplayed base start mid d place taken) where
  abbrev es : List Entry
  es = so_far.entries

  abbrev dumped : List ℕ
  dumped = dump_text (begun_with base so_far.entries)

  pub legal-dump : IsDumpOfLegal dumped (begun_with base so_far.entries)
  legal-dump = record {
    dump = record { text_is = refl; first = so_far.first; within = so_far.within; places = so_far.places };
    legal = so_far.legal;
  }

  is_wrong : (line : List ℕ) (at : ℕ) → IsRefused line d place (verdict.WrongAt at) → IsWrongDump (dumped ++ line) at
  is_wrong line at (at_is, low, (e, within, line_is, wrong)) = record {
    history = begun_with base (so_far.entries ++ e ∷ []);
    dump = record {
      text_is = ap (λ t. dumped ++ t) line_is ∙ dump-push base so_far.entries e;
      first = so_far.first;
      within = All-append IsLine so_far.entries (e ∷ []) so_far.within (All-cons IsLine e [] within (All-nil IsLine));
      places = omega (arith, length-append so_far.entries (e ∷ []), so_far.place_is, low);
    };
    wrong = record {
      before = so_far.entries;
      entry = e;
      after = [];
      entries_are = refl;
      legal = so_far.legal;
      wrong = λ next. wrong (subst (λ (x : Database). IsNext x e) (sym so_far.database) next);
      place_is = at_is ∙ ap suc so_far.place_is;
    };
  }

  is_unreadable : (line : List ℕ) (number : ℕ) → IsWhole line → IsRefused line d place (verdict.UnreadableLine number) → IsUnreadable (dumped ++ line) number
  is_unreadable line number whole (number_is, none) = record {
    before = first_line base ∷ map entry_line so_far.entries;
    line = line;
    after = [];
    lines_are = dump-behind base so_far.entries line so_far.first so_far.within whole;
    readable = ((base, so_far.first, refl), readable-entries 0 so_far.entries so_far.within (omega (arith, so_far.places)));
    unreadable = λ readable. none (subst (λ n. IsReadable n line) number_is readable);
    number_is = omega (arith, number_is, so_far.place_is, length-map so_far.entries entry_line);
  }

  verdict_on : (line : List ℕ) (v : Verdict) → IsWhole line → IsRefused line d place v → IsVerdict (dumped ++ line) v × dumps.IsRefused v
  verdict_on line (verdict.Legal n) whole refused = absurd refused
  verdict_on line (verdict.WrongAt n) whole refused = (is_wrong line n refused, tt)
  verdict_on line (verdict.UnreadableLine n) whole refused = (is_unreadable line n whole refused, tt)

  module _ (synced : ℕ) (line : List ℕ) (v : Verdict) (at : ℕ) (whole : IsWhole line) (damaged : IsDamagedAt synced line d place taken v at) where
    ended : (rest : List ℕ) → IsEndedBy synced v at (dumped ++ (line ++ rest))
    ended rest =
        let told = verdict_on line v whole damaged.verdict in
        record {
          front = dumped;
          line = line;
          rest = rest;
          text_is = refl;
          at_is = damaged.at_is ∙ so_far.taken_is;
          verdict = told.0;
          refused = told.1;
          why = inr (record {
            history = begun_with base so_far.entries;
            legal = legal-dump;
            only = so_far.only;
            whole = whole;
            synced_behind = subst (λ n. n < synced) so_far.taken_is damaged.synced_behind;
            refused = λ can. damaged.refused (subst (CanBeNext line d) (sym so_far.place_is) (subst (λ (x : Database). CanBeNext line x (length so_far.entries)) (sym so_far.database) can));
          });
        }

    pub judged : Consumes mid new line → IsRead start new (IsEndedBy synced v at) × IfSome start (IsEndedBy synced v at)
    judged consumed =
        let joined = Consumes-trans start mid new dumped line so_far.consumed consumed in (
          record {
            text = dumped ++ (line ++ []);
            consumed = subst (Consumes start new) (ap (λ t. dumped ++ t) (sym (append-nil line))) joined;
            holds = ended [];
          },
          all start new joined,
        )
      where
        all : (a b : Option (List ℕ)) → Consumes a b (dumped ++ line) → IfSome a (IsEndedBy synced v at)
        all None b consumed = tt
        all (Some text) None consumed = absurd consumed
        all (Some text) (Some rest) consumed = subst (IsEndedBy synced v at) (sym (consumed ∙ append_assoc dumped line rest)) (ended rest)

  pub last_epoch : new ≡ mid → AreTooLarge d → IsRead start new (IsLastEpoch false)
  last_epoch same large = record {
    text = dumped;
    consumed = subst (λ (k : Option (List ℕ)). Consumes start k dumped) (sym same) so_far.consumed;
    holds = record { history = begun_with base so_far.entries; before = legal-dump; too_large = subst AreTooLarge so_far.database large };
  }

-- ---- a line that was read, or not

same_some : (x y : Entry) → Some x ≡ Some y → x ≡ y
same_some x y is = cc

module _ (line : List ℕ) (place : ℕ) (found : Option Entry)
    (told : (e : Entry) → (found ≡ Some e) ↔ ((place < last_place) × IsLine e × (line ≡ entry_line e))) where
  pub no_line : (number : ℕ) (d : Database) → found ≡ None → number ≡ place + 2 → IsRefused line d place (verdict.UnreadableLine number)
  no_line number d none number_is = (omega arith, λ is. absurd (none-some is.1 (sym none ∙ (told is.1).1 (omega (arith, is.0), is.2, is.3))))

  pub wrong_line : (at : ℕ) (d : Database) (e : Entry) → found ≡ Some e → at ≡ place + 1 → (IsNext d e → ⊥) → IsRefused line d place (verdict.WrongAt at)
  wrong_line at d e some at_is wrong = let of = (told e).0 some in (omega arith, of.0, (e, of.1, of.2, wrong))

  pub next_line : (old new : Database) (more : ℕ) (e : Entry) → found ≡ Some e → IsNext old e → new ≡ act old e.seat e.command → more ≡ place + 1 → IsNextLine line old new place more
  next_line old new more e some next after more_is =
      let of = (told e).0 some in
      record {
        entry = e;
        within = of.1;
        line_is = of.2;
        only = λ other within same. same_some other e (sym ((told other).1 (of.0, within, of.2 ∙ sym same)) ∙ some);
        room = of.0;
        next = next;
        database = after;
        place_is = omega arith;
      }

  pub no_next : (d : Database) → found ≡ None → CanBeNext line d place → ⊥
  no_next d none can = none-some can.0 (sym none ∙ (told can.0).1 (can.3, can.1, can.2))

  pub wrong_next : (d : Database) (e : Entry) → found ≡ Some e → (IsNext d e → ⊥) → CanBeNext line d place → ⊥
  wrong_next d e some wrong can =
      let same : can.0 ≡ e = same_some can.0 e (sym ((told can.0).1 (can.3, can.1, can.2)) ∙ some) in
      wrong (subst (IsNext d) same can.4)

-- ---- the base of what follows

is_base : (base : Option Database) → IsFirst base → IsBase (base_of base)
is_base None first = IsBase-empty
is_base (Some d) first = first

are_commands : (es : List Entry) → All IsLine es → All (λ e. IsCommand e.command) es
are_commands [] within = All-nil (λ (e : Entry). IsCommand e.command)
are_commands (e ∷ es) within =
    All-cons (λ (f : Entry). IsCommand f.command) e es (All-head IsLine e es within).entry.command (are_commands es (All-tail IsLine e es within))

pub database_after : (base : Option Database) (old new : Option (List ℕ)) (d : Database) (place taken : ℕ) → IsReplayed base old new d place taken → IsDatabase d
database_after base old new d place taken so_far =
    let valid = IsDatabase-replay (base_of base) so_far.entries (are_commands so_far.entries so_far.within) (is_base base so_far.first).database in
    subst IsDatabase (sym so_far.database) valid
