-- What a parse that succeeds has met.
use Rattle.std.proofs.Common.{◌≡◌, ◌∙◌, refl, ap, subst, true, false, Bool, List, ℕ, Option, Some, None, is_some, option_map, [], ◌∷◌, ◌⊎◌, find, inl, inr, sym, if◌then◌else◌}
use Rattle.std.proofs.lemmas.Option.{same_Some}
use Rattle.clap.specs.Words.{App, HasMatchesOf, IsParsedFrom, Row, Text, app_of, built, is_simple, is_simple_and_free, subcommand_name_of, subcommand_of, subcommand_rows, subcommand_rows_of}
use Rattle.clap.specs.Simple.{entered, rows_at, label_of, Shape, names_of, argument_words}
use Rattle.clap.specs.Walk.{answers_to, stop_after}
use Rattle.clap.specs.declared.builder.command.Command.{Command}
use Rattle.clap.specs.declared.builder.command.Command.TheViews.{out-Command as fields_of}
use Rattle.clap.specs.declared.parser.matches.ArgMatches.{ArgMatches}
use Rattle.clap.specs.declared.parser.matches.ArgMatches.TheViews.{out-ArgMatches, out-SubCommand}
use Rattle.clap.specs.declared.parser.matches.SubCommand.{SubCommand}
use Rattle.std.specs.Prelude.{Box}
use Rattle.std.specs.Box.{box_value}
use Rattle.clap.proofs.OnLiterals.{clap_on_literals}
use Rattle.command_line.specs.Couchd.{couchd}
use Rattle.command_line.specs.Replay.{replay}

pub couchd_is_simple : is_simple couchd ≡ true
unfolding clap_on_literals
couchd_is_simple = refl

pub couchd_is_simple_and_free : is_simple_and_free couchd ≡ true
unfolding clap_on_literals
couchd_is_simple_and_free = refl

pub replay_is_simple : is_simple replay ≡ true
unfolding clap_on_literals
replay_is_simple = refl

pub replay_is_simple_and_free : is_simple_and_free replay ≡ true
unfolding clap_on_literals
replay_is_simple_and_free = refl

-- it is the name of one of these
abbrev pub IsNameOf : List Shape → Option Text → Type 0
IsNameOf [] name = ⊥
IsNameOf (sub ∷ subs) name = (name ≡ Some sub.name) ⊎ IsNameOf subs name

-- a subcommand that was entered has the name of one of them
entered_among : (name : Text) (words : List Text) (subs : List Shape)
    → is_some (option_map (λ s. rows_at s words) (find (λ s. answers_to name (label_of s)) subs)) ≡ true
    → IsNameOf subs (option_map (λ s. s.0) (option_map (λ s. rows_at s words) (find (λ s. answers_to name (label_of s)) subs)))
entered_among name words [] h = cc
entered_among name words (sub ∷ subs) h =
    let found : Bool → Option Shape = λ b. if b then Some sub else find (λ s. answers_to name (label_of s)) subs in
    let motive : Bool → Type 0 = λ b. is_some (option_map (λ s. rows_at s words) (found b)) ≡ true
    → IsNameOf (sub ∷ subs) (option_map (λ s. s.0) (option_map (λ s. rows_at s words) (found b))) in
    elim (answers_to name (label_of sub)) as motive [
      | true ↦ λ _. inl refl
      | false ↦ λ met. inr (entered_among name words subs met)
    ] h

entered_one : (app : App) (stop : Option (Text × List Text)) → is_some (entered app stop) ≡ true
    → IsNameOf app.subs (option_map (λ s. s.0) (entered app stop))
entered_one app None h = cc
entered_one app (Some (name, words)) h = entered_among name words app.subs h

name_of_rows : {Z : Type 0} (sub : Option (Box SubCommand Z))
    → option_map (λ b. (out-SubCommand (box_value b)).name.now) sub ≡ option_map (λ s. s.0) (subcommand_rows sub)
name_of_rows None = refl
name_of_rows (Some sub) = refl

rows_of_some : {Z : Type 0} (sub : Option (Box SubCommand Z)) → is_some sub ≡ true → is_some (subcommand_rows sub) ≡ true
rows_of_some None h = h
rows_of_some (Some sub) h = h

module _ (line : App) (simple : is_simple line ≡ true) (command : Command) (matches : ArgMatches) (words : List Text) (app : app_of command ≡ line)
    (matched : HasMatchesOf (app_of command) words matches) where
  -- the rows of the subcommand are those that the arguments name
  pub rows_named : subcommand_rows_of matches ≡ subcommand_of line words
  rows_named = (matched (ap is_simple app ∙ simple)).1 ∙ ap (λ (a : App). subcommand_of a words) app

  -- a parse that succeeds has met one of its subcommands
  pub meets_one : (fields_of command).has_globals ≡ false → (fields_of command).subcommand_required ≡ true → IsParsedFrom command matches
      → IsNameOf (built line).subs (subcommand_name_of matches)
  meets_one local required parsed =
      let used = (parsed.parsed (parsed.from.globals ∙ local)).checked.subcommand (parsed.from.needs_subcommand ∙ required) in
      let named = name_of_rows (out-ArgMatches matches).subcommand ∙ ap (option_map (λ (s : Text × List Row). s.0)) rows_named in
      let some = subst (λ (r : Option (Text × List Row)). is_some r ≡ true) rows_named (rows_of_some (out-ArgMatches matches).subcommand used) in
      let stop = stop_after (built line).top.rules (names_of (built line)) (argument_words line words) in
      subst (IsNameOf (built line).subs) (sym named) (entered_one (built line) stop some)

  -- the subcommand has this name, and rows
  pub names : (name : Text) → subcommand_name_of matches ≡ Some name → (given : List Row) × (subcommand_of line words ≡ Some (name, given))
  names name is =
      with_name (subcommand_of line words) (ap (option_map (λ (s : Text × List Row). s.0)) (sym rows_named) ∙ sym (name_of_rows (out-ArgMatches matches).subcommand) ∙ is)
    where
      with_name : (rows : Option (Text × List Row)) → option_map (λ s. s.0) rows ≡ Some name → (given : List Row) × (rows ≡ Some (name, given))
      with_name None e = cc
      with_name (Some (found, given)) e =
          let same : found ≡ name = cc in
          (given, ap (λ (n : Text). Some (n, given)) same)

  -- what is found of the subcommand holds the rows that the arguments name
  pub rows_held : {P : Type 0} (rows : P → List Row) (found : Option P) (held : P) → option_map rows found ≡ option_map (λ s. s.1) (subcommand_rows_of matches) → found ≡ Some held
      → (name : Text) (given : List Row) → subcommand_of line words ≡ Some (name, given) → given ≡ rows held
  rows_held rows found held of_found is name given named =
      same_Some given (rows held) (ap (option_map (λ (s : Text × List Row). s.1)) (sym named ∙ sym rows_named) ∙ sym of_found ∙ ap (option_map rows) is)

-- what an option holds, from its image
pub mapped_some : {A : Type 0} (f : A → List ℕ) (o : Option A) (x : A) (y : List ℕ) → option_map f o ≡ Some y → o ≡ Some x → f x ≡ y
mapped_some {A = A} f o x y mapped is =
    let here : option_map f (Some x) ≡ Some y = subst (λ (o : Option A). option_map f o ≡ Some y) is mapped in cc
