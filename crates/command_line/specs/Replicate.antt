-- The arguments of `couchd replicate`.
use Rattle.std.specs.Prelude.{◌≡◌, ◌≢◌, ◌≤◌, List, [], ◌∷◌, map, Option, Some, None, option_map, length, codes, string_bytes}
use Rattle.clap.specs.Words.{App, Row, Text, new_app, with_rule, first_of, one_of}
use Rattle.command_line.specs.DocIds.{id_of}
use Rattle.command_line.specs.Flags.{flag, IsFlagOf}
use Rattle.command_line.specs.Listed.{items_listed}
use Rattle.command_line.specs.Numbers.{number_option, IsNumberOf}
use Rattle.command_line.specs.Places.{IsPlaceOf}
use Rattle.command_line.specs.Texts.{optional_text, text_option}
use Rattle.command_line.specs.declared.replicate.Replicating.{Replicating}

-- `couchd replicate` with the options for its ends
abbrev pub replicate_all : App
replicate_all =
    with_rule (with_rule (with_rule (new_app (codes "replicate"))
    (text_option (codes "source")))
    (text_option (codes "target")))
    (optional_text (codes "id"))

-- `couchd replicate` with these, and the options for what is brought within which bounds
abbrev pub replicate_within : App
replicate_within =
    with_rule (with_rule (with_rule replicate_all
    (optional_text (codes "doc-ids")))
    (number_option (codes "patience") 1 86400 (codes "60")))
    (number_option (codes "max-answer") 1 4294967295 (codes "67108864"))

-- `couchd replicate` with its options
abbrev pub replicate : App
replicate = with_rule (with_rule replicate_within (flag (codes "skip"))) (flag (codes "continuous"))

-- the text has a first byte, which is not `_`
abbrev pub BeginsPlain : Text → Type 0
BeginsPlain [] = ⊥
BeginsPlain (byte ∷ rest) = byte ≢ 95

-- the text is this id, which has 1 to 512 bytes, of which the first is not `_`, or none is given
abbrev pub IsIdOf : Option Text → Option Text → Type 0
IsIdOf None id = id ≡ None
IsIdOf (Some text) id = (id ≡ Some text) × BeginsPlain text × (length text ≤ 512)

-- the list has these ids, or none is given
abbrev pub IsListOf : Option Text → Option (List Text) → Type 0
IsListOf None ids = ids ≡ None
IsListOf (Some list) ids = (listed : List Text) × (items_listed id_of list ≡ Some listed) × (ids ≡ Some listed)

-- each is the one that the arguments give, and the places are two
pub record IsReplicatingOf (given : List Row) (replicating : Replicating) : Type 0 where
  pub source : IsPlaceOf (first_of (codes "source") given) (string_bytes replicating.source)
  pub target : IsPlaceOf (first_of (codes "target") given) (string_bytes replicating.target)
  pub apart : string_bytes replicating.source ≢ string_bytes replicating.target
  pub id : IsIdOf (first_of (codes "id") given) (option_map string_bytes replicating.id)
  pub doc_ids : IsListOf (first_of (codes "doc-ids") given) (option_map (λ texts. map string_bytes texts.items) replicating.doc_ids)
  pub patience : IsNumberOf (first_of (codes "patience") given) 60 replicating.patience
  pub patience_range : (1 ≤ replicating.patience) × (replicating.patience ≤ 86400)
  pub max_answer : IsNumberOf (first_of (codes "max-answer") given) 67108864 replicating.max_answer
  pub max_answer_range : (1 ≤ replicating.max_answer) × (replicating.max_answer ≤ 4294967295)
  pub skip : IsFlagOf (one_of (codes "skip") given) replicating.skip
  pub continuous : IsFlagOf (one_of (codes "continuous") given) replicating.continuous
