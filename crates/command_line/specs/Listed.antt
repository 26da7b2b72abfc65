-- Lists in arguments.
use Rattle.std.specs.Prelude.{◌≡◌, ◌==◌, ◌<◌, ℕ, Bool, List, [], ◌∷◌, length, Option, Some, None, option_and_then, option_map, if◌then◌else◌}
use Rattle.std.specs.List.{after_first, before_first, position_or_len, slice_split}
use Rattle.clap.specs.Words.{Text}
use Rattle.command_line.specs.DocIds.{id_of}
use Rattle.command_line.specs.Origins.{is_host, is_origin}
use Rattle.command_line.specs.declared.listed.ListOf.{ListOf}
use Rattle.command_line.specs.declared.listed.ListOf.TheVariants.{Ids, Origins, Hosts}

-- b','
abbrev pub is_comma : ℕ → Bool
is_comma byte = byte == 44

-- a list has a comma, and the first one is between these
pub record IsSplit (list first rest : Text) : Type 0 where
  pub there : position_or_len is_comma list < length list
  pub first_is : first ≡ before_first is_comma list
  pub rest_is : rest ≡ after_first is_comma list

-- what a part of a list stands for, if it does for one of what the list is of
abbrev pub item_of : ListOf → Text → Option Text
item_of Ids part = id_of part
item_of Origins part = if is_origin part then Some part else None
item_of Hosts part = if is_host part then Some part else None

-- what each part stands for, if each does for one
abbrev pub each_item : (Text → Option Text) → List Text → Option (List Text)
each_item item [] = Some []
each_item item (part ∷ parts) = option_and_then (λ first. option_map (λ more. first ∷ more) (each_item item parts)) (item part)

-- what a text lists between commas, if each part stands for one
abbrev pub items_listed : (Text → Option Text) → Text → Option (List Text)
items_listed item list = each_item item (slice_split is_comma list)
