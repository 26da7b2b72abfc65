-- Options without a value.
use Rattle.std.specs.Prelude.{◌≡◌, Bool, true, false, Option, Some, None, codes}
use Rattle.clap.specs.Words.{Rule, Text, new_rule}
use Rattle.clap.specs.declared.builder.action.ArgAction.TheVariants.{SetTrue}

-- a flag of this name
abbrev pub flag : Text → Rule
flag name = record (new_rule name) { long = Some name; action = Some SetTrue }

-- `clap` has `true` for a flag that was given, and else `false`
pub record IsFlagOf (given : Option Text) (flag : Bool) : Type 0 where
  pub set : given ≡ Some (codes "true") → flag ≡ true
  pub unset : given ≡ Some (codes "false") → flag ≡ false
  pub none : given ≡ None → flag ≡ false
