-- The options of `couchd serve` for the pages of browsers.
use Rattle.std.specs.Prelude.{◌≡◌, ◌≢◌, ◌||◌, Bool, IsTrue, IsFalse, List, [], map, Option, None, Some, is_some, codes, string_bytes}
use Rattle.clap.specs.Words.{App, Row, Text, with_rule, first_of}
use Rattle.command_line.specs.Listed.{item_of, items_listed}
use Rattle.command_line.specs.Texts.{optional_text}
use Rattle.command_line.specs.declared.browsers.Allowed.{Allowed}
use Rattle.command_line.specs.declared.browsers.Allowed.TheVariants.{All, Only}
use Rattle.command_line.specs.declared.browsers.BrowserOptions.{BrowserOptions}
use Rattle.command_line.specs.declared.listed.ListOf.{ListOf}
use Rattle.command_line.specs.declared.listed.ListOf.TheVariants.{Origins, Hosts}

-- the command with these options
abbrev pub with_browsers : App → App
with_browsers app = with_rule (with_rule app (optional_text (codes "origins"))) (optional_text (codes "hosts"))

-- a list allows all where it is `*`, and else what its parts are; without a list nothing is allowed
abbrev pub IsAllowedBy : ListOf → Option Text → Allowed → Type 0
IsAllowedBy of None All = ⊥
IsAllowedBy of None (Only texts) = texts.items ≡ []
IsAllowedBy of (Some list) All = list ≡ codes "*"
IsAllowedBy of (Some list) (Only texts) =
    (list ≢ codes "*") × (items_listed (item_of of) list ≡ Some (map string_bytes texts.items))

-- what both lists allow
pub record IsGivenBy (origins hosts : Option Text) (browsers : BrowserOptions) : Type 0 where
  pub origins_are : IsAllowedBy Origins origins browsers.origins
  pub hosts_are : IsAllowedBy Hosts hosts browsers.hosts

-- something is decided of requests where there is a journal, or one of the lists
abbrev pub is_asked : Option Text → Option Text → Option Text → Bool
is_asked folder origins hosts = is_some folder || is_some origins || is_some hosts

-- what is decided by a folder for a journal, and by these lists
abbrev pub IsBrowsersBy : Option Text → Option Text → Option Text → Option BrowserOptions → Type 0
IsBrowsersBy folder origins hosts None = IsFalse (is_asked folder origins hosts)
IsBrowsersBy folder origins hosts (Some browsers) = IsTrue (is_asked folder origins hosts) × IsGivenBy origins hosts browsers

-- what is decided by the arguments
abbrev pub IsBrowsersOf : List Row → Option BrowserOptions → Type 0
IsBrowsersOf given =
    IsBrowsersBy (first_of (codes "data") given) (first_of (codes "origins") given) (first_of (codes "hosts") given)
