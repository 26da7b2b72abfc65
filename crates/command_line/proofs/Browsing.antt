-- Lists that allow nothing that they name.
use Rattle.std.proofs.Common.{◌≡◌, true, Option, Some, None}
use Rattle.clap.specs.Words.{Text}
use Rattle.command_line.specs.Browsers.{is_asked, IsAllowedBy, IsBrowsersBy}
use Rattle.command_line.specs.declared.browsers.Allowed.{Allowed}
use Rattle.command_line.specs.declared.browsers.BrowserOptions.{BrowserOptions}
use Rattle.command_line.specs.declared.listed.ListOf.TheVariants.{Origins, Hosts}

-- where the list of origins is refused, nothing is decided by it
pub refused-origins : (folder origins hosts : Option Text) → is_asked folder origins hosts ≡ true → ((allowed : Allowed) → IsAllowedBy Origins origins allowed → ⊥)
    → (browsers : Option BrowserOptions) → IsBrowsersBy folder origins hosts browsers → ⊥
refused-origins folder origins hosts asked none None given = cc
refused-origins folder origins hosts asked none (Some browsers) given = none browsers.origins given.1.origins_are

-- nor where the list of hosts is
pub refused-hosts : (folder origins hosts : Option Text) → is_asked folder origins hosts ≡ true → ((allowed : Allowed) → IsAllowedBy Hosts hosts allowed → ⊥)
    → (browsers : Option BrowserOptions) → IsBrowsersBy folder origins hosts browsers → ⊥
refused-hosts folder origins hosts asked none None given = cc
refused-hosts folder origins hosts asked none (Some browsers) given = none browsers.hosts given.1.hosts_are
