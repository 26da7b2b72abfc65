-- The arguments of `couchd serve`.
use Rattle.std.specs.Prelude.{◌≡◌, ◌≤◌, List, true, codes, is_some}
use Rattle.clap.specs.Words.{App, Row, new_app, with_rule, first_of, one_of}
use Rattle.command_line.specs.Browsers.{with_browsers, IsBrowsersOf}
use Rattle.command_line.specs.Flags.{flag, IsFlagOf}
use Rattle.command_line.specs.Journal.{with_journal, IsJournalOf}
use Rattle.command_line.specs.Numbers.{number_option, IsNumberOf}
use Rattle.command_line.specs.declared.serving.Serving.{Serving}

-- `couchd serve` with its port and its workers
abbrev pub serve_with_workers : App
serve_with_workers =
    with_rule (with_rule (with_rule (new_app (codes "serve"))
    (number_option (codes "port") 0 65535 (codes "5984")))
    (number_option (codes "workers") 1 64 (codes "4")))
    (number_option (codes "connections") 0 4294967295 (codes "0"))

-- the same with all that is counted
abbrev pub serve_with_counts : App
serve_with_counts = with_rule serve_with_workers (number_option (codes "clients") 1 65536 (codes "4096"))

-- the command with the options for its times and its history
abbrev pub with_bounds : App → App
with_bounds app =
    with_rule (with_rule (with_rule app
    (number_option (codes "idle") 1 86400 (codes "15")))
    (number_option (codes "patience") 1 86400 (codes "60")))
    (number_option (codes "max-places") 1 4294967295 (codes "1000000"))

-- `couchd serve` with its options
abbrev pub serve : App
serve = with_browsers (with_journal (with_rule (with_bounds serve_with_counts) (flag (codes "log"))))

-- each number is the one that the arguments give, or else the default, and within its range
pub record HasNumbersOf (given : List Row) (serving : Serving) : Type 0 where
  pub port : IsNumberOf (first_of (codes "port") given) 5984 serving.port
  pub port_range : serving.port ≤ 65535
  pub workers : IsNumberOf (first_of (codes "workers") given) 4 serving.workers
  pub workers_range : (1 ≤ serving.workers) × (serving.workers ≤ 64)
  pub connections : IsNumberOf (first_of (codes "connections") given) 0 serving.connections
  pub connections_range : serving.connections ≤ 4294967295
  pub clients : IsNumberOf (first_of (codes "clients") given) 4096 serving.clients
  pub clients_range : (1 ≤ serving.clients) × (serving.clients ≤ 65536)
  pub idle : IsNumberOf (first_of (codes "idle") given) 15 serving.idle
  pub idle_range : (1 ≤ serving.idle) × (serving.idle ≤ 86400)
  pub patience : IsNumberOf (first_of (codes "patience") given) 60 serving.patience
  pub patience_range : (1 ≤ serving.patience) × (serving.patience ≤ 86400)
  pub max_places : IsNumberOf (first_of (codes "max-places") given) 1000000 serving.max_places
  pub max_places_range : (1 ≤ serving.max_places) × (serving.max_places ≤ 4294967295)

-- the numbers, the flag, the journal and what browsers may are those that the arguments give, and a session is left for the journal
pub record IsServingOf (given : List Row) (serving : Serving) : Type 0 where
  pub numbers : HasNumbersOf given serving
  pub log : IsFlagOf (one_of (codes "log") given) serving.log
  pub journal : IsJournalOf given serving.journal
  pub browsers : IsBrowsersOf given serving.browsers
  pub session : is_some serving.journal ≡ true → serving.workers ≤ 63
