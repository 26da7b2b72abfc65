-- What a session knows whose calls may be refused for each reason.
use Rattle.std.specs.Prelude.{◌≡◌, ◌<◌, length, Bool, false}
use Rattle.model.specs.History.{Chronicle}
use Rattle.session_api.specs.Known.{Known}

-- it has seen this history, which has as many entries as it has room for; two sessions share a queue of one place
abbrev pub refused : Chronicle → Bool → Known
refused h lost = record {
  number = 0;
  base = h.base;
  room = length h.entries;
  sessions = 2;
  queue = 1;
  seen = h.entries;
  pushes = 0;
  lost = lost;
}

-- a session that is not lost may be refused by a full queue, and by a full history
pub record IsCrowded (k : Known) : Type 0 where
  pub there : k.lost ≡ false
  pub queue : k.queue < k.sessions
  pub full : length k.seen ≡ k.room
