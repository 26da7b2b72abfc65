-- The line of an entry in a dump.
use Rattle.std.specs.Prelude.{◌≤◌, ℕ, List, codes}
use Rattle.serde_json.specs.Data.{Data, unsigned, number, array, object, item, no_items, member, no_members}
use Rattle.serde_json.specs.Written.{compact_text}
use Rattle.model.specs.Command.{Seat, Entry, IsEntry}
use Rattle.history_json.specs.Commands.{command_data}
use Rattle.history_json.specs.Replies.{reply_data}

-- `[session,call]`
abbrev pub seat_data : Seat → Data
seat_data seat = array (item (number (unsigned seat.session)) (item (number (unsigned seat.call)) no_items))

-- `{"command":c,"reply":r,"seat":[s,n]}`
abbrev pub entry_data : Entry → Data
entry_data e =
    object (member (codes "command") (command_data e.command) (member (codes "reply") (reply_data e.reply) (member (codes "seat") (seat_data e.seat) no_members)))

-- the text of the line, with no space and without the line feed at its end
-- RFC 8259, 2 "JSON Grammar"
abbrev pub line_text : Entry → List ℕ
line_text e = compact_text (entry_data e)

-- the largest whole number of `i64`, which is the largest that JSON has here
-- RFC 8259, 6 "Numbers"
abbrev pub largest_call : ℕ
largest_call = 9223372036854775807

-- ids, revisions, paths, bodies, numbers and counts keep their limits, and the reply has the form of an answer to the command
pub record IsLine (e : Entry) : Type 0 where
  pub entry : IsEntry e
  pub call : e.seat.call ≤ largest_call
