-- What the examples speak of: a session that asks one command after another, and its documents.
use Rattle.std.specs.Prelude.{⊤, ℕ, ◌+◌, true, false, List, [], ◌∷◌, replicate, map, codes, Option, Some, None}
use Rattle.std.specs.Fmt.{digits}
use Rattle.json.specs.Print.{escape_byte}
use Rattle.md5.specs.Md5.{md5, digest_bytes, hash_after, compress, rounds, block_words}
use Rattle.hex.specs.Hex.{encode_with}
use Rattle.serde_json.specs.Data.{unsigned, number, no_members, member}
use Rattle.model.specs.Body.{Body, same_body}
use Rattle.model.specs.Map.{Map, empty, put, from_list}
use Rattle.model.specs.Revision.{Rev, revs}
use Rattle.model.specs.Tree.{Revision, Tree, has_child, leaves}
use Rattle.model.specs.TreeChange.{restrict, stem, strip, cut, grafted, graft}
use Rattle.model.specs.Command.{Id, names, Edit, Merge, Command, Edits, Merges, Job, Entry, Reply}
use Rattle.model.specs.Query.{Options, Document, Query, Answer}
use Rattle.model.specs.PurgeLog.{is_overrun}
use Rattle.model.specs.Edit.{with_path, edited, merged}
use Rattle.model.specs.Database.{Database, Record, empty_database, same_tree, store, reply_to, changed_by, act}
use Rattle.model.specs.History.{replay, batch_entries}
use Rattle.model.specs.Documents.{document}
use Rattle.model.specs.Changes.{by_seq, changes_page}
use Rattle.model.specs.Answers.{answer_to}
use Rattle.model.specs.World.{step}

-- what an example unfolds
unfoldable pub computed : ⊤
unfolding same_body has_child leaves restrict stem strip cut grafted graft is_overrun with_path edited merged same_tree store reply_to changed_by act document by_seq changes_page answer_to step escape_byte md5 digest_bytes hash_after compress rounds block_words encode_with digits
computed = tt

-- ---- one session's commands, one after another

abbrev pub jobs_from : ℕ → List Command → List Job
jobs_from call [] = []
jobs_from call (c ∷ cs) = record { seat = record { session = 0; call = call }; command = c } ∷ jobs_from (call + 1) cs

abbrev pub history : List Command → List Entry
history cs = batch_entries empty_database (jobs_from 1 cs)

abbrev pub replies : List Command → List Reply
replies cs = map (λ e. e.reply) (history cs)

abbrev pub after : List Command → Database
after cs = replay empty_database (history cs)

-- ---- bodies, and revisions whose hash repeats a byte

abbrev pub braces : Body
braces = no_members

-- `{"n":k}`
abbrev pub counting : ℕ → Body
counting k = member (codes "n") (number (unsigned k)) no_members

abbrev pub rev : ℕ → ℕ → Rev
rev n byte = record { generation = n; hash = replicate 16 byte }

-- ---- commands

abbrev pub edit : Id → Option Rev → Body → Edit
edit id named body = record { id = id; named = named; deleted = false; body = body }

-- a document's first revision, with the body `{}`
abbrev pub put_new : Id → Command
put_new id = Edits (edit id None braces ∷ [])

abbrev pub put_over : Id → Rev → Body → Command
put_over id r body = Edits (edit id (Some r) body ∷ [])

abbrev pub delete : Id → Option Rev → Command
delete id named = Edits (record { id = id; named = named; deleted = true; body = braces } ∷ [])

-- a path, newest first, with the body `{}`
abbrev pub path : Id → Rev → List Rev → Merge
path id newest older = record { id = id; newest = newest; older = older; deleted = false; body = braces }

abbrev pub merge : Id → Rev → List Rev → Command
merge id newest older = Merges (path id newest older ∷ [])

abbrev pub of : Id → List Rev → Map names (List Rev)
of id rs = put empty id rs

-- ---- what is kept of a document

abbrev pub tree : List (Rev × Revision) → Tree
tree es = from_list {O = revs} es

abbrev pub with_body : Option Rev → Body → Revision
with_body parent body = record { parent = parent; deleted = false; body = Some body }

abbrev pub without_body : Option Rev → Revision
without_body parent = record { parent = parent; deleted = false; body = None }

abbrev pub record_of : ℕ → List (Rev × Revision) → Record
record_of seq es = record { tree = tree es; seq = seq }

-- ---- queries

abbrev pub plain : Options
plain = record { latest = false; revs = false; revs_info = false; conflicts = false; deleted_conflicts = false }

abbrev pub shown : Id → Rev → Body → Document
shown id r body = record { id = id; rev = r; deleted = false; body = body; revisions = None; revs_info = None; conflicts = []; deleted_conflicts = [] }

abbrev pub answer : List Command → Query → Answer
answer cs q = answer_to (after cs) q

-- ---- documents, and the revisions that edits of `{}` make

abbrev pub a : Id
a = codes "a"

abbrev pub b : Id
b = codes "b"

abbrev pub c : Id
c = codes "c"

abbrev pub d : Id
d = codes "d"

abbrev pub x : Id
x = codes "x"

abbrev pub y : Id
y = codes "y"

abbrev pub a1 : Rev
a1 = record { generation = 1; hash = 0xb7 ∷ 0xa5 ∷ 0x84 ∷ 0x1a ∷ 0xeb ∷ 0x59 ∷ 0xf1 ∷ 0xbe ∷ 0x5d ∷ 0x0e ∷ 0x27 ∷ 0xb6 ∷ 0x40 ∷ 0x82 ∷ 0x70 ∷ 0x94 ∷ [] }

-- over a1 with `{"n":1}`
abbrev pub a2 : Rev
a2 = record { generation = 2; hash = 0xda ∷ 0x7d ∷ 0xa3 ∷ 0xd3 ∷ 0xa3 ∷ 0xfd ∷ 0x85 ∷ 0x2f ∷ 0x31 ∷ 0xbb ∷ 0xfc ∷ 0x77 ∷ 0x44 ∷ 0x6d ∷ 0x4d ∷ 0x45 ∷ [] }

-- over a2 with `{"n":2}`
abbrev pub a3 : Rev
a3 = record { generation = 3; hash = 0x1f ∷ 0x86 ∷ 0xe4 ∷ 0xa2 ∷ 0x76 ∷ 0x55 ∷ 0x5b ∷ 0x9f ∷ 0x7b ∷ 0xb0 ∷ 0x77 ∷ 0x07 ∷ 0x74 ∷ 0xad ∷ 0x36 ∷ 0xbb ∷ [] }

-- the deletion of a1
abbrev pub x2 : Rev
x2 = record { generation = 2; hash = 0xaf ∷ 0xb9 ∷ 0x65 ∷ 0x02 ∷ 0xf1 ∷ 0x06 ∷ 0xd3 ∷ 0xac ∷ 0x58 ∷ 0xe3 ∷ 0x1b ∷ 0x6f ∷ 0x3d ∷ 0x8b ∷ 0xc9 ∷ 0xa9 ∷ [] }

-- over x2 with `{}`
abbrev pub x3 : Rev
x3 = record { generation = 3; hash = 0x7a ∷ 0x57 ∷ 0x80 ∷ 0x27 ∷ 0x14 ∷ 0x97 ∷ 0x37 ∷ 0x60 ∷ 0xed ∷ 0x7c ∷ 0x24 ∷ 0xf0 ∷ 0xc7 ∷ 0x68 ∷ 0xb2 ∷ 0xa7 ∷ [] }
