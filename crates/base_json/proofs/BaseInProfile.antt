-- The first line of a later epoch is a text of the profile, of one line.
use Rattle.std.proofs.Common.{◌≡◌, ◌≤◌, true, Option, Some, None, All, refl, arith, IfSome}
use Rattle.std.specs.Prelude.{codes}
use Rattle.serde_json.specs.Data.{Data, unsigned, number, boolean, string, object, Members, no_members, member}
use Rattle.serde_json.specs.Written.{compact_text}
use Rattle.model.specs.Body.{Body, IsBody}
use Rattle.model.specs.Command.{Id, IsId}
use Rattle.model.specs.Database.{Database, Record, IsLocal}
use Rattle.model.specs.Local.{Local}
use Rattle.model.specs.Map.{entries}
use Rattle.model.specs.Profile.{is_before}
use Rattle.model.specs.PurgeLog.{PurgeInfo}
use Rattle.model.specs.Revision.{Rev, IsRev}
use Rattle.model.specs.Tree.{Revision}
use Rattle.document_json.specs.Written.{rev_data, revs_data}
use Rattle.document_json.proofs.JsonTexts.{json_of-value}
use Rattle.base_json.specs.Pieces.{IsPiece}
use Rattle.base_json.specs.Base.{IsKnown, IsLogged, base_data, base_text, begin_data, kept_local_data, log_members, parent_first, purge_info_data, record_data, revision_data, tree_data}
use Rattle.history_json.specs.Commands.{body_first}
use Rattle.history_json.specs.Lines.{is_one_line}
use Rattle.history_json.proofs.InProfile.{sound_id, sound_named, sound_rev, sound_revs}
use Rattle.history_json.proofs.OneLine.{one-compact_text}
use Rattle.history_json.proofs.Sound.{Sound, SoundMembers, sound_array, sound_body, sound_boolean, sound_items, sound_none, sound_number, sound_object, sound_text}

-- ---- revisions

sound_body_first : (body : Option Body) (more : Members) → IfSome body IsBody → is_before (codes "body") more ≡ true → SoundMembers 64 more → SoundMembers 64 (body_first body more)
sound_body_first None more h before s = s
sound_body_first (Some body) more h before s = sound_named 64 (codes "body") (object body) more refl before (sound_body 64 body (omega arith) h) s

sound_parent_first : (parent : Option Rev) (more : Members) → IfSome parent IsRev → is_before (codes "parent") more ≡ true → SoundMembers 64 more → SoundMembers 64 (parent_first parent more)
sound_parent_first None more h before s = s
sound_parent_first (Some parent) more h before s = sound_named 64 (codes "parent") (rev_data parent) more refl before (sound_rev 64 parent h) s

before_parent : (parent : Option Rev) (rev : Data) → is_before (codes "deleted") (parent_first parent (member (codes "rev") rev no_members)) ≡ true
before_parent None rev = refl
before_parent (Some parent) rev = refl

pub sound_known : (known : Rev × Revision) → IsKnown known → Sound 65 (revision_data known)
sound_known known h =
    sound_object 64 _
    (sound_body_first known.1.body _ h.body refl
    (sound_named 64 (codes "deleted") (boolean known.1.deleted) _ refl (before_parent known.1.parent (rev_data known.0)) (sound_boolean 64 known.1.deleted)
    (sound_parent_first known.1.parent _ h.parent refl
    (sound_named 64 (codes "rev") (rev_data known.0) no_members refl refl (sound_rev 64 known.0 h.rev) (sound_none 64)))))

-- ---- members of lists

-- a document whose revisions are such
pub record IsListed (document : Id × Record) : Type 0 where
  pub id : IsId document.0
  pub known : All IsKnown (entries document.1.tree)
  pub seq : document.1.seq ≤ 9223372036854775807

pub sound_record : (document : Id × Record) → IsListed document → Sound 67 (record_data document)
sound_record document h =
    sound_object 66 _
    (sound_named 66 (codes "id") (string document.0) _ refl refl (sound_id 66 document.0 h.id)
    (sound_named 66 (codes "revs") (tree_data document.1.tree) _ refl refl (sound_array 65 _ (sound_items 65 revision_data IsKnown sound_known (entries document.1.tree) h.known))
    (sound_named 66 (codes "seq") (number (unsigned document.1.seq)) no_members refl refl (sound_number 66 document.1.seq h.seq) (sound_none 66))))

pub sound_kept : (document : Id × Local) → IsLocal document.0 document.1 → Sound 67 (kept_local_data document)
sound_kept document h =
    let low = h.counter.1 in
    sound_object 66 _
    (sound_named 66 (codes "body") (object document.1.body) _ refl refl (sound_body 66 document.1.body (omega arith) h.body)
    (sound_named 66 (codes "id") (string document.0) _ refl refl (sound_id 66 document.0 h.identity)
    (sound_named 66 (codes "k") (number (unsigned document.1.counter)) no_members refl refl (sound_number 66 document.1.counter (omega arith)) (sound_none 66))))

pub sound_purge_info : (p : PurgeInfo) → IsLogged p → Sound 67 (purge_info_data p)
sound_purge_info p h =
    let low = h.seq in
    sound_object 66 _
    (sound_named 66 (codes "id") (string p.id) _ refl refl (sound_id 66 p.id h.purge.id)
    (sound_named 66 (codes "leaves") (revs_data p.leaves) _ refl refl (sound_revs 65 p.leaves h.purge.revs)
    (sound_named 66 (codes "seq") (number (unsigned p.seq)) no_members refl refl (sound_number 66 p.seq (omega arith)) (sound_none 66))))

-- ---- a base

-- what a base has, in lists
pub record AreListed (d : Database) : Type 0 where
  pub docs : All IsListed (entries d.docs)
  pub locals : All (λ l. IsLocal l.0 l.1) (entries d.locals)
  pub purges : All IsLogged d.purges.infos
  pub revs_limit : d.revs_limit ≤ 9223372036854775807
  pub purged_limit : d.purges.limit ≤ 9223372036854775807
  pub purge_seq : d.purges.purge_seq ≤ 9223372036854775807
  pub update_seq : d.update_seq ≤ 9223372036854775807

sound_log : (d : Database) → AreListed d → SoundMembers 68 (log_members d.purges d.update_seq)
sound_log d h =
    sound_named 68 (codes "purge_seq") (number (unsigned d.purges.purge_seq)) _ refl refl (sound_number 68 d.purges.purge_seq h.purge_seq)
    (sound_named 68 (codes "purged_limit") (number (unsigned d.purges.limit)) _ refl refl (sound_number 68 d.purges.limit h.purged_limit)
    (sound_named 68 (codes "purges") _ _ refl refl (sound_array 67 _ (sound_items 67 purge_info_data IsLogged sound_purge_info d.purges.infos h.purges))
    (sound_named 68 (codes "update_seq") (number (unsigned d.update_seq)) no_members refl refl (sound_number 68 d.update_seq h.update_seq) (sound_none 68))))

sound_base : (d : Database) → AreListed d → Sound 69 (base_data d)
sound_base d h =
    sound_object 68 _
    (sound_named 68 (codes "docs") _ _ refl refl (sound_array 67 _ (sound_items 67 record_data IsListed sound_record (entries d.docs) h.docs))
    (sound_named 68 (codes "limit") (number (unsigned d.revs_limit)) _ refl refl (sound_number 68 d.revs_limit h.revs_limit)
    (sound_named 68 (codes "locals") _ _ refl refl (sound_array 67 _ (sound_items 67 kept_local_data (λ l. IsLocal l.0 l.1) sound_kept (entries d.locals) h.locals))
    (sound_log d h))))

sound_begin : (d : Database) → AreListed d → Sound 70 (begin_data d)
sound_begin d h =
    sound_object 69 _
    (sound_named 69 (codes "base") (base_data d) _ refl refl (sound_base d h)
    (sound_named 69 (codes "couch_history") (number (unsigned 2)) no_members refl refl (sound_number 69 2 (omega arith)) (sound_none 69)))

-- the line has no line feed
pub base-one : (d : Database) → AreListed d → is_one_line (base_text d) ≡ true
base-one d h = one-compact_text (begin_data d) (sound_begin d h).whole

-- ---- pieces

piece : (d : Data) (ms : Members) → d ≡ object ms → Sound 67 d → IsPiece d
piece d ms is s = record {
  members = ms;
  is = is;
  whole = s.whole;
  reads = json_of-value d (compact_text d) (sound_text 67 d (omega arith) s) s.whole (omega (arith, s.nests));
}

pub piece_record : (document : Id × Record) → IsListed document → IsPiece (record_data document)
piece_record document h = piece (record_data document) _ refl (sound_record document h)

pub piece_kept : (document : Id × Local) → IsLocal document.0 document.1 → IsPiece (kept_local_data document)
piece_kept document h = piece (kept_local_data document) _ refl (sound_kept document h)

pub piece_purge_info : (p : PurgeInfo) → IsLogged p → IsPiece (purge_info_data p)
piece_purge_info p h = piece (purge_info_data p) _ refl (sound_purge_info p h)
