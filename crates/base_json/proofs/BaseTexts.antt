-- The text of a base that is written in parts.
use Rattle.std.proofs.Common.{◌≡◌, ℕ, Bool, List, ◌++◌, Option, Some, None, append_assoc, decimal, refl, sym, ap, ◌∙◌, arith}
use Rattle.std.specs.Prelude.{map, true, false, codes}
use Rattle.std.proofs.lemmas.Fmt.{decimal_digit}
use Rattle.serde_json.proofs.OnLiterals.{serde_json_on_literals}
use Rattle.serde_json.specs.Data.{string, array, object}
use Rattle.serde_json.specs.View.{items_of}
use Rattle.serde_json.specs.Written.{compact_text, members_text}
use Rattle.model.specs.Body.{Body, body_text}
use Rattle.model.specs.Command.{Id}
use Rattle.model.specs.Database.{Database, Record}
use Rattle.model.specs.Local.{Local}
use Rattle.model.specs.Map.{entries}
use Rattle.model.specs.PurgeLog.{PurgeInfo, PurgeLog}
use Rattle.model.specs.Revision.{Rev}
use Rattle.document_json.specs.Written.{rev_data, revs_data}
use Rattle.base_json.specs.Base.{base_data, base_text, kept_local_data, log_members, purge_info_data, record_data, revision_data, tree_data}
use Rattle.history_json.specs.Fronts.{body_front}
use Rattle.base_json.specs.Fronts.{parent_front}
use Rattle.history_json.proofs.Texts.{flag}

pub base_line_text : (d : Database) → codes "{\"base\":" ++ (compact_text (base_data d) ++ codes ",\"couch_history\":2}") ≡ base_text d
unfolding serde_json_on_literals
base_line_text d = ap (λ n. codes "{\"base\":" ++ (compact_text (base_data d) ++ (codes ",\"couch_history\":" ++ (n ++ codes "}")))) (sym (decimal_digit 2 (omega arith)))

pub database_text : (d : Database)
    → codes "{\"docs\":" ++ (compact_text (array (items_of (map record_data (entries d.docs)))) ++ (codes ",\"limit\":" ++ (decimal d.revs_limit ++ (codes ",\"locals\":"
    ++ (compact_text (array (items_of (map kept_local_data (entries d.locals)))) ++ members_text true (log_members d.purges d.update_seq)))))) ≡ compact_text (base_data d)
unfolding serde_json_on_literals
database_text d = refl

pub log_text : (log : PurgeLog) (update_seq : ℕ)
    → codes ",\"purge_seq\":" ++ (decimal log.purge_seq ++ (codes ",\"purged_limit\":" ++ (decimal log.limit ++ (codes ",\"purges\":"
    ++ (compact_text (array (items_of (map purge_info_data log.infos))) ++ (codes ",\"update_seq\":" ++ (decimal update_seq ++ codes "}")))))))
    ≡ members_text true (log_members log update_seq)
unfolding serde_json_on_literals
log_text log update_seq = refl

begun_text : (docs limit locals log end : List ℕ)
    → codes "{\"base\":" ++ ((codes "{\"docs\":" ++ (docs ++ (codes ",\"limit\":" ++ (limit ++ (codes ",\"locals\":" ++ (locals ++ log)))))) ++ end)
    ≡ codes "{\"base\":{\"docs\":" ++ (docs ++ (codes ",\"limit\":" ++ (limit ++ (codes ",\"locals\":" ++ (locals ++ (log ++ end))))))
begun_text docs limit locals log end = simp append_assoc refl

-- the line, one piece behind another
pub base_pieces : (d : Database)
    → base_text d ≡ codes "{\"base\":{\"docs\":" ++ (compact_text (array (items_of (map record_data (entries d.docs)))) ++ (codes ",\"limit\":" ++ (decimal d.revs_limit
    ++ (codes ",\"locals\":" ++ (compact_text (array (items_of (map kept_local_data (entries d.locals)))) ++ (members_text true (log_members d.purges d.update_seq)
    ++ codes ",\"couch_history\":2}"))))))
base_pieces d =
    sym (base_line_text d) ∙ ap (λ t. codes "{\"base\":" ++ (t ++ codes ",\"couch_history\":2}")) (sym (database_text d))
    ∙ begun_text (compact_text (array (items_of (map record_data (entries d.docs))))) (decimal d.revs_limit) (compact_text (array (items_of (map kept_local_data (entries d.locals)))))
    (members_text true (log_members d.purges d.update_seq)) (codes ",\"couch_history\":2}")

logged_text : (seq limit purges updates end : List ℕ)
    → (codes ",\"purge_seq\":" ++ (seq ++ (codes ",\"purged_limit\":" ++ (limit ++ (codes ",\"purges\":" ++ (purges ++ (codes ",\"update_seq\":" ++ (updates ++ codes "}")))))))) ++ end
    ≡ codes ",\"purge_seq\":" ++ (seq ++ (codes ",\"purged_limit\":" ++ (limit ++ (codes ",\"purges\":" ++ (purges ++ (codes ",\"update_seq\":" ++ (updates ++ (codes "}" ++ end))))))))
logged_text seq limit purges updates end = simp append_assoc refl

-- the log, one piece behind another, and what is behind it
pub log_pieces : (log : PurgeLog) (update_seq : ℕ) (end : List ℕ)
    → members_text true (log_members log update_seq) ++ end
    ≡ codes ",\"purge_seq\":" ++ (decimal log.purge_seq ++ (codes ",\"purged_limit\":" ++ (decimal log.limit ++ (codes ",\"purges\":"
    ++ (compact_text (array (items_of (map purge_info_data log.infos))) ++ (codes ",\"update_seq\":" ++ (decimal update_seq ++ (codes "}" ++ end))))))))
log_pieces log update_seq end =
    ap (λ t. t ++ end) (sym (log_text log update_seq))
    ∙ logged_text (decimal log.purge_seq) (decimal log.limit) (compact_text (array (items_of (map purge_info_data log.infos)))) (decimal update_seq) end

pub record_text : (id : Id) (r : Record)
    → codes "{\"id\":" ++ (compact_text (string id) ++ (codes ",\"revs\":" ++ (compact_text (tree_data r.tree) ++ (codes ",\"seq\":" ++ (decimal r.seq ++ codes "}")))))
    ≡ compact_text (record_data (id, r))
unfolding serde_json_on_literals
record_text id r = refl

pub kept_text : (id : Id) (l : Local)
    → codes "{\"body\":" ++ (body_text l.body ++ (codes ",\"id\":" ++ (compact_text (string id) ++ (codes ",\"k\":" ++ (decimal l.counter ++ codes "}")))))
    ≡ compact_text (kept_local_data (id, l))
unfolding serde_json_on_literals
kept_text id l = refl

pub purge_info_text : (p : PurgeInfo)
    → codes "{\"id\":" ++ (compact_text (string p.id) ++ (codes ",\"leaves\":" ++ (compact_text (revs_data p.leaves) ++ (codes ",\"seq\":" ++ (decimal p.seq ++ codes "}")))))
    ≡ compact_text (purge_info_data p)
unfolding serde_json_on_literals
purge_info_text p = refl

-- ---- revisions

joined : {X : Type 0} (a b c rest : List X) → (a ++ (b ++ c)) ++ rest ≡ a ++ (b ++ (c ++ rest))
joined a b c rest = append_assoc a (b ++ c) rest ∙ ap (λ t. a ++ t) (append_assoc b c rest)

-- a revision from its flag on
abbrev flagged : Bool → List ℕ → List ℕ
flagged deleted rest = (codes "\"deleted\":" ++ (flag deleted ++ codes ",")) ++ rest

abbrev ended : Rev → List ℕ
ended rev = codes "\"rev\":" ++ (compact_text (rev_data rev) ++ codes "}")

from_parent : (deleted : Bool) (parent rev : Rev)
    → flagged deleted (parent_front (Some parent) ++ ended rev) ≡ flagged deleted (codes "\"parent\":" ++ (compact_text (rev_data parent) ++ (codes "," ++ ended rev)))
from_parent deleted parent rev = ap (flagged deleted) (joined (codes "\"parent\":") (compact_text (rev_data parent)) (codes ",") (ended rev))

from_body : (body : Body) (rest : List ℕ) → body_front (Some body) ++ rest ≡ codes "{\"body\":" ++ (compact_text (object body) ++ (codes "," ++ rest))
from_body body rest = joined (codes "{\"body\":") (compact_text (object body)) (codes ",") rest

both : (body : Body) (deleted : Bool) (parent rev : Rev) → body_front (Some body) ++ flagged deleted (parent_front (Some parent) ++ ended rev)
    ≡ codes "{\"body\":" ++ (compact_text (object body) ++ (codes "," ++ flagged deleted (codes "\"parent\":" ++ (compact_text (rev_data parent) ++ (codes "," ++ ended rev)))))
both body deleted parent rev =
    from_body body (flagged deleted (parent_front (Some parent) ++ ended rev))
    ∙ ap (λ t. codes "{\"body\":" ++ (compact_text (object body) ++ (codes "," ++ t))) (from_parent deleted parent rev)

-- a revision, with its body and its parent where there is one
pub revision_text : (rev : Rev) (parent : Option Rev) (deleted : Bool) (body : Option Body)
    → body_front body ++ ((codes "\"deleted\":" ++ (flag deleted ++ codes ",")) ++ (parent_front parent ++ (codes "\"rev\":" ++ (compact_text (rev_data rev) ++ codes "}"))))
    ≡ compact_text (revision_data (rev, record { parent = parent; deleted = deleted; body = body }))
unfolding serde_json_on_literals
revision_text rev None true None = refl
revision_text rev None false None = refl
revision_text rev (Some parent) true None = ap (λ t. codes "{" ++ t) (from_parent true parent rev)
revision_text rev (Some parent) false None = ap (λ t. codes "{" ++ t) (from_parent false parent rev)
revision_text rev None true (Some body) = from_body body (flagged true (ended rev))
revision_text rev None false (Some body) = from_body body (flagged false (ended rev))
revision_text rev (Some parent) true (Some body) = both body true parent rev
revision_text rev (Some parent) false (Some body) = both body false parent rev
