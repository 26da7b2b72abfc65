-- The beginnings of texts that are written in parts.
use Rattle.std.specs.Prelude.{ℕ, Bool, List, Option, Some, None, ◌++◌, codes}
use Rattle.serde_json.specs.Data.{string, boolean, object}
use Rattle.serde_json.specs.Written.{compact_text}
use Rattle.model.specs.Body.{Body}
use Rattle.model.specs.Command.{Id}

-- what an edit and a merge begin with
abbrev pub write_front : Id → Bool → Body → List ℕ
write_front id deleted body =
    codes "{\"body\":" ++ (compact_text (object body) ++ (codes ",\"deleted\":" ++ (compact_text (boolean deleted) ++ (codes ",\"id\":" ++ compact_text (string id)))))

-- what a write of a local document begins with
abbrev pub body_front : Option Body → List ℕ
body_front None = codes "{"
body_front (Some body) = codes "{\"body\":" ++ (compact_text (object body) ++ codes ",")
