-- A feed that is followed from version to version: its map stays right, and its cursor is good for every later version.
use Rattle.std.specs.Prelude.{◌≡◌, ℕ, ◌-◌, ◌==◌, ◌≤◌, max, Bool, List, length, take, Option, Some, None, refl}
use Rattle.std.proofs.Common.{sym, ap, subst, ◌∙◌, arith, eqb-true}
use Rattle.std.proofs.lemmas.List.{take_all, length-take}
use Rattle.std.proofs.lemmas.Bool.{cond_both}
use Rattle.model.specs.Map.{Map}
use Rattle.model.specs.Command.{Id, names}
use Rattle.model.specs.Query.{Style, Row}
use Rattle.model.specs.Database.{Database, Record, IsNumbered}
use Rattle.model.specs.History.{Chronicle, base_of, now, Follows}
use Rattle.model.specs.Changes.{row, rows_since, last_seq_of, first_rows, changes_page, IsRightFeed, fed}
use Rattle.model.proofs.UnseenLaws.{row-stripped}
use Rattle.model.proofs.LastLaws.{Lasts, Lasts-before, Lasts-follows, IsNumbered-follows}
use Rattle.model.proofs.FeedLaws.{IsRightFeed-first, IsRightFeed-all}

-- ---- a later database

IsRightFeed-later : (wanted : Id → Bool) (style : Style) (m : Map names Row) (s c : ℕ) (d e : Database) → c ≤ d.update_seq → Lasts d e → IsRightFeed wanted style m s c d → IsRightFeed wanted style m s c e
IsRightFeed-later wanted style m s c d e le h right id r has w above upto =
    let b = Lasts-before d e id r h has (omega (arith, le, upto)) in
    let seq : b.was.seq ≡ r.seq = ap (λ (x : Record). x.seq) b.same in
    right id b.was b.has w (omega (arith, above, seq)) (omega (arith, upto, seq))
    ∙ ap Some (sym (row-stripped style (b.was.seq, (id, b.was))) ∙ (λ i. row style (seq i, (id, b.same i))) ∙ row-stripped style (r.seq, (id, r)))

pub IsRightFeed-follows : (wanted : Id → Bool) (style : Style) (m : Map names Row) (s c n : ℕ) (later earlier : Chronicle) → IsNumbered (base_of earlier.base) → Follows later earlier → c ≤ (now earlier).update_seq → IsRightFeed wanted style m s c (now earlier)
    → let rows = take n (rows_since wanted (now later) c style) in IsRightFeed wanted style (fed m rows) s (last_seq_of c rows) (now later)
IsRightFeed-follows wanted style m s c n later earlier num follows le right =
    IsRightFeed-first style wanted (now later) c m s n (IsNumbered-follows earlier num later follows) (IsRightFeed-later wanted style m s c (now earlier) (now later) le (Lasts-follows earlier later follows) right)

-- ---- a page of changes

-- the first rows are so many
how_many : Option ℕ → List Row → ℕ
how_many None rows = length rows
how_many (Some limit) rows = max 1 limit

first_rows-take : (limit : Option ℕ) (rows : List Row) → first_rows limit rows ≡ take (how_many limit rows) rows
unfolding how_many
first_rows-take None rows = sym (take_all (length rows) rows (omega arith))
first_rows-take (Some limit) rows = refl

pub IsRightFeed-page : (wanted : Id → Bool) (style : Style) (m : Map names Row) (s since : ℕ) (limit : Option ℕ) (d : Database) → IsNumbered d → IsRightFeed wanted style m s since d
    → let page = changes_page wanted d since limit style in IsRightFeed wanted style (fed m page.rows) s page.last_seq d
unfolding changes_page
IsRightFeed-page wanted style m s since limit d num right =
    let all = rows_since wanted d since style in
    let n = how_many limit all in
    let given = first_rows limit all in
    let is_front : given ≡ take n all = first_rows-take limit all in
    cond_both (length all - length given == 0) d.update_seq (last_seq_of since given) (λ upto. IsRightFeed wanted style (fed m given) s upto d)
    (λ none_left.
    let fewer : length all ≤ n = omega (arith, eqb-true _ 0 none_left, ap length is_front, length-take n all) in
    subst (λ rows. IsRightFeed wanted style (fed m rows) s d.update_seq d) (sym is_front) (IsRightFeed-all style wanted d since m s n num right fewer))
    (λ _. subst (λ rows. IsRightFeed wanted style (fed m rows) s (last_seq_of since rows) d) (sym is_front) (IsRightFeed-first style wanted d since m s n num right))
