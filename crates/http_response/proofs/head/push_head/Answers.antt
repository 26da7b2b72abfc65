use Rattle.std.proofs.Common.{◌++◌, decimal, ap, ◌∙◌}
use Rattle.std.specs.Prelude.{codes}
use Rattle.http_response.specs.Response.{allow_line, connection_line, content_head, crlf, place_head, status_text}
use Rattle.http_response.proofs.Heads.{put_behind}
use Rattle.http_response.proofs.head.push_head.Goals as goal

-- piece by piece, in the order in which they are written
pub returns-clause-text : goal.returns-clause-text
returns-clause-text g c =
    let said = c.args.head.now in
    let before = c.args.text.now.bytes in
    let version = codes "HTTP/1.1 " in
    let status = status_text said.status in
    let told = c.push_str-2.ensures.bytes ∙ ap (λ t. t ++ c.text.result.now) c.push_str.ensures.bytes ∙ ap (λ t. (before ++ version) ++ t) c.text.ensures.text in
    let typed = c.push_str-3.ensures.bytes ∙ ap (λ t. t ++ content_head) told in
    let counted = c.push_number.ensures.digits ∙ ap (λ t. t ++ decimal said.len) typed in
    let named = c.push_str-4.ensures.bytes ∙ ap (λ t. t ++ place_head) counted in
    let placed = c.push_number-2.ensures.digits ∙ ap (λ t. t ++ decimal said.place) named in
    let ended = c.push_str-5.ensures.bytes ∙ ap (λ t. t ++ crlf) placed in
    let allowed = c.push_allow.ensures.line ∙ ap (λ t. t ++ allow_line said.allow) ended in
    let front = (((((((before ++ version) ++ status) ++ content_head) ++ decimal said.len) ++ place_head) ++ decimal said.place) ++ crlf) ++ allow_line said.allow in
    let connected = c.push_str-6.ensures.bytes ∙ ap (λ t. t ++ c.line.result.now) allowed ∙ ap (λ t. front ++ t) c.line.ensures.text in
    c.push_str-7.ensures.bytes ∙ ap (λ t. t ++ crlf) connected
    ∙ put_behind before version status content_head (decimal said.len) place_head (decimal said.place) crlf (allow_line said.allow) (connection_line said.connection)
