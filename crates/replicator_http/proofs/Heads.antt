-- A head with the body behind it.
use Rattle.std.proofs.Common.{◌≡◌, ◌∙◌, ap, List, ℕ, ◌++◌, length, append_assoc, decimal}
use Rattle.std.specs.Prelude.{codes}
use Rattle.http_client.specs.Request.{fixed_lines, host_line, line_end, request_head, request_text}

joined : (host method target body : List ℕ) → request_head host method target (length body) ++ body ≡ request_text host method target body
joined host method target body =
    let len = decimal (length body) in
    let behind = fixed_lines ++ (len ++ (line_end ++ line_end)) in
    append_assoc method (codes " " ++ (target ++ (host_line ++ (host ++ behind)))) body
    ∙ ap (λ (r : List ℕ). method ++ (codes " " ++ r))
    (append_assoc target (host_line ++ (host ++ behind)) body
    ∙ ap (λ (r : List ℕ). target ++ (host_line ++ r))
    (append_assoc host behind body
    ∙ ap (λ (r : List ℕ). host ++ (fixed_lines ++ r)) (append_assoc len (line_end ++ line_end) body)))

-- the head of a body and the body are the request
pub whole : (host method target head body text : List ℕ) (len : ℕ) → head ≡ request_head host method target len → len ≡ length body → body ≡ text
    → head ++ body ≡ request_text host method target text
whole host method target head body text len is len_is body_is =
    ap (λ (h : List ℕ). h ++ body) is ∙ ap (λ (n : ℕ). request_head host method target n ++ body) len_is ∙ joined host method target body
    ∙ ap (λ (b : List ℕ). request_text host method target b) body_is
