use Rattle.std.proofs.Common.{ℕ, ◌+◌, false, refl, ap, sym, ◌∙◌, drop, arith, length-drop}
use Rattle.std.specs.List.{list_all}
use Rattle.std.proofs.lemmas.List.{take_all}
use Rattle.std.proofs.lemmas.List.Sums.{AllPass-from_list_all, list_all-from_AllPass}
use Rattle.httparse.specs.Grammar.{is_uri_byte}
use Rattle.http_framing.proofs.InTarget.{apart, ends_at_space, no_space, target_at, at_target}
use Rattle.http_framing.proofs.target.ends_in_target.Goals as goal

pub returns-then-len-bytes : goal.returns-then-len-bytes
returns-then-len-bytes c =
    let cut = c.len_before_space-len.ensures in
    (λ no. absurd (apart false no refl), λ in_it. absurd (no_space c.args.bytes.now _ cut.within cut.others cut.ends c.if-len-bytes.true in_it))

pub returns-then-not-are_uri_bytes : goal.returns-then-not-are_uri_bytes
returns-then-not-are_uri_bytes c =
    let cut = c.len_before_space-len.ensures in
    let len : ℕ = c.len_before_space-len.result in
    let behind = take_all _ (drop (len + 1) c.args.bytes.now) (omega (arith, length-drop (len + 1) c.args.bytes.now)) in (
      λ no. absurd (apart false no refl),
      λ in_it.
          let found = at_target c.args.bytes.now len cut.within cut.others cut.ends c.if-len-bytes.false in_it in
          let pass = list_all-from_AllPass is_uri_byte (drop (len + 1) c.args.bytes.now) found.1 in
          absurd (apart c.are_uri_bytes.result (c.are_uri_bytes.ensures ∙ ap (list_all is_uri_byte) behind ∙ pass) c.if-not-are_uri_bytes.true),
    )

pub is_method-requires : goal.is_method-requires
is_method-requires c =
    let cut = c.len_before_space-len.ensures in
    ends_at_space c.args.bytes.now _ cut.within cut.others cut.ends c.if-len-bytes.false

pub returns : goal.returns
returns c =
    let cut = c.len_before_space-len.ensures in
    let len : ℕ = c.len_before_space-len.result in
    let behind = take_all _ (drop (len + 1) c.args.bytes.now) (omega (arith, length-drop (len + 1) c.args.bytes.now)) in
    let pass = AllPass-from_list_all is_uri_byte (drop (len + 1) c.args.bytes.now)
    (sym (ap (list_all is_uri_byte) behind) ∙ sym c.are_uri_bytes.ensures ∙ c.if-not-are_uri_bytes.false) in (
      λ yes. target_at c.args.bytes.now len cut.within cut.others cut.ends c.if-len-bytes.false pass (c.is_method.ensures.0 yes),
      λ in_it. c.is_method.ensures.1 (at_target c.args.bytes.now len cut.within cut.others cut.ends c.if-len-bytes.false in_it).0,
    )
