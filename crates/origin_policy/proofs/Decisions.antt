-- The decision on a request, by the spans of its headers.
use Rattle.std.proofs.Common.{◌≡◌, ◌∙◌, ℕ, Bool, true, false, not, ◌&&◌, List, [], ◌∷◌, map, cond, Some, option_map, codes, refl, ap, sym}
use Rattle.std.specs.List.{find, list_any}
use Rattle.std.specs.Str.{bytes_eq}
use Rattle.httparse.specs.declared.spans.HeaderSpan.{HeaderSpan}
use Rattle.httparse.specs.Spans.{header_bytes}
use Rattle.http_framing.specs.Headers.{Header, is_named}
use Rattle.http_framing.proofs.Values.{list_any-map}
use Rattle.origin_policy.specs.Allowed.{is_all}
use Rattle.origin_policy.specs.Verdict.{IsForbidden, Preflight, PassesTo, Decision, admitted, decide, decided_by, is_cross_site, is_foreign_host, is_foreign_origin, is_preflight, is_unsaid_site, origin_of, page_admitted}
use Rattle.origin_policy.specs.declared.policy.Policy.{Policy}
use Rattle.origin_policy.specs.declared.judging.Forbidden.TheVariants as forbidden

-- the first image that passes is that of the first item whose image does
pub find-map : {A B : Type 0} (test : B → Bool) (f : A → B) (xs : List A) → find test (map f xs) ≡ option_map f (find (λ x. test (f x)) xs)
find-map test f [] = refl
find-map {A} {B} test f (x ∷ xs) =
    elim (test (f x)) as (λ (b : Bool). cond b (Some (f x)) (find test (map f xs)) ≡ option_map f (cond b (Some x) (find (λ (y : A). test (f y)) xs))) [
      | true ↦ refl
      | false ↦ find-map test f xs
    ]

module _ (policy : Policy) (method bytes : List ℕ) (spans : List HeaderSpan) where
  abbrev headers : List Header
  headers = map (header_bytes bytes) spans

  -- whether there is each reason
  origin-is : list_any (λ header. is_foreign_origin policy (header_bytes bytes header)) spans ≡ list_any (is_foreign_origin policy) headers
  origin-is = sym (list_any-map (is_foreign_origin policy) (header_bytes bytes) spans)

  host-is : list_any (λ header. is_foreign_host policy (header_bytes bytes header)) spans ≡ list_any (is_foreign_host policy) headers
  host-is = sym (list_any-map (is_foreign_host policy) (header_bytes bytes) spans)

  site-is : (not (list_any (λ header. is_named (codes "origin") (header_bytes bytes header)) spans)
      && (not (is_all policy.origins) && list_any (λ header. is_cross_site (header_bytes bytes header)) spans)) ≡ is_unsaid_site policy headers
  site-is =
      let said : list_any (λ header. is_named (codes "origin") (header_bytes bytes header)) spans ≡ list_any (is_named (codes "origin")) headers =
      sym (list_any-map (is_named (codes "origin")) (header_bytes bytes) spans) in
      let cross : list_any (λ header. is_cross_site (header_bytes bytes header)) spans ≡ list_any is_cross_site headers =
      sym (list_any-map is_cross_site (header_bytes bytes) spans) in
      λ i. not (said i) && (not (is_all policy.origins) && cross i)

  abbrev admits : Decision
  admits = admitted method headers (origin_of headers)

  pub forbids-origin : (foreign : Bool) → foreign ≡ list_any (λ header. is_foreign_origin policy (header_bytes bytes header)) spans → foreign ≡ true
      → IsForbidden forbidden.Origin ≡ decide policy method (map (header_bytes bytes) spans)
  forbids-origin foreign is holds =
      ap (λ (b : Bool). decided_by b (is_unsaid_site policy headers) (list_any (is_foreign_host policy) headers) admits) (sym holds ∙ is ∙ origin-is)

  pub forbids-site : (foreign site : Bool) → foreign ≡ list_any (λ header. is_foreign_origin policy (header_bytes bytes header)) spans → foreign ≡ false
      → site ≡ (not (list_any (λ header. is_named (codes "origin") (header_bytes bytes header)) spans)
      && (not (is_all policy.origins) && list_any (λ header. is_cross_site (header_bytes bytes header)) spans)) → site ≡ true
      → IsForbidden forbidden.Site ≡ decide policy method (map (header_bytes bytes) spans)
  forbids-site foreign site is none site_is holds =
      let first : false ≡ list_any (is_foreign_origin policy) headers = sym none ∙ is ∙ origin-is in
      let second : true ≡ is_unsaid_site policy headers = sym holds ∙ site_is ∙ site-is in
      λ i. decided_by (first i) (second i) (list_any (is_foreign_host policy) headers) admits

  pub forbids-host : (foreign site host : Bool) → foreign ≡ list_any (λ header. is_foreign_origin policy (header_bytes bytes header)) spans → foreign ≡ false
      → site ≡ (not (list_any (λ header. is_named (codes "origin") (header_bytes bytes header)) spans)
      && (not (is_all policy.origins) && list_any (λ header. is_cross_site (header_bytes bytes header)) spans)) → site ≡ false
      → host ≡ list_any (λ header. is_foreign_host policy (header_bytes bytes header)) spans → host ≡ true
      → IsForbidden forbidden.Host ≡ decide policy method (map (header_bytes bytes) spans)
  forbids-host foreign site host is none site_is no_site host_is holds =
      let first : false ≡ list_any (is_foreign_origin policy) headers = sym none ∙ is ∙ origin-is in
      let second : false ≡ is_unsaid_site policy headers = sym no_site ∙ site_is ∙ site-is in
      let third : true ≡ list_any (is_foreign_host policy) headers = sym holds ∙ host_is ∙ host-is in
      λ i. decided_by (first i) (second i) (third i) admits

  pub passes : (foreign site host : Bool) (decision : Decision) → foreign ≡ list_any (λ header. is_foreign_origin policy (header_bytes bytes header)) spans → foreign ≡ false
      → site ≡ (not (list_any (λ header. is_named (codes "origin") (header_bytes bytes header)) spans)
      && (not (is_all policy.origins) && list_any (λ header. is_cross_site (header_bytes bytes header)) spans)) → site ≡ false
      → host ≡ list_any (λ header. is_foreign_host policy (header_bytes bytes header)) spans → host ≡ false
      → decision ≡ admitted method (map (header_bytes bytes) spans) (origin_of (map (header_bytes bytes) spans))
      → decision ≡ decide policy method (map (header_bytes bytes) spans)
  passes foreign site host decision is none site_is no_site host_is no_host admitted_is =
      let first : false ≡ list_any (is_foreign_origin policy) headers = sym none ∙ is ∙ origin-is in
      let second : false ≡ is_unsaid_site policy headers = sym no_site ∙ site_is ∙ site-is in
      let third : false ≡ list_any (is_foreign_host policy) headers = sym no_host ∙ host_is ∙ host-is in
      admitted_is ∙ (λ i. decided_by (first i) (second i) (third i) admits)

-- a page's request, by whether a browser asks
module _ (method bytes origin : List ℕ) (spans : List HeaderSpan) where
  asks-is : (bytes_eq method (codes "OPTIONS") && list_any (λ header. is_named (codes "access-control-request-method") (header_bytes bytes header)) spans)
      ≡ is_preflight method (map (header_bytes bytes) spans)
  asks-is =
      ap (λ (b : Bool). bytes_eq method (codes "OPTIONS") && b) (sym (list_any-map (is_named (codes "access-control-request-method")) (header_bytes bytes) spans))

  pub asked : (asks : Bool) → asks ≡ (bytes_eq method (codes "OPTIONS") && list_any (λ header. is_named (codes "access-control-request-method") (header_bytes bytes header)) spans)
      → asks ≡ true → Preflight origin ≡ page_admitted method (map (header_bytes bytes) spans) origin
  asked asks is holds = ap (λ (b : Bool). cond b (Preflight origin) (PassesTo origin)) (sym holds ∙ is ∙ asks-is)

  pub not_asked : (asks : Bool) → asks ≡ (bytes_eq method (codes "OPTIONS") && list_any (λ header. is_named (codes "access-control-request-method") (header_bytes bytes header)) spans)
      → asks ≡ false → PassesTo origin ≡ page_admitted method (map (header_bytes bytes) spans) origin
  not_asked asks is none = ap (λ (b : Bool). cond b (Preflight origin) (PassesTo origin)) (sym none ∙ is ∙ asks-is)
