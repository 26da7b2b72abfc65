use Rattle.std.specs.Prelude.{All, T}
use Rattle.std.specs.FinMap.Entries.{is_sorted}
use Rattle.std.proofs.Common.{◌∙◌, subst, sym}
use Rattle.std.proofs.lemmas.Bool.{true≢false}
use Rattle.model.specs.Command.{names}
use Rattle.model.specs.Database.{IsLocal}
use Rattle.local_docs.proofs.Reading.{each_local, made_only, refused, rises}
use Rattle.local_docs.proofs.locals.Locals.from_list.Goals as goal

pub returns-then-not-ids_rise : goal.returns-then-not-ids_rise
returns-then-not-ids_rise c = record {
  listed = λ m. refused c.args.documents.items m (λ h.
      let rising = subst (λ es. T (is_sorted names.cmp es)) (sym c.deref.ensures.value) (rises c.args.documents.items m h) in
      true≢false (sym (c.ids_rise.ensures.1 rising) ∙ c.if-not-ids_rise.true));
}

pub returns-then-not-are_local : goal.returns-then-not-are_local
returns-then-not-are_local c = record {
  listed = λ m. refused c.args.documents.items m (λ h.
      let all = subst (All (λ d. IsLocal d.0 d.1)) (sym c.deref-2.ensures.value) (each_local c.args.documents.items m h) in
      true≢false (sym (c.are_local.ensures.1 all) ∙ c.if-not-are_local.true));
}

pub map_of-requires : goal.map_of-requires
map_of-requires c = subst (λ es. T (is_sorted names.cmp es)) c.deref.ensures.value (c.ids_rise.ensures.0 c.if-not-ids_rise.false)

pub returns : goal.returns
returns c = record {
  listed = λ m. made_only c.args.documents.items _ m c.in_ok-map_of.ensures (subst (All (λ d. IsLocal d.0 d.1)) c.deref-2.ensures.value (c.are_local.ensures.0 c.if-not-are_local.false));
}
