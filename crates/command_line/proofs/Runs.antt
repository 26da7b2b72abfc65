-- Which runs arguments name, and which none.
use Rattle.std.proofs.Common.{◌≡◌, ◌∙◌, ◌⊎◌, sym, ap, subst, arith, inl, inr, List, [], ◌∷◌, Option, None, Some, option_map, slice_index, codes}
use Rattle.clap.specs.Words.{Row, Text, kind_of, subcommand_of}
use Rattle.clap.specs.Kinds.{Kinds, IsAmong, HasKind}
use Rattle.clap.specs.declared.error.Error.{Error}
use Rattle.clap.specs.declared.error.kind.ErrorKind.{ErrorKind}
use Rattle.clap.specs.declared.error.kind.ErrorKind.TheVariants.{DisplayVersion, OutOfMemory}
use Rattle.command_line.specs.Couchd.{couchd, NamesNoRun}
use Rattle.command_line.specs.Serve.{IsServingOf}
use Rattle.command_line.specs.Repair.{IsRepairingOf}
use Rattle.command_line.specs.Replicate.{IsReplicatingOf}
use Rattle.command_line.specs.declared.serving.Serving.{Serving}
use Rattle.command_line.specs.declared.repair.Repairing.{Repairing}
use Rattle.command_line.specs.declared.replicate.Replicating.{Replicating}
use Rattle.command_line.specs.declared.Run.TheVariants.{Once, Dump, Serve, Replicate, Repair}

-- an error of no kind is that memory was refused
pub of_memory : (kinds : Kinds) (e : Error) → HasKind kinds e → kinds ≡ [] → kind_of e ≡ OutOfMemory
of_memory kinds e (inl memory) none = memory
of_memory kinds e (inr among) none = absurd (subst (IsAmong (kind_of e)) none among)

-- an error that is the version is among the kinds
pub version_among : (kinds : Kinds) (e : Error) → HasKind kinds e → kind_of e ≡ DisplayVersion → IsAmong DisplayVersion kinds
version_among kinds e (inl memory) is = cc
version_among kinds e (inr among) is = subst (λ (kind : ErrorKind). IsAmong kind kinds) is among

-- where the version is the only kind, an error is that or that memory was refused
pub only_version : (kinds : Kinds) (e : Error) → HasKind kinds e → kinds ≡ DisplayVersion ∷ [] → (kind_of e ≡ OutOfMemory) ⊎ (kind_of e ≡ DisplayVersion)
only_version kinds e (inl memory) is = inl memory
only_version kinds e (inr among) is = elim (subst (IsAmong (kind_of e)) is among) [ inl version ↦ inr version | inr none ↦ absurd none ]

-- one kind is some
pub some_kind : (kind : ErrorKind) (kinds : Kinds) → kind ∷ kinds ≡ [] → ⊥
some_kind kind kinds is = cc

-- what an option holds is one pair
one_name : {A B : Type 0} (o : Option (A × B)) (a b : A) (x : B) → o ≡ Some (a, x) → option_map (λ p. p.0) o ≡ Some b → a ≡ b
one_name None a b x is named = cc
one_name (Some p) a b x is named = cc

one_value : {A B : Type 0} (o : Option (A × B)) (a b : A) (x y : B) → o ≡ Some (a, x) → o ≡ Some (b, y) → x ≡ y
one_value None a b x y is is_too = cc
one_value {A = A} {B = B} (Some p) a b x y is is_too =
    let one : p ≡ (a, x) = cc in
    let other : p ≡ (b, y) = cc in
    sym (ap (λ (q : A × B). q.1) one) ∙ ap (λ (q : A × B). q.1) other

-- arguments of `serve` whose numbers are none name no run
pub no_run : (words : List Text) (given : List Row) → subcommand_of couchd words ≡ Some (codes "serve", given)
    → ((serving : Serving) → IsServingOf given serving → ⊥) → NamesNoRun words
no_run words given is none Once of =
    let same = one_name (subcommand_of couchd words) (codes "serve") (codes "once") given is of in
    let heads : 115 ≡ 111 = ap (λ (t : Text). slice_index t 0) same in
    absurd (omega (arith, heads))
no_run words given is none Dump of =
    let same = one_name (subcommand_of couchd words) (codes "serve") (codes "dump") given is of in
    let heads : 115 ≡ 100 = ap (λ (t : Text). slice_index t 0) same in
    absurd (omega (arith, heads))
no_run words given is none (Serve serving) (other, is_too, of) =
    let same = one_value (subcommand_of couchd words) (codes "serve") (codes "serve") given other is is_too in
    none serving (subst (λ (rows : List Row). IsServingOf rows serving) (sym same) of)
no_run words given is none (Replicate replicating) (other, is_too, of) =
    let same = one_name (subcommand_of couchd words) (codes "serve") (codes "replicate") given is (ap (option_map (λ s. s.0)) is_too) in
    let heads : 115 ≡ 114 = ap (λ (t : Text). slice_index t 0) same in
    absurd (omega (arith, heads))
no_run words given is none (Repair repairing) (other, is_too, of) =
    let same = one_name (subcommand_of couchd words) (codes "serve") (codes "repair") given is (ap (option_map (λ s. s.0)) is_too) in
    let heads : 115 ≡ 114 = ap (λ (t : Text). slice_index t 0) same in
    absurd (omega (arith, heads))

-- arguments of `replicate` that give no addresses or no id name no run
pub no_replication : (words : List Text) (given : List Row) → subcommand_of couchd words ≡ Some (codes "replicate", given)
    → ((replicating : Replicating) → IsReplicatingOf given replicating → ⊥) → NamesNoRun words
no_replication words given is none Once of =
    let same = one_name (subcommand_of couchd words) (codes "replicate") (codes "once") given is of in
    let heads : 114 ≡ 111 = ap (λ (t : Text). slice_index t 0) same in
    absurd (omega (arith, heads))
no_replication words given is none Dump of =
    let same = one_name (subcommand_of couchd words) (codes "replicate") (codes "dump") given is of in
    let heads : 114 ≡ 100 = ap (λ (t : Text). slice_index t 0) same in
    absurd (omega (arith, heads))
no_replication words given is none (Serve serving) (other, is_too, of) =
    let same = one_name (subcommand_of couchd words) (codes "replicate") (codes "serve") given is (ap (option_map (λ s. s.0)) is_too) in
    let heads : 114 ≡ 115 = ap (λ (t : Text). slice_index t 0) same in
    absurd (omega (arith, heads))
no_replication words given is none (Replicate replicating) (other, is_too, of) =
    let same = one_value (subcommand_of couchd words) (codes "replicate") (codes "replicate") given other is is_too in
    none replicating (subst (λ (rows : List Row). IsReplicatingOf rows replicating) (sym same) of)
no_replication words given is none (Repair repairing) (other, is_too, of) =
    let same = one_name (subcommand_of couchd words) (codes "replicate") (codes "repair") given is (ap (option_map (λ s. s.0)) is_too) in
    let fourth : 108 ≡ 97 = ap (λ (t : Text). slice_index t 3) same in
    absurd (omega (arith, fourth))

-- arguments of `repair` that give no folder name no run
pub no_repair : (words : List Text) (given : List Row) → subcommand_of couchd words ≡ Some (codes "repair", given)
    → ((repairing : Repairing) → IsRepairingOf given repairing → ⊥) → NamesNoRun words
no_repair words given is none Once of =
    let same = one_name (subcommand_of couchd words) (codes "repair") (codes "once") given is of in
    let heads : 114 ≡ 111 = ap (λ (t : Text). slice_index t 0) same in
    absurd (omega (arith, heads))
no_repair words given is none Dump of =
    let same = one_name (subcommand_of couchd words) (codes "repair") (codes "dump") given is of in
    let heads : 114 ≡ 100 = ap (λ (t : Text). slice_index t 0) same in
    absurd (omega (arith, heads))
no_repair words given is none (Serve serving) (other, is_too, of) =
    let same = one_name (subcommand_of couchd words) (codes "repair") (codes "serve") given is (ap (option_map (λ s. s.0)) is_too) in
    let heads : 114 ≡ 115 = ap (λ (t : Text). slice_index t 0) same in
    absurd (omega (arith, heads))
no_repair words given is none (Replicate replicating) (other, is_too, of) =
    let same = one_name (subcommand_of couchd words) (codes "repair") (codes "replicate") given is (ap (option_map (λ s. s.0)) is_too) in
    let fourth : 97 ≡ 108 = ap (λ (t : Text). slice_index t 3) same in
    absurd (omega (arith, fourth))
no_repair words given is none (Repair repairing) (other, is_too, of) =
    let same = one_value (subcommand_of couchd words) (codes "repair") (codes "repair") given other is is_too in
    none repairing (subst (λ (rows : List Row). IsRepairingOf rows repairing) (sym same) of)
