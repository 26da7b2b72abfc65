-- Texts that grow by parts.
use Rattle.std.proofs.Common.{◌≡◌, List, ◌++◌, Result, Ok, Err, append_assoc, ap, ◌∙◌, if◌then◌else◌}
use Rattle.std.specs.Prelude.{OnOk}
use Rattle.std.specs.Result.{is_ok}

-- what a push leaves where it succeeds
pub pushed : {X T E : Type 0} (r : Result T E) (new grown old : X) → new ≡ (if is_ok r then grown else old) → OnOk r (new ≡ grown)
pushed (Ok x) new grown old is = is
pushed (Err e) new grown old is = tt

-- two parts, one after another
pub parts_2 : {X : Type 0} (t u v a b : List X) → u ≡ t ++ a → v ≡ u ++ b → v ≡ t ++ (a ++ b)
parts_2 t u v a b p q = q ∙ ap (λ s. s ++ b) p ∙ append_assoc t a b

pub parts_3 : {X : Type 0} (t u v w a b c : List X) → u ≡ t ++ a → v ≡ u ++ b → w ≡ v ++ c → w ≡ t ++ (a ++ (b ++ c))
parts_3 t u v w a b c p q r = parts_2 t u w a (b ++ c) p (parts_2 u v w b c q r)

pub parts_4 : {X : Type 0} (t u v w x a b c d : List X) → u ≡ t ++ a → v ≡ u ++ b → w ≡ v ++ c → x ≡ w ++ d → x ≡ t ++ (a ++ (b ++ (c ++ d)))
parts_4 t u v w x a b c d p q r s = parts_2 t u x a (b ++ (c ++ d)) p (parts_3 u v w x b c d q r s)

pub parts_5 : {X : Type 0} (t u v w x y a b c d e : List X) → u ≡ t ++ a → v ≡ u ++ b → w ≡ v ++ c → x ≡ w ++ d → y ≡ x ++ e → y ≡ t ++ (a ++ (b ++ (c ++ (d ++ e))))
parts_5 t u v w x y a b c d e p q r s z = parts_2 t u y a (b ++ (c ++ (d ++ e))) p (parts_4 u v w x y b c d e q r s z)
