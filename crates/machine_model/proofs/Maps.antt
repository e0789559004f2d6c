-- A map in order, and the finite map that it stands for.
use Rattle.std.proofs.Common.{◌≡◌, ℕ, cond, List, [], ◌∷◌, Some, refl, sym, ap, ◌∙◌, arith}
use Rattle.std.specs.Ordering.{nat_cmp, is_eq}
use Rattle.std.specs.Cmp.{nat_cmp_total}
use Rattle.std.specs.Map.{lookup}
use Rattle.std.proofs.lemmas.Bool.Decides.{nat_tests}
use Rattle.std.specs.BTreeMap.{is_at}
use Rattle.std.specs.FinMap as map
use Rattle.std.specs.FinMap.{nat_cmp-IsAntisymmetric}

lookup-find : {V : Type 0} (es : List (ℕ × V)) (q : ℕ) → lookup (is_at (nat_cmp q)) es ≡ map.find nat_cmp q es
lookup-find [] q = refl
lookup-find (e ∷ es) q = ap (cond (is_eq (nat_cmp q e.0)) (Some e.1)) (lookup-find es q)

pub get-from_entries-lookup : {V : Type 0} (es : List (ℕ × V)) (q : ℕ) → map.get (map.from_entries {R = nat_cmp} es) q ≡ lookup (is_at (nat_cmp q)) es
get-from_entries-lookup es q = map.get-from_entries nat_cmp_total es q ∙ sym (lookup-find es q)

nat_cmp-flip : (a b : ℕ) → is_eq (nat_cmp a b) ≡ is_eq (nat_cmp b a)
nat_cmp-flip a b = grind (arith, nat_tests)

pub from_entries-insert : {V : Type 0} (es fs : List (ℕ × V)) (k : ℕ) (v : V)
    → ((q : ℕ) → lookup (is_at (nat_cmp q)) fs ≡ cond (is_at (nat_cmp k) q) (Some v) (lookup (is_at (nat_cmp q)) es))
    → map.from_entries {R = nat_cmp} fs ≡ map.insert (map.from_entries es) k v
from_entries-insert es fs k v h = map.same_map nat_cmp_total nat_cmp-IsAntisymmetric _ _ (λ q.
    get-from_entries-lookup fs q ∙ h q ∙ ap (λ b. cond b (Some v) (lookup (is_at (nat_cmp q)) es)) (nat_cmp-flip k q)
    ∙ sym (map.get-insert nat_cmp_total (map.from_entries es) k v q ∙ ap (cond (is_eq (nat_cmp q k)) (Some v)) (get-from_entries-lookup es q)))
