-- Chains of comparisons, link by link.
use Rattle.std.specs.Prelude.{◌≡◌, ℕ, ◌+◌, ◌<◌, ◌≤◌, true, List, [], ◌∷◌, map, drop, length, get_or}
use Rattle.std.proofs.Common.{refl, ap, sym, subst, ◌∙◌}
use Rattle.std.proofs.lemmas.List.{drop_more, drop_all}
use Rattle.py_syntax.specs.declared.Value.{Value}
use Rattle.py_syntax.specs.declared.Value.TheVariants.{Truth}
use Rattle.py_syntax.specs.declared.Expr.{Expr}
use Rattle.machine_model.specs.Evaluation.{Scene, Reading, meaning, chain_from, defined}
use Rattle.machine_values.specs.Bits.{has_128_bits}
use Rattle.contract_reading.specs.declared.parts.Link.{Link}
use Rattle.contract_reading.specs.Links.{behind, IsLink}

abbrev read_in : Scene → Expr → Reading
read_in s e = meaning has_128_bits e s

abbrev chained : Scene → Value → List Expr → List ℕ → Reading
chained s v all keys = chain_from v (map (meaning has_128_bits) all) keys s

no_key : (s : Scene) (v : Value) (all : List Expr) → chained s v all [] ≡ defined (Truth true)
no_key s v [] = refl
no_key s v (e ∷ all) = refl

-- where there is no further key, the chain is read
pub without_keys : (s : Scene) (v : Value) (all : List Expr) (keys : List ℕ) (at : ℕ) → length keys ≤ at → chained s v all (drop at keys) ≡ defined (Truth true)
without_keys s v all keys at l = ap (chained s v all) (drop_all at keys l) ∙ no_key s v all

-- nor where there is no further operand
pub without_operands : (s : Scene) (v : Value) (all : List Expr) (keys : List ℕ) (at : ℕ) → length all ≤ at → chained s v (drop at all) keys ≡ defined (Truth true)
without_operands s v all keys at l = ap (λ xs. chained s v xs keys) (drop_all at all l)

-- one link
pub linked : (s : Scene) (v : Value) (all : List Expr) (keys : List ℕ) (at : ℕ) (e : Expr) (d : ℕ) (read : Reading) (l : Link) → at + 1 < length all → at < length keys → e ≡ get_or all (at + 1) e → read ≡ read_in s e → IsLink (get_or keys at d) v read l → chained s v (drop (at + 1) all) (drop at keys) ≡ behind l (λ w. chained s w (drop (at + 1 + 1) all) (drop (at + 1) keys))
linked s v all keys at e d read l more key is reads link =
    ap (λ xs. chained s v xs (drop at keys)) (drop_more all (at + 1) e more)
    ∙ ap (λ x. chained s v (x ∷ drop (at + 1 + 1) all) (drop at keys)) (sym is)
    ∙ ap (chained s v (e ∷ drop (at + 1 + 1) all)) (drop_more keys at d key)
    ∙ subst (λ r. IsLink (get_or keys at d) v r l) reads link (λ w. chained s w (drop (at + 1 + 1) all) (drop (at + 1) keys))

pub linked_end : (s : Scene) (v : Value) (all : List Expr) (keys : List ℕ) (at : ℕ) (e : Expr) (d : ℕ) (read : Reading) (l m : Link) → at + 1 < length all → at < length keys → e ≡ get_or all (at + 1) e → read ≡ read_in s e → IsLink (get_or keys at d) v read l → l ≡ m → chained s v (drop (at + 1) all) (drop at keys) ≡ behind m (λ w. chained s w (drop (at + 1 + 1) all) (drop (at + 1) keys))
linked_end s v all keys at e d read l m more key is reads link same =
    linked s v all keys at e d read l more key is reads link ∙ ap (λ k. behind k (λ w. chained s w (drop (at + 1 + 1) all) (drop (at + 1) keys))) same
