-- Why a list of tokens has no tree.
use Rattle.std.proofs.Common.{ℕ, ◌<◌, arith, ◌≡◌, refl, sym, ◌∙◌, ap, subst, List, [], ◌∷◌, ◌++◌, append_assoc, append-nil}
use Rattle.py_base.specs.declared.Place.{Place}
use Rattle.py_tokens.specs.declared.Token.{Token}
use Rattle.raw_syntax.specs.declared.Raw.{Raw}
use Rattle.py_grammar.specs.Nesting.{nesting}
use Rattle.py_grammar.specs.Spelling.{Spells, BeginsModule, IsFirstBad}
use Rattle.py_parser.specs.Depths.{IsNowhereDeep, IsDeepAt}
use Rattle.py_parser.specs.Parsing.{IsSyntaxFault, IsDepthFault}
use Rattle.py_parser.proofs.TokenSplits.{Apart, stands_before, is_it, stands_behind, apart}

-- a list up to a member, and what is left
regrouped : (b : List Token) (k : Token) (a more : List Token) → (b ++ k ∷ a) ++ more ≡ (b ++ k ∷ []) ++ (a ++ more)
regrouped b k a more = append_assoc b (k ∷ a) more ∙ sym (append_assoc b (k ∷ []) (a ++ more))

-- the front of what begins a module begins one
pub front_begins : (b : List Token) (k : Token) (a : List Token) → BeginsModule (b ++ k ∷ a) → BeginsModule (b ++ k ∷ [])
front_begins b k a (more, tree, spelled) = (a ++ more, tree, subst (λ (ts : List Token). Spells ts tree) (regrouped b k a more) spelled)

-- no token of what begins a module is bad
pub none_is_bad : (ts : List Token) (p : Place) → BeginsModule ts → IsFirstBad ts p → ⊥
none_is_bad ts p begins (b, a, k, is, at, _, stops) = stops (front_begins b k a (subst (λ (us : List Token). BeginsModule us) is begins))

-- one token is the first bad one
one_bad_by : (p q : Place) (b a c d : List Token) (k j : Token) → k.place ≡ p → j.place ≡ q → BeginsModule b → (BeginsModule (b ++ k ∷ []) → ⊥) → BeginsModule c → (BeginsModule (c ++ j ∷ []) → ⊥) → Apart b k a c j d → p ≡ q
one_bad_by p q b a c d k j at to begins stops begun stopped (stands_before r m n) = absurd (stops (front_begins b k r (subst (λ (us : List Token). BeginsModule us) m begun)))
one_bad_by p q b a c d k j at to begins stops begun stopped (is_it m n o) = sym at ∙ ap (λ (x : Token). x.place) n ∙ to
one_bad_by p q b a c d k j at to begins stops begun stopped (stands_behind r m n) = absurd (stopped (front_begins c j r (subst (λ (us : List Token). BeginsModule us) m begins)))

pub one_is_bad : (ts : List Token) (p q : Place) → IsFirstBad ts p → IsFirstBad ts q → p ≡ q
one_is_bad ts p q (b, a, k, is, at, begins, stops) (c, d, j, are, to, begun, stopped) = one_bad_by p q b a c d k j at to begins stops begun stopped (apart b k a c j d (sym is ∙ are))

-- one token is the first that is nested too deep
one_deep_by : (limit : ℕ) (b a c d : List Token) (k j : Token) → limit < nesting b k → IsNowhereDeep limit b → limit < nesting c j → IsNowhereDeep limit c → Apart b k a c j d → k ≡ j
one_deep_by limit b a c d k j deep low depth under (stands_before r m n) = absurd (let l = under b r k m in omega (arith, deep, l))
one_deep_by limit b a c d k j deep low depth under (is_it m n o) = n
one_deep_by limit b a c d k j deep low depth under (stands_behind r m n) = absurd (let l = low c r j m in omega (arith, depth, l))

pub one_is_deep : (limit : ℕ) (ts b a c d : List Token) (k j : Token) → IsDeepAt limit ts b k a → IsDeepAt limit ts c j d → k ≡ j
one_is_deep limit ts b a c d k j h g = one_deep_by limit b a c d k j h.deep h.first g.deep g.first (apart b k a c j d (sym h.is ∙ g.is))

-- a token is nested too deep, and what stands before it begins a module
pub deep_fault : (ts before after : List Token) (k : Token) → IsDeepAt 100 ts before k after → BeginsModule before → IsDepthFault ts k.place
deep_fault ts before after k deep begins = record { before = before; after = after; k = k; deep = deep; at = refl; here = λ q bad. absurd (none_is_bad before q begins bad) }

-- or it goes on with no module at the same place
pub deep_fault_here : (ts before after : List Token) (k : Token) (p : Place) → IsDeepAt 100 ts before k after → IsFirstBad before p → p ≡ k.place → IsDepthFault ts p
deep_fault_here ts before after k p deep bad same = record { before = before; after = after; k = k; deep = deep; at = sym same; here = λ q other. one_is_bad before q p other bad }

shallow_front : (limit : ℕ) (b a : List Token) (k : Token) → IsNowhereDeep limit (b ++ k ∷ a) → IsNowhereDeep limit (b ++ k ∷ [])
shallow_front limit b a k low front more j is = low front (more ++ a) j (sym (append_assoc b (k ∷ []) a) ∙ ap (λ (us : List Token). us ++ a) is ∙ append_assoc front (j ∷ more) a)

fault_in_front : (ts b a after : List Token) (k j : Token) (p : Place) → ts ≡ (b ++ k ∷ a) ++ j ∷ after → IsDeepAt 100 ts (b ++ k ∷ a) j after → k.place ≡ p → BeginsModule b → (BeginsModule (b ++ k ∷ []) → ⊥) → (j.place ≡ p → ⊥) → IsSyntaxFault ts p
fault_in_front ts b a after k j p is deep at begins stops apart_from = record {
  before = b;
  after = a ++ j ∷ after;
  k = k;
  is = is ∙ append_assoc b (k ∷ a) (j ∷ after);
  at = at;
  begins = begins;
  stops = stops;
  shallow = shallow_front 100 b a k deep.first;
  elsewhere = λ front more i other same. apart_from (ap (λ (x : Token). x.place) (one_is_deep 100 ts (b ++ k ∷ a) after front more j i deep other) ∙ same);
}

-- a token before it goes on with no module, elsewhere
pub syntax_in_front : (ts before after : List Token) (j : Token) (p : Place) → IsDeepAt 100 ts before j after → IsFirstBad before p → (p ≡ j.place → ⊥) → IsSyntaxFault ts p
syntax_in_front ts before after j p deep (b, a, k, is, at, begins, stops) apart_from =
    fault_in_front ts b a after k j p (subst (λ (us : List Token). ts ≡ us ++ j ∷ after) is deep.is) (subst (λ (us : List Token). IsDeepAt 100 ts us j after) is deep) at begins stops (λ e. apart_from (sym e))

-- a token goes on with no module, and none is nested too deep
pub syntax_alone : (ts : List Token) (p : Place) → IsNowhereDeep 100 ts → IsFirstBad ts p → IsSyntaxFault ts p
syntax_alone ts p low (b, a, k, is, at, begins, stops) = record {
  before = b;
  after = a;
  k = k;
  is = is;
  at = at;
  begins = begins;
  stops = stops;
  shallow = shallow_front 100 b a k (subst (λ (us : List Token). IsNowhereDeep 100 us) is low);
  elsewhere = λ front more i other same. let l = low front more i other.is in let h = other.deep in omega (arith, l, h);
}

-- what is spelled begins a module
pub spelled_begins : (ts : List Token) (tree : Raw) → Spells ts tree → BeginsModule ts
spelled_begins ts tree spelled = ([], tree, subst (λ (us : List Token). Spells us tree) (sym (append-nil ts)) spelled)
