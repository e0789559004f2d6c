-- The search of the first token that is nested too deep.
use Rattle.std.proofs.Common.{arith, Bool, true, false, not, ℕ, suc, ◌+◌, ◌<◌, ◌≤◌, ◌≡◌, refl, sym, ◌∙◌, ap, subst, List, [], ◌∷◌, ◌++◌, length, take, drop, get_or, append_assoc, append-nil, Option, Some, None, if◌then◌else◌, ◌⊎◌, inl, inr}
use Rattle.std.proofs.lemmas.List.{take_more, take-append-drop}
use Rattle.py_tokens.specs.declared.Token.{Token}
use Rattle.py_tokens.specs.declared.TokenForm.{TokenForm}
use Rattle.py_tokens.specs.declared.TokenForm.TheVariants as forms
use Rattle.py_tokens.specs.declared.Keyword.TheVariants as keys
use Rattle.py_tokens.specs.declared.Mark.TheVariants as marks
use Rattle.py_grammar.specs.Nesting.{open_after, ends_operand, is_prefix, Depth, depth_after, depth_of, nesting}
use Rattle.py_parser.specs.Depths.{IsNowhereDeep, IsDeepAt, is_word_is, is_word_not, is_minus}
use Rattle.py_parser.proofs.Cases.{within_or_over}
use Rattle.py_parser.proofs.TokenSplits.{Within, is_last, is_earlier, is_within}

pub not_behind : (b f : TokenForm) → is_word_not f ≡ true → is_prefix (Some b) f ≡ not (is_word_is b)
not_behind (forms.Key keys.Is) (forms.Key keys.Not) h = refl
not_behind b (forms.Key keys.Not) h = refl
not_behind b f h = cc

pub not_first : (f : TokenForm) → is_word_not f ≡ true → is_prefix None f ≡ true
not_first (forms.Key keys.Not) h = refl
not_first f h = cc

pub minus_behind : (b f : TokenForm) → is_minus f ≡ true → is_prefix (Some b) f ≡ not (ends_operand b)
minus_behind (forms.Key keys.Is) (forms.Mark marks.Minus) h = refl
minus_behind b (forms.Mark marks.Minus) h = refl
minus_behind b f h = cc

pub minus_first : (f : TokenForm) → is_minus f ≡ true → is_prefix None f ≡ true
minus_first (forms.Mark marks.Minus) h = refl
minus_first f h = cc

pub no_prefix : (before : Option TokenForm) (f : TokenForm) → is_word_not f ≡ false → is_minus f ≡ false → is_prefix before f ≡ false
no_prefix before (forms.Key keys.Not) h g = cc
no_prefix before (forms.Mark marks.Minus) h g = cc
no_prefix None f h g = refl
no_prefix (Some (forms.Key keys.Is)) f h g = refl
no_prefix (Some b) f h g = refl

pub ruleset prefix_rows = (not_behind, not_first, minus_behind, minus_first)

-- nothing is read
pub start : Depth
start = record { open_ones = 0; prefixes = 0; last = None }

behind_last : (d : Depth) (ts : List Token) (k : Token) → depth_of d (ts ++ k ∷ []) ≡ depth_after (depth_of d ts) k.form
behind_last d [] k = refl
behind_last d (j ∷ ts) k = behind_last (depth_after d j.form) ts k

-- what these tokens leave open, and that none of them is nested too deep
pub record Reads (limit : ℕ) (ts : List Token) (opened prefixes : ℕ) (before : Option TokenForm) : Type 0 where
  pub depth : depth_of (record { open_ones = 0; prefixes = 0; last = None }) ts ≡ record { open_ones = opened; prefixes = prefixes; last = before }
  pub nowhere : IsNowhereDeep limit ts

pub begins : (limit : ℕ) → Reads limit [] 0 0 None
begins limit = record { depth = refl; nowhere = λ front more k e. absurd (none front more k e) }
  where
    none : (front more : List Token) (k : Token) → [] ≡ front ++ k ∷ more → ⊥
    none [] more k e = cc
    none (j ∷ front) more k e = cc

pub nested : (limit : ℕ) (ts : List Token) (opened prefixes : ℕ) (before : Option TokenForm) (k : Token) → Reads limit ts opened prefixes before → nesting ts k ≡ open_after opened k.form + prefixes
nested limit ts opened prefixes before k r = ap (λ (d : Depth). open_after d.open_ones k.form + d.prefixes) r.depth

still : (limit : ℕ) (ts : List Token) (k : Token) → IsNowhereDeep limit ts → nesting ts k ≤ limit → (front more : List Token) (j : Token) → Within ts k front j → nesting front j ≤ limit
still limit ts k all low front more j (is_last f e) = subst (λ (x : List Token). nesting x j ≤ limit) (sym f) (subst (λ (x : Token). nesting ts x ≤ limit) (sym e) low)
still limit ts k all low front more j (is_earlier rest e) = all front rest j e

pub goes_on : (limit : ℕ) (ts : List Token) (opened prefixes : ℕ) (before : Option TokenForm) (k : Token) → Reads limit ts opened prefixes before → open_after opened k.form + prefixes ≤ limit
    → Reads limit (ts ++ k ∷ []) (open_after opened k.form) (if is_prefix before k.form then suc prefixes else 0) (Some k.form)
goes_on limit ts opened prefixes before k r low = record {
  depth = behind_last (record { open_ones = 0; prefixes = 0; last = None }) ts k ∙ ap (λ (d : Depth). depth_after d k.form) r.depth;
  nowhere = λ front more j e. still limit ts k r.nowhere (let n = nested limit ts opened prefixes before k r in omega (arith, low, n)) front more j (is_within ts k front more j e);
}

pub deep_here : (limit : ℕ) (ts before after : List Token) (opened prefixes : ℕ) (lately : Option TokenForm) (k : Token) → Reads limit before opened prefixes lately → ts ≡ before ++ k ∷ after → limit < open_after opened k.form + prefixes → IsDeepAt limit ts before k after
deep_here limit ts before after opened prefixes lately k r is h = record {
  is = is;
  deep = let n = nested limit before opened prefixes lately k r in omega (arith, h, n);
  first = r.nowhere;
}

-- a list with a member picked out by its place
pub picked : (i : ℕ) (ts : List Token) (k : Token) → i < length ts → k ≡ get_or ts i k → ts ≡ take i ts ++ k ∷ drop (i + 1) ts
picked i ts k low is =
    sym (take-append-drop (i + 1) ts)
    ∙ ap (λ (z : List Token). z ++ drop (i + 1) ts) (take_more ts i k low)
    ∙ append_assoc (take i ts) (get_or ts i k ∷ []) (drop (i + 1) ts)
    ∙ ap (λ (z : Token). take i ts ++ z ∷ drop (i + 1) ts) (sym is)

pub goes_on_to : (limit i : ℕ) (ts : List Token) (opened prefixes o p : ℕ) (before : Option TokenForm) (k : Token) → i < length ts → k ≡ get_or ts i k
    → o ≡ open_after opened k.form → p ≡ (if is_prefix before k.form then suc prefixes else 0)
    → Reads limit (take i ts) opened prefixes before → o + prefixes ≤ limit → Reads limit (take (i + 1) ts) o p (Some k.form)
goes_on_to limit i ts opened prefixes o p before k within is eo ep r low =
    subst (λ (z : List Token). Reads limit z o p (Some k.form)) (ap (λ (z : Token). take i ts ++ z ∷ []) is ∙ sym (take_more ts i k within))
    (subst (λ (z : ℕ). Reads limit (take i ts ++ k ∷ []) z p (Some k.form)) (sym eo)
    (subst (λ (z : ℕ). Reads limit (take i ts ++ k ∷ []) (open_after opened k.form) z (Some k.form)) (sym ep)
    (goes_on limit (take i ts) opened prefixes before k r (subst (λ (z : ℕ). z + prefixes ≤ limit) eo low))))

pub one_more : (b : Bool) (n p : ℕ) → p ≡ (if b then suc n else 0) → n ≤ 100 → p ≤ 101
one_more true n p e low = omega (arith, e, low)
one_more false n p e low = omega (arith, e)

-- no token is nested too deep, or this one is the first
pub data Search (limit : ℕ) (ts : List Token) : Type 0 where
  is_nowhere : IsNowhereDeep limit ts → Search limit ts
  is_found : (before : List Token) (k : Token) (after : List Token) → IsDeepAt limit ts before k after → Search limit ts

-- from where no token was nested too deep
search_from : (limit : ℕ) (front ts : List Token) → IsNowhereDeep limit front → Search limit (front ++ ts)
search_from limit front [] low = is_nowhere (subst (λ (us : List Token). IsNowhereDeep limit us) (sym (append-nil front)) low)
search_from limit front (k ∷ ts) low = search_at (within_or_over (nesting front k) limit) (λ h. subst (λ (us : List Token). Search limit us) (append_assoc front (k ∷ []) ts) (search_from limit (front ++ k ∷ []) ts h))
  where
    search_at : (nesting front k ≤ limit) ⊎ (limit < nesting front k) → (IsNowhereDeep limit (front ++ k ∷ []) → Search limit (front ++ k ∷ ts)) → Search limit (front ++ k ∷ ts)
    search_at (inr deep) g = is_found front k ts (record { is = refl; deep = deep; first = low })
    search_at (inl few) g = g (λ before more j e. still limit front k low few before more j (is_within front k before more j e))

pub search_deep : (limit : ℕ) (ts : List Token) → Search limit ts
search_deep limit ts = search_from limit [] ts (begins limit).nowhere
