-- Laws of what each form of a derivation derives.
use Rattle.std.specs.Prelude.{◌≡◌, ℕ, Bool, true, false, IsTrue, List, [], ◌∷◌, ◌++◌, Some}
use Rattle.std.proofs.Common.{refl, ap, subst, ◌∙◌, append_assoc, rules, Bor}
use Rattle.lin_rows.specs.declared.ComboStep.{ComboStep}
use Rattle.terms.specs.declared.Literal.{Literal}
use Rattle.terms.specs.declared.Literal.TheVariants as lit
use Rattle.proof_checker.specs.declared.condition.Condition.{Condition}
use Rattle.proof_checker.specs.declared.derivation.Derivation.{Derivation, Derivation-F, Split, Replace, Congruent, Clash, Combine, out-Derivation, the_lemmas}
use Rattle.proof_checker.specs.declared.view.View.{View}
use Rattle.proof_checker.specs.declared.chain.Chain.{Chain, More}
use Rattle.proof_checker.specs.Conditions.{plain_literal}
use Rattle.proof_checker.specs.Derivations.{DerivesFrom, split, replace, congruent, clash, false_itself, combine}
use Rattle.proof_checker.specs.Chains.{facts, view_literal}
use Rattle.proof_checker.specs.Additions.{DerivesWith, IsOnly, IsOtherSide, IsReplacement, NoneHas}
use Rattle.proof_checker.specs.Uses.{Congruence}
use Rattle.proof_checker.specs.Combos.{Combines}
use Rattle.proof_checker.proofs.Chained.{facts-More}

-- both ways
abbrev Iff : Type 0 → Type 0 → Type 0
Iff P Q = (P → Q) × (Q → P)

-- what a split derives
record IsSplit (c : Condition) (fs : List Literal) (l : Literal) (held else_ : Derivation) : Type 0 where
  left : DerivesFrom c (fs ++ plain_literal l ∷ []) held
  right : DerivesWith c fs (IsOtherSide c fs l) else_

from_split : (c : Condition) (fs : List Literal) (d : Derivation) (l : Literal) (held else_ : Derivation) → out-Derivation d ≡ Derivation-F.Split l held else_ → DerivesFrom c fs d → IsSplit c fs l held else_
from_split c _ _ l held else_ e (split fs d h o k side is splits left right) =
    let p : k ≡ l = cc in
    let q : h ≡ held = cc in
    let r : o ≡ else_ = cc in
    record {
      left = subst (λ z. DerivesFrom c (fs ++ plain_literal z ∷ []) held) p (subst (DerivesFrom c (fs ++ plain_literal k ∷ [])) q left);
      right = record {
        added = plain_literal side;
        has = subst (λ z. IsOtherSide c fs z (plain_literal side)) p (record { side = side; splits = splits; plain_is = refl });
        more = subst (DerivesFrom c (fs ++ plain_literal side ∷ [])) r right;
      };
    }
from_split c _ _ l held else_ e (replace fs d rest i j a b x k is at_i at_j replaced more) = absurd (cc)
from_split c _ _ l held else_ e (congruent fs d rest i j f g is at_i at_j operator equal more) = absurd (cc)
from_split c _ _ l held else_ e (clash fs d i j x k is at_i at_j opposite_) = absurd (cc)
from_split c _ _ l held else_ e (false_itself fs d i x is at_i false_) = absurd (cc)
from_split c _ _ l held else_ e (combine fs d steps rows is are combination) = absurd (cc)

pub split_derives : (c : Condition) (fs : List Literal) (d : Derivation) (l : Literal) (held else_ : Derivation) → out-Derivation d ≡ Derivation-F.Split l held else_ → Iff (DerivesFrom c fs d) (DerivesFrom c (fs ++ plain_literal l ∷ []) held × DerivesWith c fs (IsOtherSide c fs l) else_)
split_derives c fs d l held else_ e =
    (λ h. let s = from_split c fs d l held else_ e h in (s.left, s.right), λ h. made h.0 h.1)
  where
    made : DerivesFrom c (fs ++ plain_literal l ∷ []) held → DerivesWith c fs (IsOtherSide c fs l) else_ → DerivesFrom c fs d
    made left h = split fs d held else_ l h.has.side e h.has.splits left (subst (λ z. DerivesFrom c (fs ++ z ∷ []) else_) h.has.plain_is h.more)

from_replace : (c : Condition) (fs : List Literal) (d : Derivation) (i j : ℕ) (rest : Derivation) → out-Derivation d ≡ Derivation-F.Replace i j rest → DerivesFrom c fs d → DerivesWith c fs (IsReplacement fs i j) rest
from_replace c _ _ i j rest e (split fs d h o k side is splits left right) = absurd (cc)
from_replace c _ _ i j rest e (replace fs d r m n a b l k is at_i at_j replaced more) =
    let p : m ≡ i = cc in
    let q : n ≡ j = cc in
    let s : r ≡ rest = cc in
    record {
      added = k;
      has = subst (λ x. IsReplacement fs x j k) p (subst (λ x. IsReplacement fs m x k) q (record { equality = lit.Same a b; into = l; at_first = at_i; at_second = at_j; put = record { left = a; right = b; is = refl; replaced = replaced } }));
      more = subst (DerivesFrom c (fs ++ k ∷ [])) s more;
    }
from_replace c _ _ i j rest e (congruent fs d r m n f g is at_i at_j operator equal more) = absurd (cc)
from_replace c _ _ i j rest e (clash fs d m n x k is at_i at_j opposite_) = absurd (cc)
from_replace c _ _ i j rest e (false_itself fs d m x is at_i false_) = absurd (cc)
from_replace c _ _ i j rest e (combine fs d steps rows is are combination) = absurd (cc)

pub replace_derives : (c : Condition) (fs : List Literal) (d : Derivation) (i j : ℕ) (rest : Derivation) → out-Derivation d ≡ Derivation-F.Replace i j rest → Iff (DerivesFrom c fs d) (DerivesWith c fs (IsReplacement fs i j) rest)
replace_derives c fs d i j rest e = (
  from_replace c fs d i j rest e,
  λ h. replace fs d rest i j h.has.put.left h.has.put.right h.has.into h.added e (h.has.at_first ∙ ap Some h.has.put.is) h.has.at_second h.has.put.replaced h.more,
)

from_congruent : (c : Condition) (fs : List Literal) (d : Derivation) (i j : ℕ) (rest : Derivation) → out-Derivation d ≡ Derivation-F.Congruent i j rest → DerivesFrom c fs d → DerivesWith c fs (Congruence c fs i j) rest
from_congruent c _ _ i j rest e (split fs d h o k side is splits left right) = absurd (cc)
from_congruent c _ _ i j rest e (replace fs d r m n a b l k is at_i at_j replaced more) = absurd (cc)
from_congruent c _ _ i j rest e (congruent fs d r m n f g is at_i at_j operator equal more) =
    let p : m ≡ i = cc in
    let q : n ≡ j = cc in
    let s : r ≡ rest = cc in
    record {
      added = plain_literal (lit.Same f.result g.result);
      has = subst (λ x. Congruence c fs x j (plain_literal (lit.Same f.result g.result))) p (subst (λ x. Congruence c fs m x (plain_literal (lit.Same f.result g.result))) q (record { first = f; second = g; at_first = at_i; at_second = at_j; congruent = (operator, equal); results = refl }));
      more = subst (DerivesFrom c (fs ++ plain_literal (lit.Same f.result g.result) ∷ [])) s more;
    }
from_congruent c _ _ i j rest e (clash fs d m n x k is at_i at_j opposite_) = absurd (cc)
from_congruent c _ _ i j rest e (false_itself fs d m x is at_i false_) = absurd (cc)
from_congruent c _ _ i j rest e (combine fs d steps rows is are combination) = absurd (cc)

pub congruent_derives : (c : Condition) (fs : List Literal) (d : Derivation) (i j : ℕ) (rest : Derivation) → out-Derivation d ≡ Derivation-F.Congruent i j rest → Iff (DerivesFrom c fs d) (DerivesWith c fs (Congruence c fs i j) rest)
congruent_derives c fs d i j rest e = (
  from_congruent c fs d i j rest e,
  λ h. congruent fs d rest i j h.has.first h.has.second e h.has.at_first h.has.at_second h.has.congruent.0 h.has.congruent.1 (subst (λ z. DerivesFrom c (fs ++ z ∷ []) rest) h.has.results h.more),
)

from_combine : (c : Condition) (fs : List Literal) (d : Derivation) (steps : List ComboStep) → out-Derivation d ≡ Derivation-F.Combine steps → DerivesFrom c fs d → Combines fs steps
from_combine c _ _ steps e (split fs d h o k side is splits left right) = absurd (cc)
from_combine c _ _ steps e (replace fs d r m n a b l k is at_i at_j replaced more) = absurd (cc)
from_combine c _ _ steps e (congruent fs d r m n f g is at_i at_j operator equal more) = absurd (cc)
from_combine c _ _ steps e (clash fs d m n x k is at_i at_j opposite_) = absurd (cc)
from_combine c _ _ steps e (false_itself fs d m x is at_i false_) = absurd (cc)
from_combine c _ _ steps e (combine fs d ss rows is are combination) =
    let p : ss ≡ steps = cc in
    subst (Combines fs) p (rows, are, combination)

pub combine_derives : (c : Condition) (fs : List Literal) (d : Derivation) (steps : List ComboStep) → out-Derivation d ≡ Derivation-F.Combine steps → Iff (DerivesFrom c fs d) (Combines fs steps)
combine_derives c fs d steps e = (from_combine c fs d steps e, λ h. let (rows, are, combination) = h in combine fs d steps rows e are combination)

-- the assumption that is added
pub by_only : (c : Condition) (fs : List Literal) (P : Literal → Type 0) (d : Derivation) (m : Literal) (r : Bool) → IsOnly P m → Iff (IsTrue r) (DerivesFrom c (fs ++ m ∷ []) d) → Iff (IsTrue r) (DerivesWith c fs P d)
by_only c fs P d m r only both = (
  λ h. record { added = m; has = (only m).1 refl; more = both.0 h },
  λ h. both.1 (subst (λ z. DerivesFrom c (fs ++ z ∷ []) d) ((only h.added).0 h.has) h.more),
)

pub by_none : (c : Condition) (fs : List Literal) (P : Literal → Type 0) (d : Derivation) → NoneHas P → Iff (IsTrue false) (DerivesWith c fs P d)
by_none c fs P d none = (λ h. absurd (cc), λ h. absurd (none h.added h.has))

pub by_equal : (c : Condition) (fs : List Literal) (d : Derivation) (l m : Literal) (r : Bool) → m ≡ l → Iff (IsTrue r) (DerivesFrom c (fs ++ m ∷ []) d) → Iff (IsTrue r) (DerivesFrom c (fs ++ l ∷ []) d)
by_equal c fs d l m r is both = subst (λ z. Iff (IsTrue r) (DerivesFrom c (fs ++ z ∷ []) d)) is both

pub by_cell : (c : Condition) (d : Derivation) (before : Bor Chain) (v : View) (r : Bool) → Iff (IsTrue r) (DerivesFrom c (facts (More before v)) d) → Iff (IsTrue r) (DerivesFrom c (facts before.now ++ view_literal v ∷ []) d)
by_cell c d before v r both = subst (λ fs. Iff (IsTrue r) (DerivesFrom c fs d)) (facts-More before v) both

-- hypotheses behind the assumptions, the first of which is added
pub by_first : (c : Condition) (d : Derivation) (fs : List Literal) (l : Literal) (more : List Literal) (r : Bool) → Iff (IsTrue r) (DerivesFrom c ((fs ++ l ∷ []) ++ more) d) → Iff (IsTrue r) (DerivesFrom c (fs ++ l ∷ more) d)
by_first c d fs l more r both = subst (λ ks. Iff (IsTrue r) (DerivesFrom c ks d)) (append_assoc fs (l ∷ []) more) both

-- the forms of derivations
pub out-Split : (l : Literal) (held else_ : Derivation) → out-Derivation (Split l held else_) ≡ Derivation-F.Split l held else_
out-Split l held else_ = search (rules, the_lemmas)

pub out-Replace : (i j : ℕ) (rest : Derivation) → out-Derivation (Replace i j rest) ≡ Derivation-F.Replace i j rest
out-Replace i j rest = search (rules, the_lemmas)

pub out-Congruent : (i j : ℕ) (rest : Derivation) → out-Derivation (Congruent i j rest) ≡ Derivation-F.Congruent i j rest
out-Congruent i j rest = search (rules, the_lemmas)

pub out-Clash : (i j : ℕ) → out-Derivation (Clash i j) ≡ Derivation-F.Clash i j
out-Clash i j = search (rules, the_lemmas)

pub out-Combine : (steps : List ComboStep) → out-Derivation (Combine steps) ≡ Derivation-F.Combine steps
out-Combine steps = search (rules, the_lemmas)

-- a Bool that tells one thing tells another that is true with it
pub told_by : {P Q : Type 0} {r : Bool} → Iff P Q → Iff (IsTrue r) Q → Iff (IsTrue r) P
told_by both told = (λ h. both.1 (told.0 h), λ x. told.1 (both.0 x))

-- so do two Bools, the first of which is true
pub both_told_by : {P A B : Type 0} {q r : Bool} → Iff P (A × B) → q ≡ true → Iff (IsTrue q) A → Iff (IsTrue r) B → Iff (IsTrue r) P
both_told_by both is first second = (λ h. both.1 (first.0 is, second.0 h), λ x. second.1 (both.0 x).1)
