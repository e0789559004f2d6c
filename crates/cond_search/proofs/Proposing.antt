-- The literals that the search asks for may be proposed.
use Rattle.std.specs.Prelude.{◌≡◌, ℕ, ◌<◌, List, [], ◌∷◌, length, All, Contains, Option, Some, slice_get}
use Rattle.std.proofs.Common.{refl, ap, sym, subst, ◌∙◌, inl}
use Rattle.std.proofs.lemmas.List.Elements.{All-nil, All-cons, All-contains}
use Rattle.std.proofs.lemmas.Option.{slice_get_within}
use Rattle.terms.specs.declared.Term.{Term}
use Rattle.terms.specs.declared.Literal.{Literal}
use Rattle.terms.specs.declared.Literal.TheVariants as lit
use Rattle.terms.specs.Fitting.{Application, AppliedIn, sides, operands, terms_in}
use Rattle.proof_checker.specs.declared.Condition.{Condition}
use Rattle.proof_checker.specs.Conditions.{literals_of, plus_one}
use Rattle.proof_checker.specs.Derivations.{AreNumbers, AreEqual, ArePair, Assumed, Splits, same_number, apart, Numbered}
use Rattle.cond_plan.specs.declared.Plan.{Plan}
use Rattle.cond_plan.specs.declared.Applied.{Applied}
use Rattle.cond_plan.specs.declared.Comparison.{Comparison}
use Rattle.cond_plan.specs.declared.Need.{Need}
use Rattle.cond_plan.specs.declared.Need.TheVariants as need
use Rattle.cond_plan.specs.declared.Needed.{Needed}
use Rattle.cond_plan.specs.declared.Repair.TheVariants as repairs
use Rattle.cond_plan.specs.Applied.{application_of}
use Rattle.cond_plan.specs.Compared.{ComparedIn, as_sides, as_operands}
use Rattle.cond_plan.specs.Plans.{IsComparison, IsListed, IsPlaced, AreOfNumbers}
use Rattle.cond_plan.specs.Needs.{IsNeeded, IsNeededAmong, ArePairAt, IsRepair}
use Rattle.cond_facts.specs.Decisions.{IsApartListed}
use Rattle.cond_facts.proofs.Fitted.{member_at}
use Rattle.cond_facts.proofs.Standing.{at_first, later, in_literal}
use Rattle.cond_search.specs.declared.step.Split.{Split}
use Rattle.cond_search.specs.declared.step.Congruence.{Congruence}
use Rattle.cond_search.specs.Questions.{IsQuestion, of_equality, of_side, of_results, IsAnswer}
use Rattle.cond_search.specs.Steps.{IsBegun, IsProposed, IsSplitOf, IsProposedSplit, IsProposedCongruence}
use Rattle.cond_search.proofs.Plainness.{plain_pair, both_numbers, one_sort, exchanged, one_more}
use Rattle.cond_search.proofs.Orders.{same_orders, apart_orders, below_orders, above_orders, result_orders}

-- ---- what a condition compares
applied_in : (c : Condition) (n : ℕ) (l : Literal) (f : Application) → slice_get (literals_of c) n ≡ Some l → AppliedIn (l ∷ []) f → AppliedIn (literals_of c) f
applied_in c n l f at (t, h, e) = (t, in_literal (literals_of c) n l t at h, e)

compared_pair : (c : Condition) (n : ℕ) (a b : Term) → ComparedIn c n a b → ArePair c a b
compared_pair c n _ _ (as_sides l a b at e) = inl (sides l a b (member_at (literals_of c) n l at) e)
compared_pair c n _ _ (as_operands l f g k a b at fs gs op ka kb) =
    inl (operands f g k a b (applied_in c n l f at fs) gs op ka kb)

-- ---- literals that say nothing of numbers that are apart
same_listed : (p : Plan) (a b : Term) → IsApartListed p (lit.Same a b)
same_listed p a b u v e n = absurd (cc)

at_most_listed : (p : Plan) (a b : Term) → IsApartListed p (lit.AtMost a b)
at_most_listed p a b u v e n = absurd (cc)

apart_sides : (u v a b : Term) → lit.Apart u v ≡ lit.Apart a b → (u ≡ a) × (v ≡ b)
apart_sides u v a b e = (cc, cc)

apart_listed : (p : Plan) (a b : Term) → IsListed p.comparisons a b → IsApartListed p (lit.Apart a b)
apart_listed p a b h u v e n =
    let (left, right) = apart_sides a b u v e in
    subst (λ z. IsListed p.comparisons z v) left (subst (λ z. IsListed p.comparisons a z) right h)

-- ---- answers of open questions
two_open : (fs : List Literal) (l k : Literal) → ¬ (Contains fs l) → ¬ (Contains fs k) → All (λ m. ¬ (Contains fs m)) (l ∷ k ∷ [])
two_open fs l k p q = All-cons (λ m. ¬ (Contains fs m)) l (k ∷ []) p (All-cons (λ m. ¬ (Contains fs m)) k [] q (All-nil (λ m. ¬ (Contains fs m))))

first_of_two : (p : Plan) (fs : List Literal) (l k : Literal) → IsQuestion p (l ∷ k ∷ []) → ¬ (Contains fs l) → ¬ (Contains fs k) → IsAnswer p fs l
first_of_two p fs l k asked h j = record {
  question = l ∷ k ∷ [];
  asked = asked;
  open_ = two_open fs l k h j;
  answers = at_first l l (k ∷ []) refl;
}

second_of_two : (p : Plan) (fs : List Literal) (l k : Literal) → IsQuestion p (l ∷ k ∷ []) → ¬ (Contains fs l) → ¬ (Contains fs k) → IsAnswer p fs k
second_of_two p fs l k asked h j = record {
  question = l ∷ k ∷ [];
  asked = asked;
  open_ = two_open fs l k h j;
  answers = later l k (k ∷ []) (at_first k k [] refl);
}

-- ---- splits
module _ (c : Condition) (p : Plan) (fs : List Literal) (n : ℕ) (a b : Term) (numbers : AreNumbers a b) (compared : ComparedIn c n a b) (listed : IsListed p.comparisons a b) where
  same_proposed : ¬ (Contains fs (lit.Same a b)) → ¬ (Contains fs (lit.Apart a b)) → IsProposed c p fs n (lit.Same a b)
  same_proposed h k = record {
    is_sorted = one_sort a b numbers;
    is_plain = plain_pair lit.Same a b numbers;
    orders = same_orders c n a b numbers compared;
    listed = same_listed p a b;
    answer = first_of_two p fs (lit.Same a b) (lit.Apart a b) (of_equality a b listed) h k;
  }

  apart_proposed : ¬ (Contains fs (lit.Same a b)) → ¬ (Contains fs (lit.Apart a b)) → IsProposed c p fs n (lit.Apart a b)
  apart_proposed h k = record {
    is_sorted = one_sort a b numbers;
    is_plain = plain_pair lit.Apart a b numbers;
    orders = apart_orders c n a b;
    listed = apart_listed p a b listed;
    answer = second_of_two p fs (lit.Same a b) (lit.Apart a b) (of_equality a b listed) h k;
  }

  below_proposed : ¬ (Contains fs (lit.AtMost (plus_one a) b)) → ¬ (Contains fs (lit.AtMost (plus_one b) a)) → IsProposed c p fs n (lit.AtMost (plus_one a) b)
  below_proposed h k = record {
    is_sorted = both_numbers (plus_one a) b (one_more a b numbers);
    is_plain = plain_pair lit.AtMost (plus_one a) b (one_more a b numbers);
    orders = below_orders c n a b numbers compared;
    listed = at_most_listed p (plus_one a) b;
    answer = first_of_two p fs (lit.AtMost (plus_one a) b) (lit.AtMost (plus_one b) a) (of_side a b listed) h k;
  }

  above_proposed : ¬ (Contains fs (lit.AtMost (plus_one a) b)) → ¬ (Contains fs (lit.AtMost (plus_one b) a)) → IsProposed c p fs n (lit.AtMost (plus_one b) a)
  above_proposed h k = record {
    is_sorted = both_numbers (plus_one b) a (one_more b a (exchanged a b numbers));
    is_plain = plain_pair lit.AtMost (plus_one b) a (one_more b a (exchanged a b numbers));
    orders = above_orders c n a b numbers compared;
    listed = at_most_listed p (plus_one b) a;
    answer = second_of_two p fs (lit.AtMost (plus_one a) b) (lit.AtMost (plus_one b) a) (of_side a b listed) h k;
  }

  assumed_apart : Contains fs (lit.Apart a b) → Assumed fs (lit.Apart a b)
  assumed_apart h = inl (subst (Contains fs) (sym (plain_pair lit.Apart a b numbers)) h)

  -- a split on two literals that are proposed
  proposed_split : (l k : Literal) → Splits c fs l k → IsProposed c p fs n l → IsProposed c p fs n k → (s : Split) → s.first ≡ l → s.second ≡ k → IsProposedSplit c p fs n s
  proposed_split l k splits first second s e f =
      let at_first_ : IsProposed c p fs n s.first = subst (IsProposed c p fs n) (sym e) first in
      let at_second_ : IsProposed c p fs n s.second = subst (IsProposed c p fs n) (sym f) second in
      record {
        split = record {
          splits = subst (λ z. Splits c fs z s.second) (sym e) (subst (λ z. Splits c fs l z) (sym f) splits);
          first_plain = at_first_.is_plain;
          second_plain = at_second_.is_plain;
        };
        first = at_first_;
        second = at_second_;
      }

  pub equality_proposed : ¬ (Contains fs (lit.Same a b)) → ¬ (Contains fs (lit.Apart a b)) → (s : Split) → s.first ≡ lit.Same a b → s.second ≡ lit.Apart a b → IsProposedSplit c p fs n s
  equality_proposed h k s e f =
      proposed_split (lit.Same a b) (lit.Apart a b) (same_number a b numbers (compared_pair c n a b compared)) (same_proposed h k) (apart_proposed h k) s e f

  pub sides_proposed : Contains fs (lit.Apart a b) → ¬ (Contains fs (lit.AtMost (plus_one a) b)) → ¬ (Contains fs (lit.AtMost (plus_one b) a)) → (s : Split) → s.first ≡ lit.AtMost (plus_one a) b → s.second ≡ lit.AtMost (plus_one b) a → IsProposedSplit c p fs n s
  sides_proposed there h k s e f =
      proposed_split (lit.AtMost (plus_one a) b) (lit.AtMost (plus_one b) a) (apart a b numbers (assumed_apart there)) (below_proposed h k) (above_proposed h k) s e f

  need_proposed : (w : Need) (k : Comparison) → k.left ≡ a → k.right ≡ b → IsNeeded fs k w → (s : Split) → IsSplitOf w a b s → IsProposedSplit c p fs n s
  need_proposed need.Equality k e f (same, apart_) s (first, second) =
      equality_proposed (subst (λ z. ¬ (Contains fs (lit.Same z b))) e (subst (λ z. ¬ (Contains fs (lit.Same k.left z))) f same)) (subst (λ z. ¬ (Contains fs (lit.Apart z b))) e (subst (λ z. ¬ (Contains fs (lit.Apart k.left z))) f apart_)) s first second
  need_proposed need.Side k e f (there, less, more) s (first, second) =
      sides_proposed (subst (λ z. Contains fs (lit.Apart z b)) e (subst (λ z. Contains fs (lit.Apart k.left z)) f there)) (subst (λ z. ¬ (Contains fs (lit.AtMost (plus_one z) b))) e (subst (λ z. ¬ (Contains fs (lit.AtMost (plus_one k.left) z))) f less)) (subst (λ z. ¬ (Contains fs (lit.AtMost (plus_one b) z))) e (subst (λ z. ¬ (Contains fs (lit.AtMost (plus_one z) k.left))) f more)) s first second

some_same : {X : Type 0} (o : Option X) (x y : X) → o ≡ Some x → o ≡ Some y → x ≡ y
some_same o x y e f = let h : Some x ≡ Some y = sym e ∙ f in cc

-- ---- a comparison that isn't settled
pub comparison_within : (fs : List Literal) (p : Plan) (w : Needed) → IsNeededAmong fs p.comparisons w → w.place < length p.comparisons
comparison_within fs p w h = slice_get_within p.comparisons w.place h.comparison h.at_place

pub comparison_proposed : (c : Condition) (p : Plan) (fs : List Literal) (w : Needed) (k : Comparison) (s : Split) → IsBegun c p fs → IsNeededAmong fs p.comparisons w → slice_get p.comparisons w.place ≡ Some k → IsSplitOf w.need k.left k.right s → IsProposedSplit c p fs k.place s
comparison_proposed c p fs w k s begun h at split =
    let there : Contains p.comparisons k = member_at p.comparisons w.place k at in
    let is : IsComparison c k = All-contains (IsComparison c) p.comparisons k begun.plan.comparisons.compared there in
    let same : h.comparison ≡ k = some_same (slice_get p.comparisons w.place) h.comparison k h.at_place at in
    need_proposed c p fs k.place k.left k.right is.numbers is.compared (k, there, refl, refl) w.need k refl refl (subst (λ z. IsNeeded fs z w.need) same h.needed) s split

-- ---- two applications
numbers_of_operand : (p : Plan) (f : Applied) (k : ℕ) (a : Term) → AreOfNumbers p.applications → Contains p.applications f → slice_get f.operands k ≡ Some a → AreNumbers a a
numbers_of_operand p f k a all there at =
    let both : AreNumbers f.result f.result × All (λ t. AreNumbers t t) f.operands = All-contains (λ g. AreNumbers g.result g.result × All (λ t. AreNumbers t t) g.operands) p.applications f all there in
    All-contains (λ t. AreNumbers t t) f.operands a both.1 (member_at f.operands k a at)

numbers_of_result : (p : Plan) (f : Applied) → AreOfNumbers p.applications → Contains p.applications f → AreNumbers f.result f.result
numbers_of_result p f all there =
    let both : AreNumbers f.result f.result × All (λ t. AreNumbers t t) f.operands = All-contains (λ g. AreNumbers g.result g.result × All (λ t. AreNumbers t t) g.operands) p.applications f all there in
    both.0

two_numbers : (a b : Term) → AreNumbers a a → AreNumbers b b → AreNumbers a b
two_numbers a b p q = record { left = p.left; right = q.left }

stands_among : (c : Condition) (f : Applied) → IsPlaced c f → AppliedIn (literals_of c) (application_of f)
stands_among c f is = applied_in c f.place is.literal (application_of f) is.at_place is.stands

module _ (c : Condition) (p : Plan) (fs : List Literal) (i j k : ℕ) (f g : Applied) (begun : IsBegun c p fs) (at_i : slice_get p.applications i ≡ Some f) (at_j : slice_get p.applications j ≡ Some g) where
  there_f : Contains p.applications f
  there_f = member_at p.applications i f at_i

  there_g : Contains p.applications g
  there_g = member_at p.applications j g at_j

  placed_f : IsPlaced c f
  placed_f = All-contains (IsPlaced c) p.applications f begun.plan.applications.placed there_f

  placed_g : IsPlaced c g
  placed_g = All-contains (IsPlaced c) p.applications g begun.plan.applications.placed there_g

  operands_proposed : (a b : Term) → i < j → f.operator ≡ g.operator → slice_get f.operands k ≡ Some a → slice_get g.operands k ≡ Some b → ¬ (Contains fs (lit.Same a b)) → ¬ (Contains fs (lit.Apart a b)) → (s : Split) → s.first ≡ lit.Same a b → s.second ≡ lit.Apart a b → IsProposedSplit c p fs f.place s
  operands_proposed a b order op at_a at_b h q s first second =
      let numbers : AreNumbers a b = two_numbers a b (numbers_of_operand p f k a begun.plan.numbers there_f at_a) (numbers_of_operand p g k b begun.plan.numbers there_g at_b) in
      let compared : ComparedIn c f.place a b = as_operands placed_f.literal (application_of f) (application_of g) k a b placed_f.at_place placed_f.stands (stands_among c g placed_g) op at_a at_b in
      equality_proposed c p fs f.place a b numbers compared (begun.plan.comparisons.operands i j f g k a b order at_i at_j op at_a at_b) h q s first second

  results_proposed : f.operator ≡ g.operator → AreEqual fs f.operands g.operands → ¬ (Contains fs (lit.Same f.result g.result)) → (w : Congruence) → w.left ≡ i → w.right ≡ j → w.results ≡ lit.Same f.result g.result → IsProposedCongruence c p fs f.place w
  results_proposed op equal none w left right e =
      let numbers : AreNumbers f.result g.result = two_numbers f.result g.result (numbers_of_result p f begun.plan.numbers there_f) (numbers_of_result p g begun.plan.numbers there_g) in
      let l = lit.Same f.result g.result in
      let is : IsProposed c p fs f.place l = record {
        is_sorted = one_sort f.result g.result numbers;
        is_plain = plain_pair lit.Same f.result g.result numbers;
        orders = result_orders c f.place placed_f.literal (application_of f) (application_of g) placed_f.at_place placed_f.stands (stands_among c g placed_g) op;
        listed = same_listed p f.result g.result;
        answer = record {
          question = l ∷ [];
          asked = of_results f g there_f there_g;
          open_ = All-cons (λ m. ¬ (Contains fs m)) l [] none (All-nil (λ m. ¬ (Contains fs m)));
          answers = at_first l l [] refl;
        };
      } in
      let proposed : IsProposed c p fs f.place w.results = subst (IsProposed c p fs f.place) (sym e) is in
      record {
        congruence = record {
          left = application_of f;
          right = application_of g;
          at_left = subst (λ n. Numbered [] (terms_in (literals_of c)) n (application_of f)) (sym left) (begun.plan.applications.numbered i f at_i);
          at_right = subst (λ n. Numbered [] (terms_in (literals_of c)) n (application_of g)) (sym right) (begun.plan.applications.numbered j g at_j);
          operator = op;
          operands = equal;
          results = e;
          is_plain = proposed.is_plain;
        };
        results = proposed;
      }

-- the two applications of a repair
pub pair_within : (fs : List Applied) (i j : ℕ) (f g : Applied) → ArePairAt fs i j f g → (i < length fs) × (j < length fs)
pair_within fs i j f g h = (slice_get_within fs i f h.at_first, slice_get_within fs j g h.at_second)

operand_along : (o : Option Applied) (f g : Applied) (k : ℕ) (a : Term) → o ≡ Some f → o ≡ Some g → slice_get f.operands k ≡ Some a → slice_get g.operands k ≡ Some a
operand_along o f g k a e h at = subst (λ z. slice_get z.operands k ≡ Some a) (some_same o f g e h) at

-- ---- operands that aren't known to be equal
module _ (fs : List Literal) (all : List Applied) (i j k : ℕ) (h : IsRepair fs all (repairs.Operand i j k)) where
  pub first_within : i < length all
  first_within = slice_get_within all i h.2.first h.2.pair.at_first

  pub second_within : j < length all
  second_within = slice_get_within all j h.2.second h.2.pair.at_second

  pub left_within : (f : Applied) → slice_get all i ≡ Some f → k < length f.operands
  left_within f at =
      slice_get_within f.operands k h.0 (operand_along (slice_get all i) h.2.first f k h.0 h.2.pair.at_first at h.2.at_first)

  pub right_within : (g : Applied) → slice_get all j ≡ Some g → k < length g.operands
  right_within g at =
      slice_get_within g.operands k h.1 (operand_along (slice_get all j) h.2.second g k h.1 h.2.pair.at_second at h.2.at_second)

pub operand_proposed : (c : Condition) (p : Plan) (fs : List Literal) (i j k : ℕ) (f g : Applied) (a b : Term) (s : Split) → IsBegun c p fs → IsRepair fs p.applications (repairs.Operand i j k) → slice_get p.applications i ≡ Some f → slice_get p.applications j ≡ Some g → slice_get f.operands k ≡ Some a → slice_get g.operands k ≡ Some b → s.first ≡ lit.Same a b → s.second ≡ lit.Apart a b → IsProposedSplit c p fs f.place s
operand_proposed c p fs i j k f g a b s begun (u, v, at, same, apart_) at_i at_j at_a at_b first second =
    let e : at.first ≡ f = some_same (slice_get p.applications i) at.first f at.pair.at_first at_i in
    let q : at.second ≡ g = some_same (slice_get p.applications j) at.second g at.pair.at_second at_j in
    let left : u ≡ a = some_same (slice_get f.operands k) u a (operand_along (slice_get p.applications i) at.first f k u at.pair.at_first at_i at.at_first) at_a in
    let right : v ≡ b = some_same (slice_get g.operands k) v b (operand_along (slice_get p.applications j) at.second g k v at.pair.at_second at_j at.at_second) at_b in
    let op : f.operator ≡ g.operator = sym (ap (λ z. z.operator) e) ∙ at.pair.operator ∙ ap (λ z. z.operator) q in
    operands_proposed c p fs i j k f g begun at_i at_j a b at.pair.order op at_a at_b (subst (λ z. ¬ (Contains fs (lit.Same z b))) left (subst (λ z. ¬ (Contains fs (lit.Same u z))) right same)) (subst (λ z. ¬ (Contains fs (lit.Apart z b))) left (subst (λ z. ¬ (Contains fs (lit.Apart u z))) right apart_)) s first second

-- ---- applications with equal operands
pub congruence_within : (fs : List Literal) (all : List Applied) (i j : ℕ) → IsRepair fs all (repairs.Congruence i j) → (i < length all) × (j < length all)
congruence_within fs all i j (f, g, pair, equal, none) = pair_within all i j f g pair

pub congruence_proposed : (c : Condition) (p : Plan) (fs : List Literal) (i j : ℕ) (f g : Applied) (w : Congruence) → IsBegun c p fs → IsRepair fs p.applications (repairs.Congruence i j) → slice_get p.applications i ≡ Some f → slice_get p.applications j ≡ Some g → w.left ≡ i → w.right ≡ j → w.results ≡ lit.Same f.result g.result → IsProposedCongruence c p fs f.place w
congruence_proposed c p fs i j f g w begun (u, v, pair, equal, none) at_i at_j left right results =
    let e : u ≡ f = some_same (slice_get p.applications i) u f pair.at_first at_i in
    let q : v ≡ g = some_same (slice_get p.applications j) v g pair.at_second at_j in
    let op : f.operator ≡ g.operator = sym (ap (λ z. z.operator) e) ∙ pair.operator ∙ ap (λ z. z.operator) q in
    results_proposed c p fs i j 0 f g begun at_i at_j op (subst (λ z. AreEqual fs z.operands g.operands) e (subst (λ z. AreEqual fs u.operands z.operands) q equal)) (subst (λ z. ¬ (Contains fs (lit.Same z.result g.result))) e (subst (λ z. ¬ (Contains fs (lit.Same u.result z.result))) q none)) w left right results
