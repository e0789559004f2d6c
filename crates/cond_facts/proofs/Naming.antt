-- Numbers of their own for symbols.
use Rattle.std.specs.Prelude.{◌≡◌, ◌≢◌, ℕ, ◌+◌, ◌<◌, ◌≤◌, ◌==◌, Bool, true, false, ◌||◌, if◌then◌else◌, List, [], ◌∷◌, All, Result, Ok, Err, IfOk}
use Rattle.std.proofs.Common.{refl, ap, sym, subst, ◌∙◌, arith}
use Rattle.std.proofs.lemmas.List.Elements.{All-nil, All-cons, All-head, All-tail}
use Rattle.py_base.specs.declared.OutOfMemory.{OutOfMemory}
use Rattle.terms.specs.SamenessLaws.{nat_same, nat_itself}
use Rattle.proof_checker.specs.Valuations.{reference_in as number_in}
use Rattle.cond_facts.specs.declared.reference_pairs.Reference.{Reference}
use Rattle.cond_facts.specs.declared.reference_pairs.Reference.TheVariants.{Symbol, Number}
use Rattle.cond_facts.specs.declared.reference_pairs.Pair.{Pair}
use Rattle.cond_facts.specs.declared.reference_values.Named.{Named}
use Rattle.cond_facts.specs.ReferencePairs.{has, value_of, DifferAt}
use Rattle.cond_facts.specs.ReferenceValues.{is_listed, is_side, AreOwn, Extends, HasNumber, HaveNumbers}
use Rattle.cond_facts.proofs.ReferenceTerms.{has_no_side, or_none}

-- one symbol more, with a number from the next one on
module _ (ps : List Pair) (rs : List (ℕ × ℕ)) (next n k : ℕ) (own : AreOwn ps rs next) (above : next ≤ k) (unused : is_side ps k ≡ false) where
  below_by : (m : ℕ) (b : Bool) → (b || is_listed rs m) ≡ true → (if b then k else number_in rs m) < k + 1
  below_by m true h = omega arith
  below_by m false h = let lt : number_in rs m < next = own.below m h in omega (arith, lt, above)

  unused_by : (m : ℕ) (b : Bool) → (b || is_listed rs m) ≡ true → is_side ps (if b then k else number_in rs m) ≡ false
  unused_by m true h = unused
  unused_by m false h = own.unused m h

  not_next : (m : ℕ) → is_listed rs m ≡ true → number_in rs m ≡ k → ⊥
  not_next m h e = let lt : number_in rs m < next = own.below m h in omega (arith, lt, above, e)

  single_by : (i j : ℕ) (b c : Bool) → (i == n) ≡ b → (j == n) ≡ c → (b || is_listed rs i) ≡ true → (c || is_listed rs j) ≡ true → (if b then k else number_in rs i) ≡ (if c then k else number_in rs j) → i ≡ j
  single_by i j true true e f h g same = nat_same i n e ∙ sym (nat_same j n f)
  single_by i j true false e f h g same = absurd (not_next j g (sym same))
  single_by i j false true e f h g same = absurd (not_next i h same)
  single_by i j false false e f h g same = own.single i j h g same

  pub one_more : AreOwn ps ((n, k) ∷ rs) (k + 1)
  one_more = record {
    below = λ m h. below_by m (m == n) h;
    unused = λ m h. unused_by m (m == n) h;
    single = λ i j h g same. single_by i j (i == n) (j == n) refl refl h g same;
  }

or_true : (b c : Bool) → c ≡ true → (b || c) ≡ true
or_true true c h = refl
or_true false c h = h

or_first : (b c : Bool) → b ≡ true → (b || c) ≡ true
or_first true c h = refl
or_first false c h = absurd (cc)

pub named_there : (rs : List (ℕ × ℕ)) (n k : ℕ) → is_listed ((n, k) ∷ rs) n ≡ true
named_there rs n k = or_first (n == n) (is_listed rs n) (nat_itself n)

pub named_kept : (rs : List (ℕ × ℕ)) (n k m : ℕ) → is_listed rs m ≡ true → is_listed ((n, k) ∷ rs) m ≡ true
named_kept rs n k m h = or_true (m == n) (is_listed rs m) h

pub extended : (ps : List Pair) (old new : Named) (n k : ℕ) → new.values ≡ (n, k) ∷ old.values → new.next ≡ k + 1 → old.next ≤ k → is_side ps k ≡ false → Extends ps old new
extended ps old new n k e f above unused = record {
  own = λ own. subst (λ rs. AreOwn ps rs new.next) (sym e) (subst (AreOwn ps ((n, k) ∷ old.values)) (sym f) (one_more ps old.values old.next n k own above unused));
  kept = λ m h. subst (λ rs. is_listed rs m ≡ true) (sym e) (named_kept old.values n k m h);
}

pub extends_itself : (ps : List Pair) (old : Named) → Extends ps old old
extends_itself ps old = record { own = λ own. own; kept = λ n h. h }

pub extends_further : (ps : List Pair) (a b c : Named) → Extends ps a b → Extends ps b c → Extends ps a c
extends_further ps a b c f g = record { own = λ own. g.own (f.own own); kept = λ n h. g.kept n (f.kept n h) }

pub still_there : (ps : List Pair) (old new : Named) (x : Reference) → Extends ps old new → HasNumber old.values x → HasNumber new.values x
still_there ps old new (Symbol n) more h = more.kept n h
still_there ps old new (Number n) more h = tt

-- symbols with numbers of their own differ from each other and from the numbers in the pairs
module _ (ps : List Pair) (rs : List (ℕ × ℕ)) (next : ℕ) (own : AreOwn ps rs next) where
  apart : (x y : Reference) → ((n : ℕ) → is_side ps n ≡ false → (x ≢ Number n) × (y ≢ Number n)) → HasNumber rs x → HasNumber rs y → x ≢ y → value_of (number_in rs) x ≢ value_of (number_in rs) y
  apart (Symbol m) (Symbol n) free h k other = λ e. other (ap (λ (i : ℕ). Symbol i) (own.single m n h k e))
  apart (Symbol m) (Number n) free h k other =
      λ e. (free (number_in rs m) (own.unused m h)).1 (ap (λ (i : ℕ). Number i) (sym e))
  apart (Number m) (Symbol n) free h k other =
      λ e. (free (number_in rs n) (own.unused n k)).0 (ap (λ (i : ℕ). Number i) e)
  apart (Number m) (Number n) free h k other = λ e. other (ap (λ (i : ℕ). Number i) e)

  all_apart : (qs : List Pair) → ((n : ℕ) → is_side ps n ≡ false → is_side qs n ≡ false) → All (HaveNumbers rs) qs → All (λ p. p.left ≢ p.right) qs → All (DifferAt (number_in rs)) qs
  all_apart [] free there other = All-nil (DifferAt (number_in rs))
  all_apart (q ∷ qs) free there other =
      let first = All-head (HaveNumbers rs) q qs there in
      All-cons (DifferAt (number_in rs)) q qs (apart q.left q.right (λ n h. has_no_side q (Number n) (or_none (has q (Number n)) (is_side qs n) (free n h)).0) first.left first.right (All-head (λ p. p.left ≢ p.right) q qs other)) (all_apart qs (λ n h. (or_none (has q (Number n)) (is_side qs n) (free n h)).1) (All-tail (HaveNumbers rs) q qs there) (All-tail (λ p. p.left ≢ p.right) q qs other))

pub none_own : (ps : List Pair) → AreOwn ps [] 0
none_own ps = record { below = λ n h. absurd (cc); unused = λ n h. absurd (cc); single = λ m n h k e. absurd (cc) }

pub named_apart : (ps : List Pair) (old new : Named) → old.values ≡ [] → old.next ≡ 0 → Extends ps old new → All (HaveNumbers new.values) ps → All (λ p. p.left ≢ p.right) ps → All (DifferAt (number_in new.values)) ps
named_apart ps old new e f more there other =
    all_apart ps new.values new.next (more.own (subst (λ rs. AreOwn ps rs old.next) (sym e) (subst (AreOwn ps []) (sym f) (none_own ps)))) ps (λ n h. h) there other

-- the sides of the first pair are named, and then those of the others
pub named_further : (ps : List Pair) (a b c : Named) (r : Result Named OutOfMemory) → Extends ps a b → Extends ps b c → IfOk r (Extends ps c) → IfOk r (Extends ps a)
named_further ps a b c (Ok d) f g h = extends_further ps a c d (extends_further ps a b c f g) h
named_further ps a b c (Err _) f g h = tt

pub all_named : (ps : List Pair) (p : Pair) (some more : List Pair) (b c : Named) (r : Result Named OutOfMemory) → some ≡ p ∷ more → HasNumber b.values p.left → Extends ps b c → HasNumber c.values p.right → IfOk r (Extends ps c) → IfOk r (λ d. All (HaveNumbers d.values) more) → IfOk r (λ d. All (HaveNumbers d.values) some)
all_named ps p some more b c (Ok d) e left g right h there =
    subst (λ qs. All (HaveNumbers d.values) qs) (sym e) (All-cons (HaveNumbers d.values) p more (record { left = still_there ps b d p.left (extends_further ps b c d g h) left; right = still_there ps c d p.right h right }) there)
all_named ps p some more b c (Err _) e left g right h there = tt
