-- Laws of terms that aren't built, and what falls while they are read.
use Rattle.std.specs.Prelude.{◌≡◌, ℕ, zero, suc, ◌+◌, ◌*◌, ◌<◌, ◌≤◌, Bool, true, false, ◌-◌, length, take, drop, get_or, if◌then◌else◌, ◌||◌, List, [], ◌∷◌, ◌++◌, map}
use Rattle.std.proofs.Common.{refl, ap, sym, subst, ◌∙◌, arith, rules, Bor, ⊎_elim}
use Rattle.std.proofs.lemmas.Bool.{cases_lt}
use Rattle.std.proofs.lemmas.List.{take_all}
use Rattle.terms.specs.declared.Term.{Term, Term-F, map-Term, out-Term, roll-Term, roll-out-Term, out-roll-Term, fold-roll-Term, fold_out-Term, para-roll-Term}
use Rattle.terms.specs.Sorts.{of_numbers, number_step, every, some_and_every}
use Rattle.terms.specs.Within.{terms_within, within_step, parts_of}
use Rattle.terms.specs.Sameness.{same_form, same_term}
use Rattle.proof_checker.specs.declared.origin.Origin.{Origin}
use Rattle.proof_checker.specs.declared.puts.Puts.{Puts, None, More, the_lemmas}
use Rattle.proof_checker.specs.declared.puts.Puts.TheOpen.{Puts-F}
use Rattle.proof_checker.specs.declared.puts.Puts.TheViews.{roll-Puts}
use Rattle.proof_checker.specs.declared.puts.Puts.TheFolds.{map-Puts, fold-roll-Puts, ind-Puts}
use Rattle.proof_checker.specs.declared.puts.Todo.{Todo, Put, Then, With, Stands, Numbers}
use Rattle.proof_checker.specs.declared.puts.Todo.TheOpen.{Todo-F}
use Rattle.proof_checker.specs.declared.puts.Todo.TheViews.{roll-Todo}
use Rattle.proof_checker.specs.declared.puts.Todo.TheFolds.{map-Todo, fold-roll-Todo, ind-Todo}
use Rattle.proof_checker.specs.declared.puts.Todo as todo
use Rattle.proof_checker.specs.Replacing.{put}
use Rattle.proof_checker.specs.Views.{origin_term, sizes, size, size_step, below, Change, change, puts_step, under, node_term, node_weight, Question, question, todo_step, has}
use Rattle.proof_checker.proofs.Putting.{put-roll}

pub change-None : change None ≡ record { under = λ t. t; weight = 0; count = 0 }
change-None = search (rules, the_lemmas)

abbrev pub put_weight : Origin → Bor Puts → Origin → Bor Puts → ℕ
put_weight f fp g gp = 1 + node_weight f fp.now + node_weight g gp.now

pub change-More : (p : Bor Puts) (f : Origin) (fp : Bor Puts) (g : Origin) (gp : Bor Puts) → change (More p f fp g gp) ≡ record {
  under = λ t. put (node_term f fp.now) (node_term g gp.now) (under p.now t);
  weight = (change p.now).weight + put_weight f fp g gp;
  count = (change p.now).count + 1;
}
change-More p f fp g gp = search (rules, the_lemmas)

pub question-Put : (f : Origin) (fp : Bor Puts) (g : Origin) (gp : Bor Puts) (rest : Bor Todo) → question (Put f fp g gp rest) ≡ record {
  answer = λ t. (question rest.now).answer (put (node_term f fp.now) (node_term g gp.now) t);
  weight = (question rest.now).weight + put_weight f fp g gp;
  stage = (question rest.now).stage + 1;
}
question-Put f fp g gp rest = search (rules, todo.the_lemmas)

pub question-Then : (o : Origin) (p : Bor Puts) → question (Then o p) ≡ record {
  answer = λ t. same_term t (under p.now (origin_term o));
  weight = node_weight o p.now;
  stage = 2 * (change p.now).count + 3;
}
question-Then o p = search (rules, todo.the_lemmas)

pub question-With : (o : Origin) (p : Bor Puts) → question (With o p) ≡ record {
  answer = λ t. same_term (node_term o p.now) t;
  weight = node_weight o p.now;
  stage = 1;
}
question-With o p = search (rules, todo.the_lemmas)

pub question-Stands : (o : Origin) (p : Bor Puts) → question (Stands o p) ≡ record {
  answer = λ t. has (terms_within t) (node_term o p.now);
  weight = node_weight o p.now;
  stage = 2;
}
question-Stands o p = search (rules, todo.the_lemmas)

pub question-Numbers : question Numbers ≡ record { answer = of_numbers; weight = 0; stage = 1 }
question-Numbers = search (rules, todo.the_lemmas)

-- each replacement weighs at least 1
abbrev IsFew : Change → Type 0
IsFew c = c.count ≤ c.weight

few_step : (y : Puts-F ((p : Puts) × IsFew (change p))) → IsFew (puts_step (map-Puts Puts Change change (map-Puts ((p : Puts) × IsFew (change p)) Puts (λ e. e.0) y)))
few_step Puts-F.None = omega arith
few_step (Puts-F.More p f fp g gp) = let h : (change p.now.0).count ≤ (change p.now.0).weight = p.now.1 in omega arith

pub few : (p : Puts) → (change p).count ≤ (change p).weight
few = ind-Puts (λ p. IsFew (change p)) (λ x y is.
    subst (λ (z : Puts-F Puts). IsFew (change (roll-Puts z))) is
    (subst IsFew (sym (fold-roll-Puts Change puts_step (map-Puts ((p : Puts) × IsFew (change p)) Puts (λ e. e.0) y))) (few_step y)))

abbrev IsShort : Question → Type 0
IsShort q = q.stage ≤ 2 * q.weight + 3

short_step : (y : Todo-F ((t : Todo) × IsShort (question t))) → IsShort (todo_step (map-Todo Todo Question question (map-Todo ((t : Todo) × IsShort (question t)) Todo (λ e. e.0) y)))
short_step (Todo-F.Put f fp g gp rest) =
    let h : (question rest.now.0).stage ≤ 2 * (question rest.now.0).weight + 3 = rest.now.1 in omega arith
short_step (Todo-F.Then o p) = omega (arith, few p.now)
short_step (Todo-F.With o p) = omega arith
short_step (Todo-F.Stands o p) = omega arith
short_step Todo-F.Numbers = omega arith

pub short : (t : Todo) → (question t).stage ≤ 2 * (question t).weight + 3
short = ind-Todo (λ t. IsShort (question t)) (λ x y is.
    subst (λ (z : Todo-F Todo). IsShort (question (roll-Todo z))) is
    (subst IsShort (sym (fold-roll-Todo Question todo_step (map-Todo ((t : Todo) × IsShort (question t)) Todo (λ e. e.0) y))) (short_step y)))

-- room for the stages at each weight
abbrev pub room : ℕ → ℕ
room zero = 0
room (suc n) = room n + (2 * n + 8)

room-suc : (n : ℕ) → room (suc n) ≡ room n + (2 * n + 8)
room-suc n = refl

pub room_grows : (a b s : ℕ) → a < b → s ≤ 2 * a + 7 → room a + s < room b
room_grows a zero s lt h = absurd (omega arith)
room_grows a (suc n) s lt h = ⊎_elim
    (λ (less : a < n). let more = room_grows a n s less h in let e = room-suc n in omega (arith, more, e))
    (λ (le : n ≤ a). let same : a ≡ n = omega arith in let e : room (suc a) ≡ room a + (2 * a + 8) = room-suc a in let e' : room (suc n) ≡ room (suc a) = ap (λ m. room (suc m)) (sym same) in omega (arith, e, e'))
    (cases_lt a n)

put_is : (f g t : Term) → put f g t ≡ (if same_term t f then g else below (put f g) t)
put_is f g t = ap (put f g) (sym (roll-out-Term t)) ∙ put-roll f g (out-Term t) ∙ ap (λ u. if same_term u f then g else below (put f g) t) (roll-out-Term t)

-- a term that is the one to be replaced
pub put_here : (f g t : Term) → same_term t f ≡ true → put f g t ≡ g
put_here f g t e = put_is f g t ∙ ap (λ (b : Bool). if b then g else below (put f g) t) e

fused_lists : (h k : Term → Term) (ts : List Term) → map h (map k ts) ≡ map (λ t. h (k t)) ts
fused_lists h k [] = refl
fused_lists h k (t ∷ ts) = ap (λ us. h (k t) ∷ us) (fused_lists h k ts)

fused : (h k : Term → Term) (x : Term-F Term) → map-Term Term Term h (map-Term Term Term k x) ≡ map-Term Term Term (λ t. h (k t)) x
fused h k (Term-F.Sym n) = refl
fused h k (Term-F.Lit z) = refl
fused h k (Term-F.Add a b) = refl
fused h k (Term-F.Scale l a) = refl
fused h k (Term-F.App operator all) = ap (λ ts. Term-F.App operator ts) (fused_lists h k all)
fused h k (Term-F.RefSym n) = refl
fused h k (Term-F.RefLit n) = refl
fused h k Term-F.Nil = refl

below-below : (h k : Term → Term) (t : Term) → below h (below k t) ≡ below (λ u. h (k u)) t
below-below h k t = ap (λ x. roll-Term (map-Term Term Term h x)) (out-roll-Term (map-Term Term Term k (out-Term t))) ∙ ap roll-Term (fused h k (out-Term t))

-- another term: it is put into the parts
pub put_below : (f g : Term) (h : Term → Term) (t : Term) → same_term (below h t) f ≡ false → put f g (below h t) ≡ below (λ u. put f g (h u)) t
put_below f g h t e = put_is f g (below h t) ∙ ap (λ (b : Bool). if b then g else below (put f g) (below h t)) e ∙ below-below (put f g) h t

itself_lists : (ts : List Term) → map {A = Term} (λ t. t) ts ≡ ts
itself_lists [] = refl
itself_lists (t ∷ ts) = ap (λ us. t ∷ us) (itself_lists ts)

itself_form : (x : Term-F Term) → map-Term Term Term (λ t. t) x ≡ x
itself_form (Term-F.Sym n) = refl
itself_form (Term-F.Lit z) = refl
itself_form (Term-F.Add a b) = refl
itself_form (Term-F.Scale l a) = refl
itself_form (Term-F.App operator all) = ap (λ ts. Term-F.App operator ts) (itself_lists all)
itself_form (Term-F.RefSym n) = refl
itself_form (Term-F.RefLit n) = refl
itself_form Term-F.Nil = refl

pub below-itself : (t : Term) → below (λ u. u) t ≡ t
below-itself t = ap roll-Term (itself_form (out-Term t)) ∙ roll-out-Term t

abbrev pub tests : Term-F Term → Term-F (Term → Bool)
tests x = map-Term Term (Term → Bool) same_term x

-- the test of two terms by their forms
pub same_below : (h k : Term → Term) (s t : Term) (x y : Term-F Term) → out-Term s ≡ x → out-Term t ≡ y → same_term (below h s) (below k t) ≡ same_form (tests (map-Term Term Term h x)) (map-Term Term Term k y)
same_below h k s t x y e f =
    ap (λ (test : Term → Bool). test (below k t)) (fold-roll-Term (Term → Bool) (λ y t. same_form y (out-Term t)) (map-Term Term Term h (out-Term s)))
    ∙ ap (same_form (tests (map-Term Term Term h (out-Term s)))) (out-roll-Term (map-Term Term Term k (out-Term t)))
    ∙ ap (λ z. same_form (tests (map-Term Term Term h z)) (map-Term Term Term k (out-Term t))) e
    ∙ ap (λ z. same_form (tests (map-Term Term Term h x)) (map-Term Term Term k z)) f

pub node-None : (o : Origin) → node_term o None ≡ origin_term o
node-None o = ap (λ (c : Change). below c.under (origin_term o)) change-None ∙ below-itself (origin_term o)

pub node-More : (o : Origin) (p : Bor Puts) (f : Origin) (fp : Bor Puts) (g : Origin) (gp : Bor Puts) → same_term (node_term o p.now) (node_term f fp.now) ≡ false →
    node_term o (More p f fp g gp) ≡ put (node_term f fp.now) (node_term g gp.now) (node_term o p.now)
node-More o p f fp g gp e =
    ap (λ (c : Change). below c.under (origin_term o)) (change-More p f fp g gp) ∙ sym (put_below (node_term f fp.now) (node_term g gp.now) (under p.now) (origin_term o) e)

pub size_is : (t : Term) (x : Term-F Term) → out-Term t ≡ x → size t ≡ size_step (map-Term Term ℕ size x)
size_is t x e = fold_out-Term ℕ size_step t ∙ ap (λ y. size_step (map-Term Term ℕ size y)) e

-- what falls at each call
abbrev pub nodes_measure : Origin → Puts → Origin → Puts → ℕ
nodes_measure x p y q = room (node_weight x p + node_weight y q)

abbrev pub under_measure : Origin → Puts → Origin → Puts → ℕ
under_measure x p y q = room (node_weight x p + node_weight y q) + (2 * (change p).count + 2 * (change q).count + 5)

abbrev pub lists_measure : List Term → Puts → List Term → Puts → ℕ
lists_measure xs p ys q = room (sizes (map size xs) + (change p).weight + (sizes (map size ys) + (change q).weight))

abbrev pub apply_measure : Origin → Puts → Todo → ℕ
apply_measure x p t = room (node_weight x p + (question t).weight) + (2 * (change p).count + 1 + (question t).stage)

abbrev pub finish_measure : Origin → Puts → Todo → ℕ
finish_measure x p t = room (node_weight x p + (question t).weight) + (question t).stage

pub under_to_apply : (x : Origin) (p : Puts) (y : Origin) (q : Bor Puts) → apply_measure x p (Then y q) < under_measure x p y q.now
under_to_apply x p y q = rw (question-Then y q) (omega arith)

pub apply_to_apply : (x : Origin) (p : Bor Puts) (f : Origin) (fp : Bor Puts) (g : Origin) (gp : Bor Puts) (rest : Bor Todo) → apply_measure x p.now (Put f fp g gp rest) < apply_measure x (More p f fp g gp) rest.now
apply_to_apply x p f fp g gp rest =
    let same : node_weight x p.now + ((question rest.now).weight + put_weight f fp g gp) ≡ size (origin_term x) + ((change p.now).weight + put_weight f fp g gp) + (question rest.now).weight = omega arith in
    let e = ap room same in
    rw (question-Put f fp g gp rest, change-More p f fp g gp) (omega (arith, e))

pub apply_to_finish : (x : Origin) (t : Todo) → finish_measure x None t < apply_measure x None t
apply_to_finish x t = omega arith

pub finish_to_same : (x : Origin) (p : Puts) (f : Origin) (fp : Bor Puts) (g : Origin) (gp : Bor Puts) (rest : Bor Todo) → nodes_measure x p f fp.now < finish_measure x p (Put f fp g gp rest)
finish_to_same x p f fp g gp rest =
    let less = room_grows (node_weight x p + node_weight f fp.now) (node_weight x p + ((question rest.now).weight + put_weight f fp g gp)) 0 (omega arith) (omega arith) in
    rw (question-Put f fp g gp rest) (omega (arith, less))

pub finish_to_other : (x : Origin) (p : Puts) (f : Origin) (fp : Bor Puts) (g : Origin) (gp : Bor Puts) (rest : Bor Todo) → finish_measure g gp.now rest.now < finish_measure x p (Put f fp g gp rest)
finish_to_other x p f fp g gp rest =
    let less = room_grows (node_weight g gp.now + (question rest.now).weight) (node_weight x p + ((question rest.now).weight + put_weight f fp g gp)) (question rest.now).stage (omega arith) (omega (arith, short rest.now)) in
    rw (question-Put f fp g gp rest) (omega (arith, less))

pub finish_to_more : (x : Origin) (p : Bor Puts) (f : Origin) (fp : Bor Puts) (g : Origin) (gp : Bor Puts) (rest : Bor Todo) → finish_measure x (More p f fp g gp) rest.now < finish_measure x p.now (Put f fp g gp rest)
finish_to_more x p f fp g gp rest =
    let same : size (origin_term x) + ((change p.now).weight + put_weight f fp g gp) + (question rest.now).weight ≡ node_weight x p.now + ((question rest.now).weight + put_weight f fp g gp) = omega arith in
    let e = ap room same in
    rw (question-Put f fp g gp rest, change-More p f fp g gp) (omega (arith, e))

pub finish_to_apply : (x : Origin) (p : Bor Puts) (y : Origin) (q : Bor Puts) → apply_measure y q.now (With x p) < finish_measure x p.now (Then y q)
finish_to_apply x p y q =
    let same : node_weight y q.now + node_weight x p.now ≡ node_weight x p.now + node_weight y q.now = omega arith in
    let e = ap room same in
    rw (question-Then y q, question-With x p) (omega (arith, e))

pub finish_to_nodes : (x : Origin) (p : Puts) (y : Origin) (q : Bor Puts) → nodes_measure y q.now x p < finish_measure x p (With y q)
finish_to_nodes x p y q =
    let same : node_weight y q.now + node_weight x p ≡ node_weight x p + node_weight y q.now = omega arith in
    let e = ap room same in
    rw (question-With y q) (omega (arith, e))

-- parts that are less
pub nodes_to_under : (x a : Origin) (p : Puts) (y b : Origin) (q : Puts) → size (origin_term a) < size (origin_term x) → size (origin_term b) < size (origin_term y) → under_measure a p b q < nodes_measure x p y q
nodes_to_under x a p y b q l r =
    room_grows (node_weight a p + node_weight b q) (node_weight x p + node_weight y q) (2 * (change p).count + 2 * (change q).count + 5) (omega arith) (omega (arith, few p, few q))

pub lists_to_under : (x t : Term) (ts : List Term) (p : Puts) (y u : Term) (us : List Term) (q : Puts) → x ≡ t → y ≡ u →
    room (size x + (change p).weight + (size y + (change q).weight)) + (2 * (change p).count + 2 * (change q).count + 5) < lists_measure (t ∷ ts) p (u ∷ us) q
lists_to_under x t ts p y u us q e f =
    let a = ap size e in
    let b = ap size f in
    room_grows (size x + (change p).weight + (size y + (change q).weight)) (sizes (map size (t ∷ ts)) + (change p).weight + (sizes (map size (u ∷ us)) + (change q).weight)) (2 * (change p).count + 2 * (change q).count + 5) (omega (arith, a, b)) (omega (arith, few p, few q))

pub lists_to_lists : (t : Term) (ts : List Term) (p : Puts) (u : Term) (us : List Term) (q : Puts) → lists_measure ts p us q < lists_measure (t ∷ ts) p (u ∷ us) q
lists_to_lists t ts p u us q =
    let less = room_grows (sizes (map size ts) + (change p).weight + (sizes (map size us) + (change q).weight)) (sizes (map size (t ∷ ts)) + (change p).weight + (sizes (map size (u ∷ us)) + (change q).weight)) 0 (omega arith) (omega arith) in
    omega (arith, less)

pub nodes_to_lists : (x : Origin) (f : ℕ) (ts : List Term) (p : Puts) (y : Origin) (g : ℕ) (us : List Term) (q : Puts) → out-Term (origin_term x) ≡ Term-F.App f ts → out-Term (origin_term y) ≡ Term-F.App g us → lists_measure ts p us q < nodes_measure x p y q
nodes_to_lists x f ts p y g us q d e =
    let a : size (origin_term x) ≡ 1 + sizes (map size ts) = size_is (origin_term x) (Term-F.App f ts) d in
    let b : size (origin_term y) ≡ 1 + sizes (map size us) = size_is (origin_term y) (Term-F.App g us) e in
    let less = room_grows (sizes (map size ts) + (change p).weight + (sizes (map size us) + (change q).weight)) (node_weight x p + node_weight y q) 0 (omega (arith, a, b)) (omega arith) in
    omega (arith, less)

abbrev pub stands_measure : Origin → Puts → Origin → Puts → ℕ
stands_measure x p a q = room (node_weight x p + node_weight a q) + 1

abbrev pub stands_list_measure : List Term → Puts → Origin → Puts → ℕ
stands_list_measure xs p a q = room (sizes (map size xs) + (change p).weight + node_weight a q)

abbrev pub numbers_measure : Origin → Puts → ℕ
numbers_measure x p = room (node_weight x p)

abbrev pub numbers_list_measure : List Term → Puts → ℕ
numbers_list_measure xs p = room (sizes (map size xs) + (change p).weight)

pub finish_to_stands : (x : Origin) (p : Puts) (a : Origin) (q : Bor Puts) → stands_measure x p a q.now < finish_measure x p (Stands a q)
finish_to_stands x p a q = rw (question-Stands a q) (omega arith)

pub finish_to_numbers : (x : Origin) (p : Puts) → numbers_measure x p < finish_measure x p Numbers
finish_to_numbers x p =
    let same : node_weight x p ≡ node_weight x p + 0 = omega arith in
    let e = ap room same in
    rw question-Numbers (omega (arith, e))

pub stands_to_apply : (x b : Origin) (p : Puts) (a : Origin) (q : Bor Puts) → size (origin_term b) < size (origin_term x) → apply_measure b p (Stands a q) < stands_measure x p a q.now
stands_to_apply x b p a q lt =
    let less = room_grows (node_weight b p + node_weight a q.now) (node_weight x p + node_weight a q.now) (2 * (change p).count + 1 + 2) (omega arith) (omega (arith, few p)) in
    rw (question-Stands a q) (omega (arith, less))

-- the measure of `apply` at a term that stands in memory
abbrev pub whole_measure : Term → Puts → Todo → ℕ
whole_measure t p z = room (size t + (change p).weight + (question z).weight) + (2 * (change p).count + 1 + (question z).stage)

pub stands_list_to_apply : (t : Term) (ts : List Term) (p : Puts) (a : Origin) (q : Bor Puts) → whole_measure t p (Stands a q) < stands_list_measure (t ∷ ts) p a q.now
stands_list_to_apply t ts p a q =
    let less = room_grows (size t + (change p).weight + node_weight a q.now) (sizes (map size (t ∷ ts)) + (change p).weight + node_weight a q.now) (2 * (change p).count + 1 + 2) (omega arith) (omega (arith, few p)) in
    rw (question-Stands a q) (omega (arith, less))

pub stands_list_to_list : (t : Term) (ts : List Term) (p : Puts) (a : Origin) (q : Puts) → stands_list_measure ts p a q < stands_list_measure (t ∷ ts) p a q
stands_list_to_list t ts p a q =
    let less = room_grows (sizes (map size ts) + (change p).weight + node_weight a q) (sizes (map size (t ∷ ts)) + (change p).weight + node_weight a q) 0 (omega arith) (omega arith) in
    omega (arith, less)

pub stands_to_list : (x : Origin) (f : ℕ) (ts : List Term) (p : Puts) (a : Origin) (q : Puts) → out-Term (origin_term x) ≡ Term-F.App f ts → stands_list_measure ts p a q < stands_measure x p a q
stands_to_list x f ts p a q d =
    let e : size (origin_term x) ≡ 1 + sizes (map size ts) = size_is (origin_term x) (Term-F.App f ts) d in
    let less = room_grows (sizes (map size ts) + (change p).weight + node_weight a q) (node_weight x p + node_weight a q) 0 (omega (arith, e)) (omega arith) in
    omega (arith, less)

pub numbers_to_apply : (x b : Origin) (p : Puts) → size (origin_term b) < size (origin_term x) → apply_measure b p Numbers < numbers_measure x p
numbers_to_apply x b p lt =
    let less = room_grows (node_weight b p + 0) (node_weight x p) (2 * (change p).count + 1 + 1) (omega arith) (omega (arith, few p)) in
    rw question-Numbers (omega (arith, less))

pub numbers_list_to_apply : (t : Term) (ts : List Term) (p : Puts) → whole_measure t p Numbers < numbers_list_measure (t ∷ ts) p
numbers_list_to_apply t ts p =
    let less = room_grows (size t + (change p).weight + 0) (sizes (map size (t ∷ ts)) + (change p).weight) (2 * (change p).count + 1 + 1) (omega arith) (omega (arith, few p)) in
    rw question-Numbers (omega (arith, less))

pub numbers_list_to_list : (t : Term) (ts : List Term) (p : Puts) → numbers_list_measure ts p < numbers_list_measure (t ∷ ts) p
numbers_list_to_list t ts p =
    let less = room_grows (sizes (map size ts) + (change p).weight) (sizes (map size (t ∷ ts)) + (change p).weight) 0 (omega arith) (omega arith) in
    omega (arith, less)

pub numbers_to_list : (x : Origin) (f : ℕ) (ts : List Term) (p : Puts) → out-Term (origin_term x) ≡ Term-F.App f ts → numbers_list_measure ts p < numbers_measure x p
numbers_to_list x f ts p d =
    let e : size (origin_term x) ≡ 1 + sizes (map size ts) = size_is (origin_term x) (Term-F.App f ts) d in
    let less = room_grows (sizes (map size ts) + (change p).weight) (node_weight x p) 0 (omega (arith, e)) (omega arith) in
    omega (arith, less)

-- the terms within a term
firsts : (ts : List Term) → map {A = Term × List Term} (λ e. e.0) (map (λ y. (y, terms_within y)) ts) ≡ ts
firsts [] = refl
firsts (t ∷ ts) = ap (λ us. t ∷ us) (firsts ts)

seconds : (ts : List Term) → map {A = Term × List Term} (λ e. e.1) (map (λ y. (y, terms_within y)) ts) ≡ map terms_within ts
seconds [] = refl
seconds (t ∷ ts) = ap (λ us. terms_within t ∷ us) (seconds ts)

within_layer : (x : Term-F Term) → within_step (map-Term Term (Term × List Term) (λ y. (y, terms_within y)) x) ≡ roll-Term x ∷ parts_of (map-Term Term (List Term) terms_within x)
within_layer (Term-F.Sym n) = refl
within_layer (Term-F.Lit z) = refl
within_layer (Term-F.Add a b) = refl
within_layer (Term-F.Scale k a) = refl
within_layer (Term-F.App operator all) = rw (firsts all, seconds all)
within_layer (Term-F.RefSym n) = refl
within_layer (Term-F.RefLit n) = refl
within_layer Term-F.Nil = refl

-- the terms within a term with replacements in its parts
pub within_below : (h : Term → Term) (t : Term) (x : Term-F Term) → out-Term t ≡ x → terms_within (below h t) ≡ below h t ∷ parts_of (map-Term Term (List Term) terms_within (map-Term Term Term h x))
within_below h t x e =
    para-roll-Term (List Term) within_step (map-Term Term Term h (out-Term t)) ∙ within_layer (map-Term Term Term h (out-Term t)) ∙ ap (λ y. below h t ∷ parts_of (map-Term Term (List Term) terms_within (map-Term Term Term h y))) e

pub has-append : (xs ys : List Term) (a : Term) → has (xs ++ ys) a ≡ has xs a || has ys a
has-append [] ys a = refl
has-append (x ∷ xs) ys a = ap (λ b. same_term x a || b) (has-append xs ys a) ∙ regroup (same_term x a) (has xs a) (has ys a)
  where
    regroup : (b c d : Bool) → b || (c || d) ≡ (b || c) || d
    regroup true c d = refl
    regroup false c d = refl

-- the sort of a term with replacements in its parts
pub numbers_below : (h : Term → Term) (t : Term) (x : Term-F Term) → out-Term t ≡ x → of_numbers (below h t) ≡ number_step (map-Term Term Bool of_numbers (map-Term Term Term h x))
numbers_below h t x e =
    fold-roll-Term Bool number_step (map-Term Term Term h (out-Term t)) ∙ ap (λ y. number_step (map-Term Term Bool of_numbers (map-Term Term Term h y))) e

pub stands_here : (h : Term → Term) (t a : Term) → same_term (below h t) a ≡ true → has (terms_within (below h t)) a ≡ true
stands_here h t a e =
    ap (λ ts. has ts a) (within_below h t (out-Term t) refl) ∙ ap (λ b. b || has (parts_of (map-Term Term (List Term) terms_within (map-Term Term Term h (out-Term t)))) a) e

pub stands_in_parts : (h : Term → Term) (t a : Term) (x : Term-F Term) → same_term (below h t) a ≡ false → out-Term t ≡ x → has (terms_within (below h t)) a ≡ has (parts_of (map-Term Term (List Term) terms_within (map-Term Term Term h x))) a
stands_in_parts h t a x e is =
    ap (λ ts. has ts a) (within_below h t x is) ∙ ap (λ b. b || has (parts_of (map-Term Term (List Term) terms_within (map-Term Term Term h x))) a) e

pub asked-Stands : (a : Origin) (q : Bor Puts) (u : Term) → (question (Stands a q)).answer u ≡ has (terms_within u) (node_term a q.now)
asked-Stands a q u = ap (λ (z : Question). z.answer u) (question-Stands a q)

pub asked-Numbers : (u : Term) → (question Numbers).answer u ≡ of_numbers u
asked-Numbers u = ap (λ (z : Question). z.answer u) question-Numbers

-- what comes after the first
abbrev pub rest_of : List Term → List Term
rest_of xs = take (length xs - 1) (drop 1 xs)

pub first_and_rest : (xs : List Term) (x : Term) → 1 ≤ length xs → get_or xs 0 x ≡ x → xs ≡ x ∷ rest_of xs
first_and_rest [] x a d = absurd (omega arith)
first_and_rest (t ∷ ts) x a d = ap (λ u. u ∷ ts) d ∙ ap (λ us. x ∷ us) (sym (take_all (length (t ∷ ts) - 1) ts (omega arith)))

pub every_one : (ts : List Term) → ¬ (ts ≡ []) → (h : Term → Term) → every (map of_numbers (map h ts)) ≡ some_and_every (map of_numbers (map h ts))
every_one [] h f = absurd (h refl)
every_one (t ∷ ts) h f = refl
